-- Laws of paths through any cells: every cell on the way has on each axis the coordinate of the one end or of the other, and where
-- the ends differ by at most one on each axis, neighbours share a face.
use Rattle.std.proofs.Common.{◌≡◌, ℕ, suc, ◌+◌, ◌≤◌, Bool, true, false, cond, eqb, ltb, ◌⊎◌, List, [], ◌∷◌, ◌++◌, length, get_or, drop, sym, refl, ap, ◌∙◌, subst, inl, inr, ⊎_elim, append_assoc, append-nil, arith, length-append}
use mathlib.Core.Path.{fun_ext}
use mathlib.Core.List.Memᴰ
use mathlib.Core.List.{Memᴰ}
use Rattle.decide.proofs.Truth.{decided, equal, less, not_less, true_of, false_of}
use Rattle.rounding.specs.Nearest.{NextTo}
use Rattle.cube.specs.Cube.{Axis, x_axis, y_axis, z_axis, Cell, Inside}
use Rattle.drawing.specs.Object.{offset}
use Rattle.path.specs.Path.{moved, move, moves, onward, path, ShareFace, move_of, axis_moves, over_steps}

-- A cell after one axis has moved.
module _ (from to : Cell) where
  pub moved_there : (a : Axis) → moved a from to a ≡ to a
  unfolding moved offset
  moved_there x_axis = refl
  moved_there y_axis = refl
  moved_there z_axis = refl

  pub moved_else : (a b : Axis) → ¬ (b ≡ a) → moved a from to b ≡ from b
  unfolding moved offset
  moved_else x_axis x_axis n = absurd (n refl)
  moved_else x_axis y_axis n = refl
  moved_else x_axis z_axis n = refl
  moved_else y_axis x_axis n = refl
  moved_else y_axis y_axis n = absurd (n refl)
  moved_else y_axis z_axis n = refl
  moved_else z_axis x_axis n = refl
  moved_else z_axis y_axis n = refl
  moved_else z_axis z_axis n = absurd (n refl)

  -- After all three it is the other cell.
  pub moved_all : moved z_axis (moved y_axis (moved x_axis from to) to) to ≡ to
  unfolding moved offset
  moved_all = fun_ext each
    where
      each : (a : Axis) → moved z_axis (moved y_axis (moved x_axis from to) to) to a ≡ to a
      each x_axis = refl
      each y_axis = refl
      each z_axis = refl

  -- An axis that stays leaves the cell.
  pub moved_stays : (a : Axis) → from a ≡ to a → moved a from to ≡ from
  unfolding moved offset
  moved_stays a e = fun_ext (each a e)
    where
      each : (a : Axis) → from a ≡ to a → (b : Axis) → moved a from to b ≡ from b
      each x_axis e x_axis = sym e
      each x_axis e y_axis = refl
      each x_axis e z_axis = refl
      each y_axis e x_axis = refl
      each y_axis e y_axis = sym e
      each y_axis e z_axis = refl
      each z_axis e x_axis = refl
      each z_axis e y_axis = refl
      each z_axis e z_axis = sym e

-- On each axis the coordinate of the one cell or of the other.
abbrev pub Between : (from to c : Cell) → Type 0
Between from to c = (a : Axis) → (c a ≡ from a) ⊎ (c a ≡ to a)

either : (t : Bool) (p q : ℕ) → (cond t p q ≡ q) ⊎ (cond t p q ≡ p)
either true p q = inr refl
either false p q = inl refl

between_moved : (from to f : Cell) (a : Axis) → Between from to f → Between from to (moved a f to)
unfolding moved
between_moved from to f a w b =
    ⊎_elim (λ e. ⊎_elim (λ h. inl (e ∙ h)) (λ h. inr (e ∙ h)) (w b)) (λ e. inr e) (either (eqb (offset a) (offset b)) (to b) (f b))

-- What is between two cells of a cube is in it.
pub moved_inside : {S : ℕ} (a : Axis) {from to : Cell} → Inside S from → Inside S to → Inside S (moved a from to)
moved_inside a {from} {to} f t b =
    ⊎_elim (λ e. rw e (f b)) (λ e. rw e (t b)) (between_moved from to from a (λ b. inl refl) b)

-- What is written for one axis is the cell after its move.
move_is : (a : Axis) (from to : Cell) {c : Cell} → Memᴰ c (move a from to) → c ≡ moved a from to
unfolding move
move_is a from to m = by_test (eqb (from a) (to a)) m
  where
    by_test : (t : Bool) {c : Cell} → Memᴰ c (cond t [] (moved a from to ∷ [])) → c ≡ moved a from to
    by_test true m = absurd (Memᴰ.not-nil m)
    by_test false m = Memᴰ.eq_of_singleton m

-- A move's cells are between its ends.
pub moves_between : (from to : Cell) {c : Cell} → Memᴰ c (moves from to) → Between from to c
unfolding moves
moves_between from to {c} m =
    let after_x : Cell = moved x_axis from to in
    let after_y : Cell = moved y_axis after_x to in
    let start : Between from to from = λ a. inl refl in
    let x = between_moved from to from x_axis start in
    let y = between_moved from to after_x y_axis x in
    let z = between_moved from to after_y z_axis y in
    ⊎_elim
    (λ l. ⊎_elim (λ k. is (move_is x_axis from to k) x) (λ k. is (move_is y_axis after_x to k) y)
    (Memᴰ.append_cases (move x_axis from to) l))
    (λ r. is (move_is z_axis after_y to r) z)
    (Memᴰ.append_cases (move x_axis from to ++ move y_axis after_x to) m)
  where
    is : {f : Cell} → c ≡ f → Between from to f → Between from to c
    is e w = subst (Between from to) (sym e) w

-- From a cell through others to the last of them, each sharing a face with the one before it.
pub data Chain : Cell → List Cell → Cell → Type 0 where
  stay : {c : Cell} → Chain c [] c
  step : {c d e : Cell} {cs : List Cell} → ShareFace c d → Chain d cs e → Chain c (d ∷ cs) e

pub chain_append : {c d e : Cell} {cs ds : List Cell} → Chain c cs d → Chain d ds e → Chain c (cs ++ ds) e
chain_append stay t = t
chain_append (step f s) t = step f (chain_append s t)

-- The last is one of them.
pub chain_last : {c d : Cell} {cs : List Cell} → Chain c cs d → Memᴰ d (c ∷ cs)
chain_last stay = Memᴰ.head refl
chain_last (step f s) = Memᴰ.tail (chain_last s)

-- Any two that follow one another share a face.
pub chain_faces : {a e : Cell} {cs : List Cell} → Chain a cs e → (before after : List Cell) (c d : Cell) →
    a ∷ cs ≡ before ++ c ∷ d ∷ after → ShareFace c d
chain_faces stay before after c d e = absurd (omega (arith, ap length e, length-append before (c ∷ d ∷ after)))
chain_faces (step {c = a} f s) [] after c d e =
    subst (λ k. ShareFace k d) (ap (λ l. get_or l 0 c) e) (subst (ShareFace a) (ap (λ l. get_or l 1 c) e) f)
chain_faces (step f s) (b ∷ before) after c d e = chain_faces s before after c d (ap (drop 1) e)

-- Coordinates that are next to each other and differ, differ by one.
by_one : {c d : ℕ} → NextTo c d → ¬ (c ≡ d) → (d ≡ suc c) ⊎ (c ≡ suc d)
by_one {c} {d} n h =
    ⊎_elim (λ t. inl (omega (arith, (less c d).0 t, n.up))) (λ f. inr (omega (arith, h, not_less c d f, n.down))) (decided (ltb c d))

-- One axis, where its coordinates differ by at most one.
move_chain : (a : Axis) (from to : Cell) → NextTo (from a) (to a) → Chain from (move a from to) (moved a from to)
unfolding move
move_chain a from to n =
    ⊎_elim
    (λ t. let e = (equal (from a) (to a)).0 t in
    rw (true_of (eqb (from a) (to a)) t, moved_stays from to a e) stay)
    (λ f. rw (false_of (eqb (from a) (to a)) f) (step {c = from} {d = moved a from to} (record {
      axis = a;
      by_one = rw (moved_there from to a) (by_one n (λ e. f ((equal (from a) (to a)).1 e)));
      elsewhere = λ b d. sym (moved_else from to a b d);
    }) stay))
    (decided (eqb (from a) (to a)))

-- The moves from one cell to the next.
pub moves_chain : (from to : Cell) → ((a : Axis) → NextTo (from a) (to a)) → Chain from (moves from to) to
unfolding moves moved offset
moves_chain from to n =
    let after_x : Cell = moved x_axis from to in
    let after_y : Cell = moved y_axis after_x to in
    subst (λ c. Chain from (moves from to) c) (moved_all from to)
    (chain_append
    (chain_append (move_chain x_axis from to (n x_axis)) (move_chain y_axis after_x to (n y_axis)))
    (move_chain z_axis after_y to (n z_axis)))

-- One step more.
onward_more : (from : Cell) (cs : List Cell) (c d : Cell) →
    onward from ((cs ++ c ∷ []) ++ d ∷ []) ≡ onward from (cs ++ c ∷ []) ++ moves c d
unfolding onward
onward_more from [] c d = rw (append-nil (moves c d), append-nil (moves from c))
onward_more from (b ∷ cs) c d = ap (moves from b ++◌) (onward_more b cs c d) ∙ sym (append_assoc (moves from b) _ _)

pub path_more : (cs : List Cell) (c d : Cell) → path ((cs ++ c ∷ []) ++ d ∷ []) ≡ path (cs ++ c ∷ []) ++ moves c d
unfolding path onward
path_more [] c d = ap (c ∷◌) (append-nil (moves c d))
path_more (b ∷ cs) c d = ap (b ∷◌) (onward_more b cs c d)

pub steps_more : (f : Cell → Cell → ℕ) (cs : List Cell) (c d : Cell) →
    over_steps f ((cs ++ c ∷ []) ++ d ∷ []) ≡ over_steps f (cs ++ c ∷ []) + f c d
unfolding over_steps
steps_more f [] c d = omega arith
steps_more f (b ∷ []) c d = omega arith
steps_more f (a ∷ b ∷ cs) c d = omega (arith, steps_more f (b ∷ cs) c d)

-- The axis moves of all steps are those of each axis.
pub by_axes : (cs : List Cell) →
    over_steps axis_moves cs ≡ over_steps (move_of x_axis) cs + over_steps (move_of y_axis) cs + over_steps (move_of z_axis) cs
unfolding over_steps axis_moves
by_axes [] = refl
by_axes (c ∷ []) = refl
by_axes (c ∷ d ∷ cs) = omega (arith, by_axes (d ∷ cs))

-- As many cells as axes move.
pub length_move : (a : Axis) (from to : Cell) → length (move a from to) ≡ move_of a from to
unfolding move move_of
length_move a from to = by_test (eqb (from a) (to a))
  where
    by_test : (t : Bool) → length (cond t [] (moved a from to ∷ [])) ≡ cond t 0 1
    by_test true = refl
    by_test false = refl

pub length_moves : (from to : Cell) → length (moves from to) ≡ axis_moves from to
unfolding moves axis_moves moved offset move_of
length_moves from to =
    let after_x : Cell = moved x_axis from to in
    let after_y : Cell = moved y_axis after_x to in
    rw (length-append, length-append, length_move x_axis from to, length_move y_axis after_x to, length_move z_axis after_y to)

-- At most three a step.
move_at_most : (a : Axis) (from to : Cell) → move_of a from to ≤ 1
unfolding move_of
move_at_most a from to = by_test (eqb (from a) (to a))
  where
    by_test : (t : Bool) → cond t 0 1 ≤ 1
    by_test true = omega arith
    by_test false = omega arith

pub move_short : (a : Axis) (from to : Cell) → length (move a from to) ≤ 1
move_short a from to = rw (length_move a from to) (move_at_most a from to)

pub moves_at_most : (from to : Cell) → axis_moves from to ≤ 3
unfolding axis_moves
moves_at_most from to =
    omega (arith, move_at_most x_axis from to, move_at_most y_axis from to, move_at_most z_axis from to)
