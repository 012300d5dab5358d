-- The path of a curve, sample by sample: its cells are that of sample 0 and the moves from each sample's cell to the next one's.
use Rattle.std.proofs.Common.{◌≡◌, ℕ, zero, suc, ◌+◌, ◌-◌, ◌*◌, ◌<◌, ◌≤◌, T, ◌⊎◌, ◌↔◌, List, [], ◌∷◌, ◌++◌, map, length, sym, refl, ap, ◌∙◌, inl, inr, ⊎_elim, append_assoc, append-nil, mul-le-mul_left, arith, length-append}
use mathlib.Core.Logic.Iff
use mathlib.Core.List.Memᴰ
use mathlib.Core.List.{map-append, Memᴰ}
use Rattle.decide.specs.Refusal.{accepted}
use Rattle.decide.proofs.Truth.{both, at_most}
use Rattle.bezier.specs.Exact.{index, no_index}
use Rattle.rounding.specs.Nearest.{Owns, NextTo}
use Rattle.neighbours.specs.Steps.{first}
use Rattle.cube.specs.Cube.{Axis, Cell, Inside}
use Rattle.drawing.specs.declared.Choice.{Choice}
use Rattle.drawing.specs.Object.{Object, curve, scale_of, exact, cell_of}
use Rattle.drawing.specs.Refusals.{Drawable, draw_verdict}
use Rattle.drawing.specs.Drawing.{row, cells}
use Rattle.drawing.proofs.Samples.{one_row}
use Rattle.drawing.proofs.Accepted.{draw_accepted}
use Rattle.drawing.proofs.Cells.{cell_owns, cell_inside, cells_next_to}
use Rattle.drawing.proofs.Drawn.{Fits}
use Rattle.path.specs.Path.{moves, onward, path, ShareFace, within_one_and_aHalf, axis_moves, over_steps, path_length, path_drawing}
use Rattle.path.proofs.Paths as paths

-- Within one and a half as two inequalities.
within_one_and_a_half : (s c v : ℕ) →
    T (within_one_and_aHalf s c v) ↔ ((2 * v ≤ 2 * (s * c) + 3 * s) × (2 * (s * c) ≤ 2 * v + 3 * s))
unfolding within_one_and_aHalf
within_one_and_a_half s c v = simp (both, at_most) Iff.rfl

-- A coordinate next to one that owns a value is within one and a half of it.
one_and_a_half : (s c d v : ℕ) → Owns s c v → NextTo c d → T (within_one_and_aHalf s d v)
one_and_a_half s c d v w n =
    let up : s * d ≤ s * suc c = mul-le-mul_left s n.up in
    let down : s * c ≤ s * suc d = mul-le-mul_left s n.down in
    (within_one_and_a_half s d v).1 (omega (arith, up, down, w.up_to), omega (arith, up, down, w.above))

module _ (n : ℕ) (points : List ℕ) (mark : ℕ) (choice : Choice) where
  abbrev o : Object
  o = curve n points mark choice

  -- The cell of sample i.
  abbrev pub cell : ℕ → Cell
  cell i = cell_of o (i ∷ [])

  -- The cells of samples 0 to i.
  abbrev pub cells_to : ℕ → List Cell
  cells_to i = map (cell_of o) (row i [])

  pub all_cells : cells o ≡ cells_to n
  unfolding cells
  all_cells = ap (map (cell_of o)) (one_row n)

  -- One sample more.
  to_next : (i : ℕ) → cells_to (suc i) ≡ cells_to i ++ cell (suc i) ∷ []
  unfolding row
  to_next i = map-append (cell_of o) (row i []) ((suc i ∷ []) ∷ [])

  to_last : (i : ℕ) → (front : List Cell) × (cells_to i ≡ front ++ cell i ∷ [])
  unfolding row
  to_last zero = ([], refl)
  to_last (suc i) = (cells_to i, to_next i)

  pub path_next : (i : ℕ) → path (cells_to (suc i)) ≡ path (cells_to i) ++ moves (cell i) (cell (suc i))
  path_next i =
      let f = to_last i in
      ap path (to_next i ∙ ap (◌++ cell (suc i) ∷ []) f.1) ∙
      paths.path_more f.0 (cell i) (cell (suc i)) ∙
      ap (λ l. path l ++ moves (cell i) (cell (suc i))) (sym f.1)

  pub steps_next : (f : Cell → Cell → ℕ) (i : ℕ) →
      over_steps f (cells_to (suc i)) ≡ over_steps f (cells_to i) + f (cell i) (cell (suc i))
  steps_next f i =
      let l = to_last i in
      ap (over_steps f) (to_next i ∙ ap (◌++ cell (suc i) ∷ []) l.1) ∙
      paths.steps_more f l.0 (cell i) (cell (suc i)) ∙
      ap (λ k. over_steps f k + f (cell i) (cell (suc i))) (sym l.1)

  pub path_first : path (cells_to 0) ≡ cell 0 ∷ []
  unfolding row path onward
  path_first = refl

  pub steps_first : (f : Cell → Cell → ℕ) → over_steps f (cells_to 0) ≡ 0
  unfolding row over_steps
  steps_first f = refl

  -- The number of cells: one, and the axis moves of each step.
  length_to : (i : ℕ) → length (path (cells_to i)) ≡ suc (over_steps axis_moves (cells_to i))
  length_to zero = rw (path_first, steps_first axis_moves)
  length_to (suc i) =
      rw (path_next i, length-append, length_to i, steps_next axis_moves i, paths.length_moves (cell i) (cell (suc i))) (omega arith)

  pub path_length_lem : path_length o ≡ suc (over_steps axis_moves (cells o))
  unfolding path_length
  path_length_lem = rw all_cells (length_to n)

  -- At most three a step.
  pub steps_at_most : (i : ℕ) → over_steps axis_moves (cells_to i) ≤ 3 * i
  steps_at_most zero = rw (steps_first axis_moves) (omega arith)
  steps_at_most (suc i) =
      rw (steps_next axis_moves i) (omega (arith, steps_at_most i, paths.moves_at_most (cell i) (cell (suc i))))

  pub length_at_most : (i : ℕ) → length (path (cells_to i)) ≤ 3 * i + 1
  length_at_most i = rw (length_to i) (omega (arith, steps_at_most i))

  pub path_at_most : path_length o ≤ 3 * n + 1
  path_at_most = rw (path_length_lem, all_cells) (omega (arith, steps_at_most n))

  -- A cell of a step: of the moves from sample k to the next.
  pub record OnStep (i : ℕ) (c : Cell) : Type 0 where
    pub index : ℕ
    pub below : index < i
    pub is_move : Memᴰ c (moves (cell index) (cell (suc index)))

  on_path_to : (i : ℕ) (c : Cell) → Memᴰ c (path (cells_to i)) → (c ≡ cell 0) ⊎ OnStep i c
  on_path_to zero c m = inl (Memᴰ.eq_of_singleton (rw path_first at m))
  on_path_to (suc i) c m =
      ⊎_elim
      (λ l. ⊎_elim (λ e. inl e) (λ s. inr (record { index = s.index; below = omega (arith, s.below); is_move = s.is_move }))
      (on_path_to i c l))
      (λ r. inr (record { index = i; below = omega arith; is_move = r }))
      (Memᴰ.append_cases (path (cells_to i)) (rw (path_next i) at m))

  -- The path's cells are that of sample 0 and those of the steps.
  pub on_path : (c : Cell) → Memᴰ c (path (cells o)) → (c ≡ cell 0) ⊎ OnStep n c
  on_path c m = on_path_to n c (rw all_cells at m)

  -- A path grows at its end.
  grown : (i k : ℕ) → (rest : List Cell) × (path (cells_to (k + i)) ≡ path (cells_to i) ++ rest)
  grown i zero = let e : 0 + i ≡ i = omega arith in ([], rw e (sym (append-nil (path (cells_to i)))))
  grown i (suc k) =
      let e : suc k + i ≡ suc (k + i) = omega arith in
      let r = grown i k in
      let more : List Cell = moves (cell (k + i)) (cell (suc (k + i))) in
      (r.0 ++ more, rw e (path_next (k + i) ∙ ap (◌++ more) r.1 ∙ append_assoc (path (cells_to i)) r.0 more))

  pub path_from : (i : ℕ) → i ≤ n → (rest : List Cell) × (path (cells o) ≡ path (cells_to i) ++ rest)
  path_from i h =
      let e : (n - i) + i ≡ n = omega arith in
      let r = grown i (n - i) in
      (r.0, ap path all_cells ∙ ap (λ k. path (cells_to k)) (sym e) ∙ r.1)

  -- The cells of every step are on it.
  pub move_on_path : (k : ℕ) → k < n → {c : Cell} → Memᴰ c (moves (cell k) (cell (suc k))) → Memᴰ c (path (cells o))
  move_on_path k h m =
      let r = path_from (suc k) h in
      rw (r.1, path_next k) (Memᴰ.append_left r.0 (Memᴰ.append_right (path (cells_to k)) m))

  module _ {S : ℕ} (d : Drawable S o) where
    next_to : (i : ℕ) → i < n → (a : Axis) → NextTo (cell i a) (cell (suc i) a)
    next_to i h = cells_next_to d (first h no_index)

    -- Along the path each cell shares a face with the one before it.
    chain_to : (i : ℕ) → i ≤ n → (rest : List Cell) × (path (cells_to i) ≡ cell 0 ∷ rest) × paths.Chain (cell 0) rest (cell i)
    chain_to zero h = ([], path_first, paths.stay)
    chain_to (suc i) h =
        let c = chain_to i (omega arith) in
        let more : List Cell = moves (cell i) (cell (suc i)) in (
          c.0 ++ more,
          path_next i ∙ ap (◌++ more) c.1,
          paths.chain_append c.2 (paths.moves_chain (cell i) (cell (suc i)) (next_to i h)),
        )

    pub share_face : (before after : List Cell) (b c : Cell) → path (cells o) ≡ before ++ b ∷ c ∷ after → ShareFace b c
    share_face before after b c e =
        let w = chain_to n (omega arith) in
        paths.chain_faces w.2 before after b c (sym (ap path all_cells ∙ w.1) ∙ e)

    -- The cell of every sample is on the path.
    pub sample_on_path : (k : ℕ) → k ≤ n → Memᴰ (cell k) (path (cells o))
    sample_on_path k h =
        let w = chain_to k h in
        let r = path_from k h in
        rw (r.1, w.1) (Memᴰ.append_left r.0 (paths.chain_last w.2))

    pub inside_at : (i : ℕ) → i ≤ n → Inside S (cell i)
    inside_at i h = cell_inside d (index h no_index)

    -- The path stays in the cube.
    pub move_inside : (k : ℕ) → k < n → {c : Cell} → Memᴰ c (moves (cell k) (cell (suc k))) → Inside S c
    move_inside k h m a =
        ⊎_elim (λ e. rw e (inside_at k (omega arith) a)) (λ e. rw e (inside_at (suc k) h a))
        (paths.moves_between (cell k) (cell (suc k)) m a)

    pub path_inside : (c : Cell) → Memᴰ c (path (cells o)) → Inside S c
    path_inside c m =
        ⊎_elim (λ e. rw e (inside_at 0 (omega arith))) (λ s. move_inside s.index s.below s.is_move) (on_path c m)

    -- A cell of a step is within one and a half of the sample before it.
    pub move_near : (k : ℕ) → k < n → {c : Cell} → Memᴰ c (moves (cell k) (cell (suc k))) → (a : Axis) →
        T (within_one_and_aHalf (scale_of o) (c a) (exact o a (k ∷ [])))
    move_near k h {c} m a =
        let owns = cell_owns d (k ∷ []) a in
        ⊎_elim
        (λ e. rw e (one_and_a_half (scale_of o) (cell k a) (cell k a) (exact o a (k ∷ [])) owns (record { up = omega arith; down = omega arith })))
        (λ e. rw e (one_and_a_half (scale_of o) (cell k a) (cell (suc k) a) (exact o a (k ∷ [])) owns (next_to k h a)))
        (paths.moves_between (cell k) (cell (suc k)) m a)

-- An accepted drawing fits.
pub path_fits : (S n : ℕ) (points : List ℕ) (mark : ℕ) (choice : Choice) (len : ℕ) →
    draw_verdict S len (curve n points mark choice) ≡ accepted → Fits (path_drawing S (curve n points mark choice)) len
path_fits S n points mark choice len e =
    let w = (draw_accepted S (curve n points mark choice) len).0 e in
    record { cube = w.1; mark = w.2; inside = path_inside n points mark choice w.0 }
