-- Demand 3 holds. Draws of every kind, over or under, supply what the list argument asks: the cells of an accepted one are near
-- its object, inside the cube, and at places of their own.
use mathlib.Core.Path.{◌≡◌, sym, ◌∙◌, ap, ap₂, fun_ext, subst}
use mathlib.Core.Logic.{◌⊎◌, inl, inr, ⊎_elim}
use mathlib.Core.List.{List, [], ◌∷◌, ◌++◌, Memᴰ}
use Prim.Native.Nat.{ℕ, ◌≤◌}
use lib.ListN.{length, get_or}
use Rattle.cube.specs.Cube.{Cell, Inside, place, volume}
use Rattle.drawing.specs.Refusals.{Drawable}
use Rattle.drawing.specs.Drawing.{Drawing, written, drawn_by}
use Rattle.cube.proofs.Places.{place_below, place_injective, volume_injective}
use Rattle.drawing.proofs.Drawn.{PlaceOf, length_drawn, drawn_holds, drawn_there}
use Rattle.claims.specs.Demand3.{Call, drawing_by, object_of, run, Accepted, Near, MarkOfNearObject, After, Claim}
use Rattle.claims.proofs.Turns.{Supplies, MarkedBy, turns_length, turns_keep_or_mark, turns_last}
use Rattle.claims.proofs.Supplied.{holding, supplied}

-- A byte is the mark of a call's drawing, and its place is that of one of the drawing's cells.
pub record MarksPlace (call : Call) (q byte : ℕ) : Type 0 where
  pub its_mark : byte ≡ (drawing_by call).mark
  pub its_place : PlaceOf (drawing_by call).side (drawing_by call).cells q

-- What draws of every kind supply.
abbrev calls_supply : Supplies Call
calls_supply = record {
  draw = λ call. drawn_by (drawing_by call);
  Good = Accepted;
  Marks = MarksPlace;
  keeps_length = λ call grid. length_drawn (drawing_by call) grid;
  keeps_or_marks = λ call grid q h.
      ⊎_elim (λ kept. inl kept) (λ w. inr (w.0, record { its_mark = w.2; its_place = w.1 }))
      (drawn_holds (drawing_by call) grid q h);
}

module _ (S : ℕ) (start : List ℕ) (cube : length start ≡ volume S) where
  -- An accepted call has the cube's side.
  side_same : (call : Call) → Accepted (length start) call → (drawing_by call).side ≡ S
  side_same call e = volume_injective (drawing_by call).side S (sym ((supplied call).fits (length start) e).cube ∙ cube)

  drawable : (call : Call) → Accepted (length start) call → Drawable S (object_of call)
  drawable call e =
      subst (λ side. Drawable side (object_of call)) (side_same call e) ((supplied call).drawable (length start) e)

  each_cell : (calls : List Call) (c : Cell) → Inside S c →
      (get_or (run calls start) (place S c) 0 ≡ get_or start (place S c) 0) ⊎
      MarkOfNearObject (length start) calls c (get_or (run calls start) (place S c) 0)
  unfolding run
  each_cell calls c inside =
      ⊎_elim (λ kept. inl kept) (λ m. inr (near m))
      (turns_keep_or_mark calls_supply calls start (place S c) (rw cube (place_below S c inside)))
    where
      near : MarkedBy calls_supply calls (length start) (place S c) (get_or (run calls start) (place S c) 0) →
          MarkOfNearObject (length start) calls c (get_or (run calls start) (place S c) 0)
      near m =
          let s = supplied m.by in
          let side = side_same m.by m.good in
          let p = m.marks.its_place in
          let there : Inside S p.cell =
          subst (λ side. Inside side p.cell) side ((s.fits (length start) m.good).inside p.cell p.is_one) in
          let same : c ≡ p.cell =
          fun_ext (place_injective S c p.cell inside there (p.at ∙ ap (λ side. place side p.cell) side)) in
          record {
            call = m.by;
            of_the_list = m.of_list;
            is_accepted = m.good;
            its_mark = m.marks.its_mark ∙ s.mark;
            is_near = subst (Near m.by) (sym same) (s.near (drawable m.by m.good) p.cell p.is_one);
          }

  each_object : (before : List Call) (call : Call) → Accepted (length start) call →
      After call S (run before start) (run (before ++ call ∷ []) start)
  unfolding run
  each_object before call e =
      let s = supplied call in
      let d : Drawing = drawing_by call in
      let grid : List ℕ = run before start in
      let then : Accepted (length grid) call =
      subst (λ len. Accepted len call) (sym (turns_length calls_supply before start)) e in
      let fits = s.fits (length grid) then in
      let there : (c : Cell) → Memᴰ c d.cells →
      get_or (run (before ++ call ∷ []) start) (place S c) 0 ≡ written d.choice d.mark (get_or grid (place S c) 0) =
      λ c m.
      ap (λ g. get_or g (place S c) 0) (turns_last calls_supply before call start) ∙
      subst (λ side. get_or (drawn_by d grid) (place side c) 0 ≡ written d.choice d.mark (get_or grid (place side c) 0))
      (side_same call e) (drawn_there d grid then fits m) in
      s.after (drawable call e)
      (λ c m. holding (subst (1 ≤◌) s.mark fits.mark)
      (there c m ∙ ap₂ (λ choice mark. written choice mark (get_or grid (place S c) 0)) s.choice s.mark))

-- Demand 3.
pub claim : Claim
claim = record {
  demand_3 = λ S start cube calls. record {
    each_cell = each_cell S start cube calls;
    each_object = λ before after call splits e. each_object S start cube before call e;
  };
}
