-- Calls to the functions that draw, as calls of demand 3's list.
use Rattle.std.specs.Prelude.{List, [], ◌∷◌, ℕ, Result}
use Rattle.decide.specs.declared.Refusal.{Refusal}
use Rattle.scan.specs.declared.answer.Drawn.{Drawn}
use Rattle.drawing.specs.Drawing.{drawing_of}
use Rattle.scan.specs.Answer.{Draws}
use Rattle.curve.specs.declared.Curve.{Curve}
use Rattle.curve.specs.Curve.{curve_of}
use Rattle.chosen.specs.Chosen.{chosen_drawing}
use Rattle.path.specs.Path.{path_drawing}
use Rattle.patch.specs.declared.Patch.{Patch}
use Rattle.patch.specs.Patch.{patch_of}
use Rattle.solid.specs.declared.Solid.{Solid}
use Rattle.solid.specs.Solid.{solid_of}
use Rattle.strip.specs.Strip.{strip_drawing}
use Rattle.claims.specs.Demand3.{Call, draw_curve, draw_patch, draw_solid, draw_chosen, draw_path, draw_strip_curve, draw_strip_patch}

-- A call of `draw_curve`, one of `draw_patch`, one of `draw_solid`, one of `draw_chosen`, one of `draw_path`, one of
-- `draw_strip_curve` and one of `draw_strip_patch`.
abbrev pub curve_call : (side : ℕ) → Curve → Call
curve_call side c = draw_curve side c.steps c.points c.mark c.choice

abbrev pub patch_call : (side : ℕ) → Patch → Call
patch_call side p = draw_patch side p.n p.m p.points p.mark p.choice

abbrev pub solid_call : (side : ℕ) → Solid → Call
solid_call side s = draw_solid side s.n s.m s.l s.points s.mark s.choice

abbrev pub chosen_call : (side : ℕ) → Curve → Call
chosen_call side c = draw_chosen side c.points c.mark c.choice

abbrev pub path_call : (side : ℕ) → Curve → Call
path_call side c = draw_path side c.steps c.points c.mark c.choice

abbrev pub strip_curve_call : (side : ℕ) → Curve → Call
strip_curve_call side c = draw_strip_curve side c.steps c.points c.mark c.choice

abbrev pub strip_patch_call : (side : ℕ) → Patch → Call
strip_patch_call side p = draw_strip_patch side p.n p.m p.points p.mark p.choice

-- Calls of the seven functions in turn, each with the grid as the last one left it, as their contracts have it: the list
-- of calls, the grid at the start and the grid in the end.
pub data Called : List Call → List ℕ → List ℕ → Type 0 where
  none : {grid : List ℕ} → Called [] grid grid
  curve_then : {side : ℕ} {c : Curve} {r : Result Drawn Refusal} {calls : List Call} {grid next after : List ℕ} →
      Draws (drawing_of side (curve_of c)) grid next r → Called calls next after → Called (curve_call side c ∷ calls) grid after
  patch_then : {side : ℕ} {p : Patch} {r : Result Drawn Refusal} {calls : List Call} {grid next after : List ℕ} →
      Draws (drawing_of side (patch_of p)) grid next r → Called calls next after → Called (patch_call side p ∷ calls) grid after
  solid_then : {side : ℕ} {s : Solid} {r : Result Drawn Refusal} {calls : List Call} {grid next after : List ℕ} →
      Draws (drawing_of side (solid_of s)) grid next r → Called calls next after → Called (solid_call side s ∷ calls) grid after
  chosen_then : {side : ℕ} (c : Curve) {r : Result Drawn Refusal} {calls : List Call} {grid next after : List ℕ} →
      Draws (chosen_drawing side c.points c.mark c.choice) grid next r → Called calls next after →
      Called (chosen_call side c ∷ calls) grid after
  path_then : {side : ℕ} {c : Curve} {r : Result Drawn Refusal} {calls : List Call} {grid next after : List ℕ} →
      Draws (path_drawing side (curve_of c)) grid next r → Called calls next after → Called (path_call side c ∷ calls) grid after
  strip_curve_then : {side : ℕ} {c : Curve} {r : Result Drawn Refusal} {calls : List Call} {grid next after : List ℕ} →
      Draws (strip_drawing side (curve_of c)) grid next r → Called calls next after → Called (strip_curve_call side c ∷ calls) grid after
  strip_patch_then : {side : ℕ} {p : Patch} {r : Result Drawn Refusal} {calls : List Call} {grid next after : List ℕ} →
      Draws (strip_drawing side (patch_of p)) grid next r → Called calls next after → Called (strip_patch_call side p ∷ calls) grid after
