-- Calls to the functions that draw are the calls of demand 3: what each contract gives is one turn of `run`.
use mathlib.Core.Path.{◌≡◌, refl, ◌∙◌, ap}
use mathlib.Core.List.{List, [], ◌∷◌}
use Prim.Native.Nat.{ℕ}
use Rattle.std.specs.Prelude.{Result}
use Rattle.decide.specs.declared.Refusal.{Refusal}
use Rattle.drawing.specs.Drawing.{in_turn}
use Rattle.scan.specs.declared.answer.Drawn.{Drawn}
use Rattle.scan.specs.Answer.{Draws}
use Rattle.claims.specs.Demand3.{Call, drawing_by, run}
use Rattle.claims.specs.Calls.{curve_call, patch_call, solid_call, chosen_call, path_call, strip_curve_call, strip_patch_call, Called, none}
use Rattle.claims.specs.Calls.{curve_then, patch_then, solid_then, chosen_then, path_then, strip_curve_then, strip_patch_then}

-- One call, of whatever kind, by its contract.
pub turn : (call : Call) {grid after : List ℕ} {r : Result Drawn Refusal} → Draws (drawing_by call) grid after r →
    after ≡ run (call ∷ []) grid
unfolding run in_turn
turn call d = d.leaves

-- Then the others.
and_then : (call : Call) (calls : List Call) {grid next after : List ℕ} {r : Result Drawn Refusal} →
    Draws (drawing_by call) grid next r → after ≡ run calls next → after ≡ run (call ∷ calls) grid
unfolding run in_turn
and_then call calls d rest = rest ∙ ap (run calls) (turn call d)

-- Calls in turn leave what the list of the theorem leaves.
pub called_run : {calls : List Call} {grid after : List ℕ} → Called calls grid after → after ≡ run calls grid
unfolding run in_turn
called_run none = refl
called_run (curve_then {side} {c} {calls = calls} d rest) = and_then (curve_call side c) calls d (called_run rest)
called_run (patch_then {side} {p} {calls = calls} d rest) = and_then (patch_call side p) calls d (called_run rest)
called_run (solid_then {side} {s} {calls = calls} d rest) = and_then (solid_call side s) calls d (called_run rest)
called_run (chosen_then {side} c {calls = calls} d rest) = and_then (chosen_call side c) calls d (called_run rest)
called_run (path_then {side} {c} {calls = calls} d rest) = and_then (path_call side c) calls d (called_run rest)
called_run (strip_curve_then {side} {c} {calls = calls} d rest) = and_then (strip_curve_call side c) calls d (called_run rest)
called_run (strip_patch_then {side} {p} {calls = calls} d rest) = and_then (strip_patch_call side p) calls d (called_run rest)
