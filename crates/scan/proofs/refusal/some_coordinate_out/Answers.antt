-- `some_coordinate_out` meets its contract: the test of each coordinate is that of the definition.
use Rattle.std.proofs.Common.{rules, tests, ◌≡◌, ◌∙◌, ◌||◌, refl, ap, Bool, ℕ, List, [], ◌∷◌}
use Rattle.std.specs.List.{list_any}
use Rattle.std.proofs.lemmas.Iterator.{YieldsList-from_slice}
use Rattle.std.proofs.lemmas.Iterator.Search.{any_from_yields_List}
use Rattle.decide.specs.Some.{some_of}
use Rattle.drawing.specs.Refusals.{coordinate_out}
use Rattle.scan.proofs.refusal.some_coordinate_out.Goals as goal

-- Some element passes, as the definition says it and as the library does.
any_passes : (p : ℕ → Bool) (l : List ℕ) → list_any p l ≡ some_of p l
unfolding some_of
any_passes p [] = refl
any_passes p (a ∷ l) = ap (λ b. p a || b) (any_passes p l)

pub returns : goal.returns
unfolding coordinate_out
returns c =
    any_from_yields_List (coordinate_out c.args.side) _ _ c.any.result c.any.ensures.ran (YieldsList-from_slice _ c.iter.ensures.rest)
    (λ x b q k. search (rules, tests)) ∙
    any_passes (coordinate_out c.args.side) c.args.points.now
