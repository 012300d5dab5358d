-- Which samples are neighbours: the pairs by name.
use mathlib.Core.Path.{◌≡◌, refl, sym, ap, subst}
use mathlib.Core.Logic.{◌↔◌}
use mathlib.Core.List.{List, ◌∷◌}
use Prim.Native.Nat.{ℕ, zero, suc, ◌<◌}
use native.Mathlib.Omega.{arith}
use lib.ListN.{length, get_or, set}
use Rattle.bezier.specs.Exact.{Sample, no_index, index}
use Rattle.neighbours.specs.Steps.{Neighbours, first, later}

-- The sample one further along parameter k.
abbrev next : (k : ℕ) → List ℕ → List ℕ
next k is = set is k (suc (get_or is k 0))

named : {ns is js : List ℕ} → Neighbours ns is js →
    (k : ℕ) × (k < length ns) × Sample ns is × Sample ns js × (js ≡ next k is)
named (first {n} {i} h b) = (0, omega arith, index {n = n} {i = i} (omega arith) b, index {n = n} {i = suc i} (omega arith) b, refl)
named (later {n} {i} h b) =
    let w = named b in (
      suc w.0,
      omega (arith, w.1),
      index {n = n} {i = i} (omega arith) w.2,
      index {n = n} {i = i} (omega arith) w.3,
      ap (λ ks. i ∷ ks) w.4,
    )

along : {ns is : List ℕ} (k : ℕ) → k < length ns → Sample ns is → Sample ns (next k is) → Neighbours ns is (next k is)
along zero l no_index _ = elim l [ ]
along zero l (index {n} {i} h b) (index g c) = first {n = n} {i = i} (omega arith) b
along (suc k) l no_index _ = elim l [ ]
along (suc k) l (index {n} {i} h b) (index g c) = later {n = n} {i = i} (omega arith) (along k (omega arith) b c)

-- Two samples are neighbours exactly if, at one parameter, whichever it is, the second has one more, and at every
-- other they agree.
pub neighbours_pairs : (counts is js : List ℕ) →
    Neighbours counts is js ↔
    ((k : ℕ) × (k < length counts) × Sample counts is × Sample counts js × (js ≡ set is k (suc (get_or is k 0))))
neighbours_pairs counts is js = (
  λ n. named n,
  λ w. subst (λ ks. Neighbours counts is ks) (sym w.4)
      (along w.0 w.1 w.2 (subst (λ ks. Sample counts ks) w.4 w.3)),
)
