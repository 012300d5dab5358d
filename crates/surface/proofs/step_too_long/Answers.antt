-- `step_too_long` meets its contract: some difference along t is beyond 2N, or some along u.
use mathlib.Core.Path.{◌≡◌, refl, sym, ◌∙◌}
use mathlib.Core.Bool.{Bool}
use Prim.Native.Nat.{ℕ}
use native.Mathlib.Numerals.{add-one}
use lib.IntN.{ℤ}
use mir.Facts.{to_z-of_z}
use Rattle.surface.specs.Surface.{Surface, some_long, long_steps, Searchable}
use Rattle.surface.proofs.step_too_long.Goals as goal

-- With the surface, the scale and the counts as the code holds them.
module _ {d e : Surface} {N M : ℤ} {rows rows' samples samples' : ℕ} (p : d ≡ e) (q : N ≡ M) (r : rows ≡ rows')
    (s : samples ≡ samples') where
  can_search : Searchable e M rows' samples' → Searchable d N rows samples
  can_search h = rw (p, q, r, s) h

  searched : {found : Bool} → found ≡ some_long d N rows samples → found ≡ some_long e M rows' samples'
  searched h = rw (p, q, r, s) at h

pub some_long-requires : goal.some_long-requires
some_long-requires c =
    can_search c.shift.ensures (to_z-of_z c.ranges.scale) (add-one _) refl c.requires.along_t

pub some_long-requires-else-some_long : goal.some_long-requires-else-some_long
some_long-requires-else-some_long c =
    can_search c.steps.ensures (to_z-of_z c.ranges.scale) refl (add-one _) c.requires.along_u

pub returns-then-some_long : goal.returns-then-some_long
unfolding long_steps
returns-then-some_long c =
    let t = searched c.shift.ensures (to_z-of_z c.ranges.scale) (add-one _) refl c.some_long.ensures in
    c.if-some_long.true ∙ sym (rw (sym t ∙ c.if-some_long.true) refl)

pub returns-else-some_long : goal.returns-else-some_long
unfolding long_steps
returns-else-some_long c =
    let t = searched c.shift.ensures (to_z-of_z c.ranges.scale) (add-one _) refl c.some_long.ensures in
    let u =
    searched c.steps.ensures (to_z-of_z c.ranges.scale) refl (add-one _) c.some_long-else-some_long.ensures in
    u ∙ sym (rw (sym t ∙ c.if-some_long.false) refl)
