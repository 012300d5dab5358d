-- The channels of a swatch with no refusal lie from 0 to 1, so its cell lies in the cube.
use mathlib.Core.Path.{◌≡◌, refl, ◌∙◌, subst}
use Prim.Native.Nat.{ℕ, ◌<◌}
use lib.Dec.{T}
use lib.Ieee.{Float}
use Rattle.decide.specs.Refusal.{Verdict, first_that, or_else, accepted, refused, gives, outcome}
use Rattle.decide.proofs.FirstThat.{answer_given, first_append_three, accepted_passes, accepted_append_three}
use Rattle.cube.specs.Cube.{side_out}
use Rattle.cube.proofs.Words.{side_in_lem}
use Rattle.channel.specs.Channel.{channel_refusals}
use Rattle.channel.specs.Rgb.{rgb_refusals, AllInRange}
use Rattle.channel.proofs.Range.{channel_in_range}
use Rattle.channel.proofs.FromBits.{coordinate_below}
use Rattle.channel.specs.declared.Rgb.{Rgb}
use Rattle.hsv.proofs.InRange.{channels_in_range, hsv_in_range}
use Rattle.swatch.specs.declared.Cell.{Cell}
use Rattle.swatch.specs.declared.Swatch.{Swatch}
use Rattle.swatch.specs.declared.Swatch.TheVariants.{Color, Grey, Hue}
use Rattle.swatch.specs.Swatch.{channels_of, swatch_refusals}
use Rattle.swatch.specs.ToCell.{AcceptedCell}

-- The number of a grey is that of its one channel.
pub grey_first : (g : Float) → first_that (swatch_refusals (Grey g)) ≡ first_that (channel_refusals g)
grey_first g =
    let rules = channel_refusals g in
    first_append_three rules rules rules ∙ go (first_that rules)
  where
    go : (r : Verdict) → or_else r (or_else r r) ≡ r
    go accepted = refl
    go (refused n) = refl

-- Three channels with no refusal lie from 0 to 1.
rgb_in_range : (c : Rgb) → first_that (rgb_refusals c) ≡ accepted → AllInRange c
rgb_in_range c h =
    let r =
    accepted_append_three (channel_refusals c.red) (channel_refusals c.green) (channel_refusals c.blue) h in
    record {
      red = channel_in_range c.red r.0;
      green = channel_in_range c.green r.1;
      blue = channel_in_range c.blue r.2;
    }

-- The channels of a swatch with no refusal lie from 0 to 1.
pub swatch_in_range : (w : Swatch) → first_that (swatch_refusals w) ≡ accepted → AllInRange (channels_of w)
swatch_in_range (Color c) h = rgb_in_range c h
swatch_in_range (Grey g) h = rgb_in_range (channels_of (Grey g)) h
swatch_in_range (Hue w) h = channels_in_range w (hsv_in_range w h)

-- So do those that are answered for a swatch.
pub given_in_range : (w : Swatch) {c : Rgb} → gives c ≡ outcome (first_that (swatch_refusals w)) (channels_of w) → AllInRange c
given_in_range w e = let p = answer_given _ _ e in rw p.1 (swatch_in_range w p.0)

-- The cell of an accepted swatch lies in the cube, so it may be a control point.
pub cell_in_cube : (S : ℕ) (w : Swatch) (r : Cell) → AcceptedCell S w r → (r.x < S) × (r.y < S) × (r.z < S)
cell_in_cube S w r a =
    let passed = accepted_passes 11 (side_out S) (swatch_refusals w) a.no_number in
    let side = (side_in_lem S).0 (λ t. subst T passed.0 t) in
    let range = swatch_in_range w passed.1 in
    let c = channels_of w in
    rw (a.cell.x, a.cell.y, a.cell.z) (
      coordinate_below S c.red side.0 range.red,
      coordinate_below S c.green side.0 range.green,
      coordinate_below S c.blue side.0 range.blue,
    )
