-- `gidzkhalu_half_way` meets its contract: the kinds and the channels' length are judged, then the call.
use Rattle.std.proofs.Common.{rules}
use mathlib.Core.Path.{◌≡◌, refl, ◌∙◌, subst}
use mathlib.Core.Bool.{◌||◌, false}
use mathlib.Core.List.{List}
use Prim.Native.Nat.{ℕ}
use native.Mathlib.Omega.{arith}
use lib.ListN.{length}
use Rattle.std.specs.Prelude.{Result, Ok, Err}
use Rattle.decide.specs.declared.Refusal.{Refusal}
use Rattle.decide.specs.Verdict.{number_of}
use Rattle.decide.specs.Refusal.{first_that}
use Rattle.decide.proofs.FirstThat.{first_applies}
use Rattle.channel.specs.declared.Rgb.{Rgb}
use Rattle.swatch.specs.declared.Swatch.{Swatch}
use Rattle.swatch.specs.HalfWay.{AcceptedHalfWay, HalfWaySays, half_way_refusals}
use Rattle.exports.specs.Swatches.{swatch_of, no_kind, mix_order}
use Rattle.exports.proofs.Small.{reads}
use Rattle.exports.proofs.Cells.{wrong_kind, right_kind, twelve_bytes, fills_refused, fills_accepted, other_length_lem, own_numbers}
use Rattle.exports.proofs.swatches.gidzkhalu_half_way.Goals as goal

pub returns-in_default : goal.returns-in_default
returns-in_default c =
    fills_refused 53 (first_applies 53 _ _ (rw (wrong_kind (no_kind c.args.kind) _ c.in_default.ensures) refl))
    (reads c.refused.ensures)

pub returns-in_default-swatch_of : goal.returns-in_default-swatch_of
returns-in_default-swatch_of c =
    fills_refused 53
    (first_applies 53 _ _
    (rw ((right_kind (no_kind c.args.kind) _ c.in-Ok.ensures).0, wrong_kind (no_kind c.args.kind2) _ c.in_default-swatch_of.ensures) refl))
    (reads c.refused-in_default-swatch_of.ensures)

pub returns-then-channels-ne12 : goal.returns-then-channels-ne12
returns-then-channels-ne12 c =
    let s = c.args in
    fills_refused 52
    (other_length_lem 12 s.channels.now (no_kind s.kind || no_kind s.kind2) _
    (rw ((right_kind (no_kind s.kind) _ c.in-Ok.ensures).0, (right_kind (no_kind s.kind2) _ c.in-Ok-swatch_of.ensures).0) refl)
    (λ t. omega (arith, t, c.if-channels-ne12.true)))
    (reads c.refused-then-channels-ne12.ensures)

-- Where the kinds and the channels are good, the call's own numbers are left.
own : (kind kind2 : ℕ) (first second : Swatch) (channels : List ℕ) → no_kind kind ≡ false → no_kind kind2 ≡ false →
    length channels ≡ 12 → first_that (mix_order kind kind2 first second channels) ≡ first_that (half_way_refusals first second)
own kind kind2 first second channels k l e = own_numbers 12 channels _ _ (rw (k, l) refl) e

-- What the answer says of the swatches that the kinds and numbers stand for.
says : {v w first second : Swatch} (r : Result Rgb Refusal) → v ≡ first → w ≡ second → HalfWaySays v w r → HalfWaySays first second r
says r e f h = rw (e, f) at h

pub returns-in-Err : goal.returns-in-Err
returns-in-Err c =
    let s = c.args in
    let first = right_kind (no_kind s.kind) (swatch_of s.kind s.a s.b s.c) c.in-Ok.ensures in
    let second = right_kind (no_kind s.kind2) (swatch_of s.kind2 s.a2 s.b2 s.c2) c.in-Ok-swatch_of.ensures in
    let e = says (Err c.in-Err.refusal) first.1 second.1 c.in-Err.ensures in
    let twelve : length s.channels.now ≡ 12 = omega (arith, c.if-channels-ne12.false) in
    fills_refused (number_of c.in-Err.refusal)
    (own s.kind s.kind2 _ _ s.channels.now first.0 second.0 twelve ∙ e) (reads c.refused-in-Err.ensures)

-- The channels are numbers.
mixes : {v w first second : Swatch} (m : Rgb) → v ≡ first → w ≡ second → HalfWaySays v w (Ok m) → AcceptedHalfWay first second m
mixes m e f h = says (Ok m) e f h

pub returns-in-Ok-half_way : goal.returns-in-Ok-half_way
returns-in-Ok-half_way c =
    let s = c.args in
    let first = right_kind (no_kind s.kind) (swatch_of s.kind s.a s.b s.c) c.in-Ok.ensures in
    let second = right_kind (no_kind s.kind2) (swatch_of s.kind2 s.a2 s.b2 s.c2) c.in-Ok-swatch_of.ensures in
    let m = mixes c.in-Ok-half_way.mixed first.1 second.1 c.in-Ok-half_way.ensures in
    let twelve : length s.channels.now ≡ 12 = omega (arith, c.if-channels-ne12.false) in
    fills_accepted (own s.kind s.kind2 _ _ s.channels.now first.0 second.0 twelve ∙ m.no_number) refl
    (record {
      mixed = c.in-Ok-half_way.mixed;
      right = m.mixed;
      written =
          twelve_bytes s.channels.now _ _ _ c.in-Ok-half_way.mixed.red c.in-Ok-half_way.mixed.green c.in-Ok-half_way.mixed.blue
          (c.copy_from_slice.ensures.after ∙ c.channel_bytes.ensures)
          (c.copy_from_slice-in-Ok-half_way.ensures.after ∙ c.channel_bytes-in-Ok-half_way.ensures)
          (c.copy_from_slice-in-Ok-half_way-2.ensures.after ∙ c.channel_bytes-in-Ok-half_way-2.ensures);
    })
