-- Document 01's half-way swatch: "per channel, one f32 addition, rounded once, and then one multiplication by 0.5".
use Rattle.std.specs.Prelude.{◌≡◌, List, ◌++◌, Result, Ok, Err}
use Rattle.decide.specs.Refusal.{Rule, first_that, accepted, refused}
use Rattle.decide.specs.declared.Refusal.{Refusal}
use Rattle.decide.specs.Verdict.{number_of}
use Rattle.channel.specs.HalfWay.{IsHalfWayChannel}
use Rattle.channel.specs.declared.Rgb.{Rgb}
use Rattle.swatch.specs.declared.Swatch.{Swatch}
use Rattle.swatch.specs.Swatch.{channels_of, swatch_refusals}

-- Red, green and blue each lie half-way.
pub record IsHalfWay (a b r : Rgb) : Type 0 where
  pub red : IsHalfWayChannel a.red b.red r.red
  pub green : IsHalfWayChannel a.green b.green r.green
  pub blue : IsHalfWayChannel a.blue b.blue r.blue

-- The first swatch's refusals, then the second's.
abbrev pub half_way_refusals : Swatch → Swatch → List Rule
half_way_refusals a b = swatch_refusals a ++ swatch_refusals b

-- No number applies, and r is the half-way swatch.
pub record AcceptedHalfWay (a b : Swatch) (r : Rgb) : Type 0 where
  pub no_number : first_that (half_way_refusals a b) ≡ accepted
  pub mixed : IsHalfWay (channels_of a) (channels_of b) r

-- What an answer says: the first number that applies, or that none does and the half-way swatch.
abbrev pub HalfWaySays : Swatch → Swatch → Result Rgb Refusal → Type 0
HalfWaySays a b (Err e) = first_that (half_way_refusals a b) ≡ refused (number_of e)
HalfWaySays a b (Ok r) = AcceptedHalfWay a b r
