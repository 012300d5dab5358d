-- What a check finds and what a call answers, in the documents' numbers.
use Rattle.std.specs.Prelude.{ℕ, Result, Ok, Err}
use Rattle.decide.specs.declared.Refusal.{Refusal}
use Rattle.decide.specs.declared.Refusal.TheVariants as why
use Rattle.decide.specs.Refusal as refusal
use Rattle.decide.specs.Refusal.{Outcome, accepted, refused, gives, refuses}

-- The number of a refusal.
abbrev pub number_of : Refusal → ℕ
number_of why.Side = 11
number_of why.Mark = 12
number_of why.Steps = 13
number_of why.Coordinate = 14
number_of why.LongStep = 15
number_of why.Length = 21
number_of why.Short = 22
number_of why.StripSide = 23
number_of why.StripSteps = 24
number_of why.NotFinite = 31
number_of why.Channel = 32
number_of why.Hue = 33
number_of why.Line = 41
number_of why.Field = 42
number_of why.SheetSide = 43
number_of why.PastLastLine = 44
number_of why.RecordLength = 51
number_of why.OutLength = 52
number_of why.Kind = 53
number_of why.Number = 54
number_of why.Choice = 55

-- What a check finds: no number, or the number that refuses the call.
abbrev pub verdict_of : {A : Type 0} → Result A Refusal → refusal.Verdict
verdict_of (Ok a) = accepted
verdict_of (Err e) = refused (number_of e)

-- What an answer says: its value, or the number that refuses the call.
abbrev pub outcome_of : {A : Type 0} → Result A Refusal → Outcome A
outcome_of (Ok a) = gives a
outcome_of (Err e) = refuses (number_of e)
