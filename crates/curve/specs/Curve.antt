-- A curve record as the curve of document 01's definitions, and what its test and a check of it answer.
use Rattle.std.specs.Prelude.{Bool, true, false, Result, Ok, Err}
use Rattle.decide.specs.declared.Refusal.{Refusal}
use Rattle.decide.specs.Refusal.{Outcome, gives, refuses}
use Rattle.decide.specs.Verdict.{number_of}
use Rattle.drawing.specs.Object.{Object, curve}
use Rattle.curve.specs.declared.Curve.{Curve}
use Rattle.curve.specs.declared.steps.StepTest.{StepTest}
use Rattle.curve.specs.declared.steps.StepTest.TheVariants.{Walked, Quit}

abbrev pub curve_of : Curve → Object
curve_of c = curve c.steps c.points c.mark c.choice

-- Whether the step test of an accepted curve quit.
abbrev pub has_quit : StepTest → Bool
has_quit Walked = false
has_quit Quit = true

-- Whether the test of one curve quit (document 02, A.5).
abbrev pub tells_quit : Result StepTest Refusal → Bool
tells_quit (Ok told) = has_quit told
tells_quit (Err e) = false

-- What a check's answer says: whether the step test quit, or the number that refuses the call.
abbrev pub check_answer_of : Result StepTest Refusal → Outcome Bool
check_answer_of (Ok told) = gives (has_quit told)
check_answer_of (Err e) = refuses (number_of e)
