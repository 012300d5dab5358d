-- A call's answer and what it leaves, by its verdict.
use mathlib.Core.Path.{◌≡◌, ap}
use mathlib.Core.List.{List}
use Prim.Native.Nat.{ℕ}
use Rattle.std.specs.Prelude.{Ok, Err}
use Rattle.decide.specs.declared.Refusal.{Refusal}
use Rattle.decide.specs.Refusal.{Verdict, accepted, refused, gives}
use Rattle.decide.specs.Verdict.{number_of}
use Rattle.sheet_text.specs.Puts.{Puts}
use Rattle.sheet_text.specs.Writes.{Writes}

module _ {v : Verdict} {bytes text : List ℕ} where
  -- No number applies, and the bytes are written from the front.
  pub writes_accepted : {after : List ℕ} {n : ℕ} → v ≡ accepted → Puts bytes text after n → Writes v bytes text after (Ok n)
  writes_accepted e p = record { answer = rw e (ap gives p.counts); leaves = rw e p.holds }

  -- A number applies, and nothing is written.
  pub writes_refused : {d : Refusal} → v ≡ refused (number_of d) → Writes v bytes text text (Err d)
  writes_refused e = record { answer = rw e; leaves = rw e }
