-- `fill` meets its contract: the loop has made reads one after the other, each of some bytes, and the read that ends it
-- puts none or fails.
use Rattle.std.proofs.Common.{◌≡◌, ◌∙◌, refl, sym, ap, arith, rules, ℕ, ◌-◌, ◌≤◌, length, List, Result, Ok, Err, is_ok, true≢false, length-take, length-drop}
use borrow.Rule.Slice.PartMut.{put_mid, same_len_mid, mid_of}
use Rattle.std.proofs.lemmas.Slice.{take-put_mid_below}
use Rattle.std.proofs.lemmas.Result.{IfOk-at_ok}
use Rattle.reading.specs.declared.ReadFailed.{ReadFailed}
use Rattle.reading.specs.Read.{ReadAt, Moved, answer_of, count_of, none, more, full, ended, failed}
use Rattle.reading.proofs.fill.Goals as goal

length-mid_of : (at : ℕ) (held : List ℕ) → at ≤ length held → length (mid_of at (length held - at) held) ≡ length held - at
length-mid_of at held room = simp (length-take, length-drop) (omega arith)

-- A read that is lent what stands from byte at on.
read_at : (at : ℕ) (held put : List ℕ) (got : Result ℕ (Unit {0})) → at ≤ length held → length put ≡ length (mid_of at (length held - at) held) →
    Moved (length held - at) got → ReadAt held at got (put_mid at (length held - at) held put)
read_at at held put got room long moved = record {
  same = same_len_mid at (length held - at) held put long;
  kept = take-put_mid_below at (length held - at) held put at (omega arith) room;
  moved = moved;
}

-- Where an answer says so many bytes, the read put so many.
said_ok : {error : Type 0} (got : Result ℕ error) (done count : ℕ) → answer_of got done ≡ Ok count → got ≡ Ok count
said_ok (Ok k) done count e = ap Ok (ap count_of e)
said_ok (Err x) done count e = absurd (true≢false (sym (ap is_ok e)))

-- Where it says that the read failed, it names the bytes before.
said_err : {error : Type 0} (got : Result ℕ error) (done : ℕ) (e : ReadFailed) → answer_of got done ≡ Err e →
    ◌≡◌ {A = Result ℕ ReadFailed} (Err e) (Err (record { count = done }))
said_err (Ok k) done e is = absurd (true≢false (ap is_ok is))
said_err (Err x) done e is = sym is

pub loop-done-init : goal.loop-done-init
loop-done-init g c = (refl, omega arith, none)

pub returns-in_err-count : goal.returns-in_err-count
returns-in_err-count g c =
    let l = c.loop-done in
    let same : c.from_residual.result ≡ Err c.in_err-count.field-0.0 = search rules in
    let says = said_err c.read.result l.done _ (sym c.answered.ensures ∙ c.in_err-count.was) in
    rw (same ∙ says) (failed l.invariant.2 c.loop-done-test.true (read_at l.done l.buf _ _ l.invariant.1 c.read.auto.buf tt))

pub returns-then-count-eq0 : goal.returns-then-count-eq0
returns-then-count-eq0 g c =
    let l = c.loop-done in
    ended l.invariant.2 c.loop-done-test.true (read_at l.done l.buf _ _ l.invariant.1 c.read.auto.buf (omega arith))

pub loop-done-preserved : goal.loop-done-preserved
loop-done-preserved g c =
    let l = c.loop-done in
    let count = c.in_ok-count.count in
    let long = c.read.auto.buf in
    let put = said_ok c.read.result l.done count (sym c.answered.ensures ∙ c.in_ok-count.was) in
    let room = (IfOk-at_ok _ put c.read.ensures.bound).0 in
    let fits : count ≤ length l.buf - l.done = omega (arith, room, length-mid_of l.done l.buf l.invariant.1) in
    let one = read_at l.done l.buf c.read.new.buf (Ok count) l.invariant.1 long fits in
    (one.same ∙ l.invariant.0, omega (arith, one.same), more l.invariant.2 one (omega arith))

pub returns : goal.returns
returns g c = full c.loop-done.invariant.2 (omega arith)
