-- `judge_curves` meets its contract: every line before the present one is accepted.
use Rattle.std.proofs.Common.{rules, ◌≡◌, refl, sym, ◌∙◌, ap, List, ◌++◌, ℕ, ◌+◌, ◌-◌, ◌≤◌, ◌<◌, min, length, Result, Ok, Err, length-append, length-drop, arith}
use lib.Seq.{take_all}
use Rattle.std.specs.Slice.Iter.{chunks_rest, chunks_size}
use Rattle.decide.specs.declared.Refusal.{Refusal}
use Rattle.decide.specs.Refusal.{first_that}
use Rattle.decide.specs.Verdict.{number_of, verdict_of}
use Rattle.sheet.specs.Sheet.{curve_order, judge}
use Rattle.sheet_lines.specs.Read.{first_line}
use Rattle.sheet_lines.proofs.Lines.{first_within}
use Rattle.sheet_cube.specs.Lines.{found, fault}
use Rattle.sheet_cube.proofs.Judged.{passes_side, left_start}
use Rattle.sheet_cube.proofs.Chunks.{AtLine, Chunk, chunk_refused, not_last, chunk_passed, none_left}
use Rattle.sheet_cube.proofs.judge.judge_curves.Goals as goal

pub slice_bounds-chunks-count : goal.slice_bounds-chunks-count
slice_bounds-chunks-count c =
    omega (arith, (passes_side c.args.input.now c.requires.input_value).whole, first_within c.args.input.now)

pub slice_bounds-chunks-start : goal.slice_bounds-chunks-start
slice_bounds-chunks-start c =
    omega (arith, (passes_side c.args.input.now c.requires.input_value).whole, first_within c.args.input.now)

pub loop-rest-init : goal.loop-rest-init
loop-rest-init c =
    let from = c.into_iter-rest-iterator.ensures.into_iter_gives in
    let rest = ap chunks_rest from ∙ c.chunks-rest-items.ensures.rest in
    let size = ap chunks_size from ∙ c.chunks-rest-items.ensures.size in (
      record {
        left = left_start c.args.input.now c.args.side c.requires.input_value (sym c.requires.side_value);
        few = omega arith;
        is_rest = rest ∙ take_all _ _ (omega (arith, length-drop 6 c.args.input.now));
      },
      size,
      refl,
    )

pub judge_curve-requires : goal.judge_curve-requires
judge_curve-requires c =
    let e = passes_side c.args.input.now c.requires.input_value in
    rw c.requires.side_value (e.least, e.most)

next_chunk : {size : ℕ} {rest chunk more : List ℕ} → size ≡ 71 →
    (rest ≡ chunk ++ more) × (length chunk ≡ min size (length rest)) × (0 < length rest) → Chunk rest chunk more
next_chunk of_71 cut = record { cut = cut.0; size = rw of_71 at cut.1; there = cut.2 }

-- What `judge_curve` finds of the chunk at hand.
module _ {input : List ℕ} {side n : ℕ} {rest chunk more : List ℕ} (at : AtLine input side n rest) (next : Chunk rest chunk more)
    (v : Result (Unit {0}) Refusal) {line : ℕ} (line_n : line ≡ n + 2)
    (judged : verdict_of v ≡ first_that (curve_order side line (first_line chunk))) where
  refuses : (e : Refusal) → v ≡ Err e → found (judge input) ≡ fault (number_of e) line
  refuses e told = rw line_n (chunk_refused at next (sym (ap verdict_of told) ∙ rw line_n at judged))

  few : v ≡ Ok tt → n + 2 ≤ 201
  few told = not_last at next (sym (ap verdict_of told) ∙ rw line_n at judged)

  passes : v ≡ Ok tt → AtLine input side (n + 1) more
  passes told = chunk_passed at next (sym (ap verdict_of told) ∙ rw line_n at judged)

pub returns-in_err-map_err : goal.returns-in_err-map_err
returns-in_err-map_err c =
    let i = c.loop-rest.invariant in
    let told : (r : Refusal) × (c.judge_curve.result ≡ Err r) × (c.from_residual.result ≡ Err (record { refusal = r; line = c.loop-rest.line })) =
    search rules in
    rw told.2 (sym (refuses i.0 (next_chunk i.1 c.in-Some.ensures.steps.1) _ i.2 c.judge_curve.ensures told.0 told.1))

pub overflow_add-line : goal.overflow_add-line
overflow_add-line c =
    let i = c.loop-rest.invariant in
    let good : c.judge_curve.result ≡ Ok tt = search rules in
    record { fits = omega (arith, few i.0 (next_chunk i.1 c.in-Some.ensures.steps.1) _ i.2 c.judge_curve.ensures good, i.2) }

pub loop-rest-preserved : goal.loop-rest-preserved
loop-rest-preserved c =
    let i = c.loop-rest.invariant in
    let steps = c.in-Some.ensures.steps in
    let good : c.judge_curve.result ≡ Ok tt = search rules in
    rw length-append (passes i.0 (next_chunk i.1 steps.1) _ i.2 c.judge_curve.ensures good, steps.0 ∙ i.1, omega (arith, i.2))

pub overflow_sub-result : goal.overflow_sub-result
overflow_sub-result c = omega (arith, c.loop-rest.invariant.2)

pub returns : goal.returns
returns c =
    let i = c.loop-rest.invariant in
    let n : c.loop-rest.line - 2 ≡ length c.loop-rest.yielded = omega (arith, i.2) in
    rw n (sym (none_left i.0 c.in-None.ensures.steps.1.0))
