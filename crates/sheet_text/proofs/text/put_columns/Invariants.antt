-- `put_columns` meets its contract: the columns from i on are written, but for the last, and those before are of what is
-- left.
use mathlib.Core.Path.{◌≡◌, sym, ◌∙◌, ap}
use mathlib.Core.List.{List, [], ◌∷◌, ◌++◌, append_assoc, append-nil}
use Prim.Native.Nat.{ℕ, suc, ◌/◌, ◌<◌}
use native.Mathlib.Numerals.{add-one}
use native.Mathlib.Omega.{arith}
use lib.ListN.{length, set, take, drop}
use lib.Seq.{take-set-lt, set_split, length-take-le}
use Rattle.std.proofs.lemmas.List.{drop-set, drop_all}
use Rattle.sheet.specs.Field.{in_columns}
use Rattle.sheet_text.specs.Column.{last_of, column_of}
use Rattle.sheet_text.proofs.Columns.{before, in_columns_lem}
use Rattle.sheet_text.proofs.text.put_columns.Given as goal

-- The columns before column i, of what is left, and those written from it on are all before the last.
pub record SoFar (v : ℕ) (columns : List ℕ) (last rest i : ℕ) : Type 0 where
  pub is : before i rest ++ drop i (take last columns) ≡ before last (v / 10)

module _ {v : ℕ} {columns : List ℕ} {last : ℕ} where
  -- None yet.
  pub none : length columns ≡ suc last → SoFar v columns last (v / 10) last
  none size = record {
    is = rw (drop_all last (take last columns) (omega (arith, length-take-le last columns (omega arith)))) (append-nil _);
  }

  module _ {rest : ℕ} (size : length columns ≡ suc last) where
    -- One column more.
    pub next : {i : ℕ} → i < last → SoFar v columns last rest (suc i) →
        SoFar v (set columns i (column_of rest)) last (rest / 10) i
    unfolding before
    next {i} l s =
        let e : length (take last columns) ≡ last = length-take-le last columns (omega arith) in
        record {
          is =
              rw (
                take-set-lt last columns i (column_of rest) l,
                drop-set (take last columns) i (column_of rest) (omega arith),
                add-one,
              )
              (sym (append_assoc (before i (rest / 10)) (column_of rest ∷ []) (drop (suc i) (take last columns))) ∙ s.is);
        }

    -- All columns, with the last.
    pub all : SoFar v columns last rest 0 → set columns last (last_of v) ≡ in_columns (suc last) v
    unfolding before
    all s =
        rw (in_columns_lem, set_split columns last (last_of v) (omega arith), drop_all (suc last) columns (omega arith))
        (ap (◌++ last_of v ∷ []) s.is)

abbrev pub invariant-loop-i : goal.invariant-loop-i
invariant-loop-i l = SoFar l.v l.columns l.last l.rest l.i
