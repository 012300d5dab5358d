-- The swatch calls' contracts fix answer and buffer: two of which they hold are equal.
use mathlib.Core.Path.{◌≡◌, sym, ◌∙◌, ap}
use mathlib.Core.List.{List, ◌∷◌, [], ◌++◌}
use Prim.Native.Nat.{ℕ}
use lib.IntN.{ℤ}
use Rattle.decide.specs.Refusal.{Rule, first_that}
use Rattle.decide.proofs.FirstThat.{by_verdict}
use Rattle.channel.specs.declared.Rgb.{Rgb}
use Rattle.swatch.specs.declared.Cell.{Cell}
use Rattle.swatch.specs.declared.Swatch.{Swatch}
use Rattle.swatch.proofs.Unique.{cell_unique, half_way_unique}
use Rattle.exports.specs.Swatches.{channel_bytes, CellWritten, MixWritten, Fills, CellBytes, MixBytes}

-- Where what is written is fixed, so are the answer and the buffer.
module _ {order : List Rule} {Written : List ℕ → Type 0} {before a b : List ℕ} {r s : ℤ} where
  pub fills_unique : (Written a → Written b → a ≡ b) → Fills order Written before a r → Fills order Written before b s
      → (a ≡ b) × (r ≡ s)
  fills_unique one f g = (
    by_verdict (first_that order) (a ≡ b) (λ e. one (f.written e) (g.written e))
        (λ n e. f.kept n e ∙ sym (g.kept n e)),
    f.answer ∙ sym g.answer,
  )

-- Three channels have one cell's bytes.
cell_written_unique : (S : ℕ) (c : Rgb) (a b : List ℕ) → CellWritten S c a → CellWritten S c b → a ≡ b
cell_written_unique S c a b f g =
    f.written ∙ ap bytes (cell_unique S c f.cell g.cell f.right g.right) ∙ sym g.written
  where
    bytes : Cell → List ℕ
    bytes p = p.x ∷ p.y ∷ p.z ∷ []

-- Two times three channels have one half-way's bytes.
mix_written_unique : (v w : Rgb) (a b : List ℕ) → MixWritten v w a → MixWritten v w b → a ≡ b
mix_written_unique v w a b f g =
    f.written ∙ ap bytes (half_way_unique v w f.mixed g.mixed f.right g.right) ∙ sym g.written
  where
    bytes : Rgb → List ℕ
    bytes c = channel_bytes c.red ++ channel_bytes c.green ++ channel_bytes c.blue

-- A call from swatch to cell has one answer, and leaves the lent bytes in one way.
pub cell_bytes_unique : (S kind : ℕ) (w : Swatch) (before a b : List ℕ) (r s : ℤ)
    → CellBytes S kind w before a r → CellBytes S kind w before b s → (a ≡ b) × (r ≡ s)
cell_bytes_unique S kind w before a b r s = fills_unique (cell_written_unique S _ a b)

-- So has a half-way call.
pub mix_bytes_unique : (first second : ℕ) (v w : Swatch) (before a b : List ℕ) (r s : ℤ)
    → MixBytes first second v w before a r → MixBytes first second v w before b s → (a ≡ b) × (r ≡ s)
mix_bytes_unique first second v w before a b r s = fills_unique (mix_written_unique _ _ a b)
