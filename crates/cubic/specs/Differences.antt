-- Forward differences of a sequence of integers, and the struct that holds a value with three of them.
use Rattle.std.specs.Prelude.{◌≡◌, ℕ, zero, suc, ℤ, pos, ◌+ℤ◌, ◌-ℤ◌}
use Rattle.cubic.specs.declared.differences.Differences.{Differences}
use Rattle.cubic.specs.Blend.{samples}

-- Δ⁰ f is f, and Δᵏ⁺¹ f i = Δᵏ f (i + 1) - Δᵏ f i.
unfoldable pub delta : ℕ → (ℕ → ℤ) → ℕ → ℤ
delta zero f i = f i
delta (suc k) f i = delta k f (suc i) -ℤ delta k f i

-- A sequence is a cubic where its fourth differences are 0.
pub record IsCubic (f : ℕ → ℤ) : Type 0 where
  pub fourth : (i : ℕ) → delta 4 f i ≡ pos 0

-- Values over two parameters are bicubic where they are a cubic along each, and values over three tricubic.
pub record IsBicubic (P : (i j : ℕ) → ℤ) : Type 0 where
  pub along_t : (j : ℕ) → IsCubic (λ i. P i j)
  pub along_u : (i : ℕ) → IsCubic (P i)

pub record IsTricubic (Q : (i j k : ℕ) → ℤ) : Type 0 where
  pub along_t : (j k : ℕ) → IsCubic (λ i. Q i j k)
  pub along_u : (i k : ℕ) → IsCubic (λ j. Q i j k)
  pub along_v : (i j : ℕ) → IsCubic (Q i j)

-- The same of each of the four.
abbrev pub map : {A B : Type 0} → (A → B) → Differences A → Differences B
map f d = record { value = f d.value; d1 = f d.d1; d2 = f d.d2; d3 = f d.d3 }

pub record Every {A : Type 0} (P : A → Type 0) (d : Differences A) : Type 0 where
  pub value : P d.value
  pub d1 : P d.d1
  pub d2 : P d.d2
  pub d3 : P d.d3

-- The same of four values, of four first differences, and so on.
abbrev pub across : {A B : Type 0} → (A → A → A → A → B) → (c0 c1 c2 c3 : Differences A) → Differences B
across f c0 c1 c2 c3 = record {
  value = f c0.value c1.value c2.value c3.value;
  d1 = f c0.d1 c1.d1 c2.d1 c3.d1;
  d2 = f c0.d2 c1.d2 c2.d2 c3.d2;
  d3 = f c0.d3 c1.d3 c2.d3 c3.d3;
}

pub record Across {A : Type 0} (P : A → A → A → A → Type 0) (c0 c1 c2 c3 : Differences A) : Type 0 where
  pub value : P c0.value c1.value c2.value c3.value
  pub d1 : P c0.d1 c1.d1 c2.d1 c3.d1
  pub d2 : P c0.d2 c1.d2 c2.d2 c3.d2
  pub d3 : P c0.d3 c1.d3 c2.d3 c3.d3

-- The four by their order, 0 to 3.
abbrev pub orders : {A : Type 0} → (ℕ → A) → Differences A
orders f = record { value = f 0; d1 = f 1; d2 = f 2; d3 = f 3 }

-- The first differences along the first parameter: z, a zero, is the third of them.
abbrev pub shift : {A : Type 0} → A → Differences A → Differences A
shift z d = record { value = d.d1; d1 = d.d2; d2 = d.d3; d3 = z }

-- A cubic along one parameter.
abbrev pub Cubic : Type 0
Cubic = Differences ℤ

-- The value and the first three differences of f at i.
unfoldable pub differences_at : (ℕ → ℤ) → ℕ → Cubic
differences_at f i = record { value = f i; d1 = delta 1 f i; d2 = delta 2 f i; d3 = delta 3 f i }

-- Sample 0 of n of the cubic with the control values q0 to q3.
abbrev pub first_of : (n q0 q1 q2 q3 : ℤ) → Cubic
first_of n q0 q1 q2 q3 = differences_at (samples n q0 q1 q2 q3) 0

-- Equation 8: from the differences at i to those at i + 1.
unfoldable pub next_of : Cubic → Cubic
next_of c = record { value = c.value +ℤ c.d1; d1 = c.d1 +ℤ c.d2; d2 = c.d2 +ℤ c.d3; d3 = c.d3 }

-- After i nexts.
unfoldable pub nexts : ℕ → Cubic → Cubic
nexts zero c = c
nexts (suc i) c = next_of (nexts i c)

-- The first differences of a cubic are a cubic, whose own third difference is 0.
abbrev pub steps_of : Cubic → Cubic
steps_of c = shift (pos 0) c

-- The values of four cubics.
abbrev pub heads_of : Cubic → Cubic → Cubic → Cubic → Cubic
heads_of a b c d = record { value = a.value; d1 = b.value; d2 = c.value; d3 = d.value }
