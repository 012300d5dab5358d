-- One axis of a surface over two parameters by its differences: four cubics along u, of the value at t = 0 and of its
-- three differences along t.
use Rattle.std.specs.Prelude.{Bool, ◌||◌, ℕ, suc, ◌≤◌, ◌<◌, ◌^◌, ℤ, pos, ◌-ℤ◌}
use Rattle.integers.specs.Magnitude.{Within}
use Rattle.decide.specs.Some.{some_below}
use Rattle.cubic.specs.declared.differences.Differences.{Differences}
use Rattle.cubic.specs.Differences.{Cubic, map, Every, across, Across, orders, shift, delta, differences_at, first_of, next_of, nexts, steps_of}
use Rattle.cubic.specs.Axis.{long_of}
use Rattle.cubic.specs.Room.{Startable, Room}

abbrev pub Surface : Type 0
Surface = Differences Cubic

-- The surface of the values P, at row j.
unfoldable pub surface_of : (P : (i j : ℕ) → ℤ) (j : ℕ) → Surface
surface_of P j = orders (λ k. differences_at (λ b. delta k (λ a. P a b) 0) j)

-- The start along u from four cubics along t, with m steps: each of their numbers is blended.
abbrev pub start_across : (m : ℤ) (c0 c1 c2 c3 : Cubic) → Surface
start_across m c0 c1 c2 c3 = across (first_of m) c0 c1 c2 c3

-- The four cubics leave room for it.
abbrev pub StartsAcross : (m : ℤ) (c0 c1 c2 c3 : Cubic) → Type 0
StartsAcross m c0 c1 c2 c3 = Across (Startable m) c0 c1 c2 c3

-- A row's value and differences along t, at t = 0: the values of the four cubics.
abbrev pub row_of : Surface → Cubic
row_of s = map (λ c. c.value) s

-- The next row, by equation 8 along u, and the row after j of them.
abbrev pub next_surface : Surface → Surface
next_surface s = map next_of s

unfoldable pub surface_at : Surface → ℕ → Surface
surface_at s j = map (nexts j) s

-- The value and differences along t of sample i of row j, by equation 8 along t, and the value alone.
unfoldable pub cubic_at : Surface → (i j : ℕ) → Cubic
cubic_at s i j = nexts i (row_of (surface_at s j))

abbrev pub value_at : Surface → (i j : ℕ) → ℤ
value_at s i j = (cubic_at s i j).value

-- The cubic 0.
abbrev pub no_cubic : Cubic
no_cubic = record { value = pos 0; d1 = pos 0; d2 = pos 0; d3 = pos 0 }

-- The first differences of a surface along t, and along u.
abbrev pub along_t : Surface → Surface
along_t s = shift no_cubic s

abbrev pub along_u : Surface → Surface
along_u s = map steps_of s

-- Some value of so many rows and samples is beyond 2N.
unfoldable pub some_long : Surface → (N : ℤ) (rows samples : ℕ) → Bool
some_long s N rows samples = some_below rows (λ j. some_below samples (λ i. long_of N (value_at s i j)))

-- Some first difference is beyond 2N: along t in some of the rows 0 to m, or along u between two of them.
unfoldable pub long_steps : Surface → (N : ℤ) (n m : ℕ) → Bool
long_steps s N n m = some_long (along_t s) N (suc m) n || some_long (along_u s) N m (suc n)

-- There is room for the next row.
abbrev pub SurfaceRoom : Surface → Type 0
SurfaceRoom s = Every Room s

-- There is a row and a sample to search, and room for the test and for the next row and the next sample of each.
pub record Searchable (s : Surface) (N : ℤ) (rows samples : ℕ) : Type 0 where
  pub scale : Within (2 ^ 60) N
  pub some_row : 1 ≤ rows
  pub some-sample : 1 ≤ samples
  pub row_room : (j : ℕ) → j < rows → SurfaceRoom (surface_at s j)
  pub sample_room : (i j : ℕ) → i < samples → j < rows → Room (cubic_at s i j)

-- The same for the first differences along both parameters, of up to 256 steps.
pub record StepsSearchable (s : Surface) (N : ℤ) (n m : ℕ) : Type 0 where
  pub n_most : n ≤ 256
  pub m_most : m ≤ 256
  pub along_t : Searchable (along_t s) N (suc m) n
  pub along_u : Searchable (along_u s) N m (suc n)

-- Every difference along u of a difference along t, each of order 0 to 3, from sample (0, 0) to sample (n, m), has room.
pub record Bounded (n m : ℕ) (P : (i j : ℕ) → ℤ) : Type 0 where
  pub within : (k q i j : ℕ) → k < 4 → q < 4 → i ≤ n → j ≤ m → Within (2 ^ 60) (delta q (λ b. delta k (λ a. P a b) i) j)

-- The first differences of values along t, and along u.
abbrev pub t_steps : (P : (i j : ℕ) → ℤ) (i j : ℕ) → ℤ
t_steps P i j = P (suc i) j -ℤ P i j

abbrev pub u_steps : (P : (i j : ℕ) → ℤ) (i j : ℕ) → ℤ
u_steps P i j = P i (suc j) -ℤ P i j
