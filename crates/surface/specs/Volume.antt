-- One axis of a volume over three parameters by its differences: four surfaces over u and v, of the value at t = 0 and of its
-- three differences along t. They hold sixteen cubics along v.
use Rattle.std.specs.Prelude.{Bool, ◌||◌, ℕ, suc, ◌≤◌, ◌<◌, ◌^◌, ℤ, ◌-ℤ◌}
use Rattle.integers.specs.Magnitude.{Within}
use Rattle.decide.specs.Some.{some_below}
use Rattle.cubic.specs.declared.differences.Differences.{Differences}
use Rattle.cubic.specs.Differences.{map, Every, across, Across, orders, delta}
use Rattle.surface.specs.Surface.{Surface, surface_of, start_across, StartsAcross, row_of, next_surface, surface_at, along_u, SurfaceRoom}
use Rattle.surface.specs.Surface.{some_long, long_steps, Searchable, StepsSearchable}

abbrev pub Volume : Type 0
Volume = Differences Surface

-- The volume of the values Q, at slice k.
unfoldable pub volume_of : (Q : (i j k : ℕ) → ℤ) (k : ℕ) → Volume
volume_of Q k = orders (λ d. surface_of (λ b c. delta d (λ a. Q a b c) 0) k)

-- The start along v from four surfaces over t and u, with l steps: each of their numbers is blended.
abbrev pub start_volume : (l : ℤ) (f0 f1 f2 f3 : Surface) → Volume
start_volume l f0 f1 f2 f3 = across (start_across l) f0 f1 f2 f3

-- The four surfaces leave room for it.
abbrev pub StartsVolume : (l : ℤ) (f0 f1 f2 f3 : Surface) → Type 0
StartsVolume l f0 f1 f2 f3 = Across (StartsAcross l) f0 f1 f2 f3

-- The slice, a surface over t and u: the rows of the four surfaces, which are cubics along u.
abbrev pub slice_of : Volume → Surface
slice_of v = map row_of v

-- The next slice, by equation 8 along v, and the slice after k of them.
abbrev pub next_volume : Volume → Volume
next_volume v = map next_surface v

unfoldable pub volume_at : Volume → ℕ → Volume
volume_at v k = map (λ s. surface_at s k) v

-- The first differences along v.
abbrev pub along_v : Volume → Volume
along_v v = map along_u v

-- There is room for the next slice.
abbrev pub VolumeRoom : Volume → Type 0
VolumeRoom v = Every SurfaceRoom v

-- Some first difference in slice k is beyond 2N, along t or along u, or some along v from slice k to the next.
abbrev pub long_in_slice : Volume → (N : ℤ) (n m k : ℕ) → Bool
long_in_slice v N n m k = long_steps (slice_of (volume_at v k)) N n m

abbrev pub long_to_next : Volume → (N : ℤ) (n m k : ℕ) → Bool
long_to_next v N n m k = some_long (slice_of (along_v (volume_at v k))) N (suc m) (suc n)

-- The same in some of the slices 0 to l, or between two of them.
unfoldable pub long_volume_steps : Volume → (N : ℤ) (n m l : ℕ) → Bool
long_volume_steps v N n m l = some_below (suc l) (long_in_slice v N n m) || some_below l (long_to_next v N n m)

-- There is room for each search and for the next slice, with up to 256 steps along t and u.
pub record VolumeSearchable (v : Volume) (N : ℤ) (n m l : ℕ) : Type 0 where
  pub n_most : n ≤ 256
  pub m_most : m ≤ 256
  pub in_slice : (k : ℕ) → k ≤ l → StepsSearchable (slice_of (volume_at v k)) N n m
  pub to_next : (k : ℕ) → k < l → Searchable (slice_of (along_v (volume_at v k))) N (suc m) (suc n)
  pub room : (k : ℕ) → k < l → VolumeRoom (volume_at v k)

-- Every difference along v of one along u of one along t, each of order 0 to 3, from sample (0, 0, 0) to sample (n, m, l), has
-- room.
pub record VolumeBounded (n m l : ℕ) (Q : (i j k : ℕ) → ℤ) : Type 0 where
  pub within : (k q r i j b : ℕ) → k < 4 → q < 4 → r < 4 → i ≤ n → j ≤ m → b ≤ l →
      Within (2 ^ 60) (delta r (λ w. delta q (λ u. delta k (λ a. Q a u w) i) j) b)

-- The values of slice k, and their first differences along v.
abbrev pub slice_at : (Q : (i j k : ℕ) → ℤ) (k i j : ℕ) → ℤ
slice_at Q k i j = Q i j k

abbrev pub v_steps : (Q : (i j k : ℕ) → ℤ) (i j k : ℕ) → ℤ
v_steps Q i j k = Q i j (suc k) -ℤ Q i j k
