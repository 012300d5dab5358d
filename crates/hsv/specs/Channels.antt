-- Document 02, A.1: red, green and blue from hue, saturation and value, "inner operations first, each rounded once".
use Rattle.std.specs.Prelude.{List, [], ◌∷◌, ℕ, ◌/◌, pos, get_or, Float}
use Rattle.std.specs.Float.{binary32}
use Rattle.std.specs.Float.Ieee.{sub, mul, of_int}
use Rattle.std.specs.Float.Ieee.Positive.{num, den}
use Rattle.channel.specs.declared.Rgb.{Rgb}
use Rattle.channel.specs.Channel.{one32}
use Rattle.channel.specs.Rgb.{rgb}
use Rattle.hsv.specs.declared.Hsv.{Hsv}

-- k, the whole part of h. For an h in range, num h / den h is exactly the number that the f32 denotes. Elsewhere it need
-- not be: it is the size of a finite f32, with no sign, and 0 / 1 for an infinity and a NaN.
abbrev pub whole_part : (h : Float) → ℕ
whole_part h = num h / den h

-- f = h - k.
abbrev pub fractional_part : (h : Float) → Float
fractional_part h = sub binary32 h (of_int binary32 (pos (whole_part h)))

-- p = v × (1 - s).
abbrev pub p_of : (v s : Float) → Float
p_of v s = mul binary32 v (sub binary32 one32 s)

-- q = v × (1 - s × f).
abbrev pub q_of : (v s f : Float) → Float
q_of v s f = mul binary32 v (sub binary32 one32 (mul binary32 s f))

-- r = v × (1 - s × (1 - f)).
abbrev pub r_of : (v s f : Float) → Float
r_of v s f = mul binary32 v (sub binary32 one32 (mul binary32 s (sub binary32 one32 f)))

-- Red, green, blue for k from 0 to 5.
abbrev pub rows : (v p q r : Float) → List Rgb
rows v p q r =
    rgb v r p
    ∷ rgb q v p
    ∷ rgb p v r
    ∷ rgb p q v
    ∷ rgb r p v
    ∷ rgb v p q
    ∷ []

-- The row of k. No hue in range has a k above 5.
abbrev pub row : (k : ℕ) (v p q r : Float) → Rgb
row k v p q r = get_or (rows v p q r) k (rgb v v v)

-- The channels that hue, saturation and value stand for.
abbrev pub hsv_channels : Hsv → Rgb
hsv_channels w =
    let v = w.value in
    let s = w.saturation in
    let f = fractional_part w.hue in
    row (whole_part w.hue) v (p_of v s) (q_of v s f) (r_of v s f)
