-- What three axes hold: two that agree on each axis are the same.
use mathlib.Core.Path.{◌≡◌, refl}
use Rattle.scan.specs.declared.xyz.Xyz.{Xyz}

pub same_axes : {T : Type 0} {x x' y y' z z' : T} → x ≡ x' → y ≡ y' → z ≡ z' →
    ◌≡◌ {A = Xyz T} (record { x = x; y = y; z = z }) (record { x = x'; y = y'; z = z' })
same_axes p q r = rw (p, q, r)
