-- `Order`: the order of floats as fractions. `Range`: a channel has no refusal exactly where it lies from 0 to 1. `Bits`:
-- the value from the fields of the bits. `Raised`: a small channel is raised to 1/128. `FromBits`: the coordinate from the
-- bits. `Held`: rounding keeps the order. `HalfWay`: the half-way value lies between. `PassedUp`: what a `?` passes up.
pub mod Order
pub mod Range
pub mod Bits
pub mod Raised
pub mod FromBits
pub mod Held
pub mod HalfWay
pub mod PassedUp
