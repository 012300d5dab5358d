-- Laws on the integers: `Difference` turns linear facts into facts of ℕ, `Polynomial` and `Ring` decide equations,
-- `Test` reads signed tests, `Magnitude` bounds sums and products, and `Natural` and `Machine` go between integers,
-- naturals and the bits of signed numbers.
pub mod Difference
pub mod Polynomial
pub mod Ring
pub mod Test
pub mod Magnitude
pub mod Natural
pub mod Machine
