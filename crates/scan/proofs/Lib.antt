-- `Axes`: axes by their numbers. `Column`: the cubic through four coordinates. `Natural`: natural numbers as the machine
-- holds them. `Orders`: the order of refusals in two parts. `Row`: a row of walkers, step by step. `Written`: one cell
-- more, marked or listed. `Samples`: walkers follow samples. `Unique`: the contracts fix the answers. `Alike`:
-- drawings that do the same. `ThreeAxes`: what three axes hold.
pub mod Axes
pub mod Column
pub mod Natural
pub mod Orders
pub mod Row
pub mod Written
pub mod Samples
pub mod Unique
pub mod Alike
pub mod ThreeAxes
