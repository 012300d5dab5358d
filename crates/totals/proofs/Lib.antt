-- `Known`: the known sheets print what is listed. `Marks`: the marks that have a line, in words. `Ranges`: sums over
-- ranges, and over all cells in closed form. `Sums`: what the numbers of all lines add up to. `Numbers`: every number fits
-- its columns. `Lines`: the length of the totals.
pub mod Known
pub mod Marks
pub mod Ranges
pub mod Sums
pub mod Numbers
pub mod Lines
