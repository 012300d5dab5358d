-- `Draws`: what a sheet's drawing answers, and what it leaves in the lent buffer and the lent text. `Totals`: the same of
-- a sheet's totals.
pub mod Draws
pub mod Totals
