-- Document 02, A.2. `Totals`: counts and sums of marks, and their lines. `Printed`: the whole output. `Call`: the order of
-- a call that writes the totals. `Sums`: what all lines add up to. `Known`: sheets and the totals that are printed for
-- them.
pub mod Totals
pub mod Printed
pub mod Call
pub mod Sums
pub mod Known
