-- `Known`: document 01, "Samples to check by", K1 to K12. `Demand3`: demand 3 and "The words of demand 3". `Strokes`:
-- the same for the curve lines of a sheet. `Calls`: calls to the functions that draw. `Sheets`: calls to the function that
-- draws a sheet. `Totals`: what a sheet's totals add up to. `Slits`: neighbouring samples have cells next to each other.
-- `Accuracy`: the accuracy rule in any number of parameters.
-- `Disguise`: curves and patches drawn as solids. `NewCells`: the new cells of a drawing and of a sheet. `Choices`: strokes
-- that go over and strokes that go under. `Quits`: where the long-step test of a curve quits. `Chosen`: the step count that
-- the box chooses. `Flips`: a flip is harmless. `Paths`: face-to-face curves. `Strip`: the preview strip beside the main path.
pub mod Known
pub mod Demand3
pub mod Strokes
pub mod Calls
pub mod Sheets
pub mod Totals
pub mod Slits
pub mod Accuracy
pub mod Disguise
pub mod NewCells
pub mod Choices
pub mod Quits
pub mod Chosen
pub mod Flips
pub mod Paths
pub mod Strip
