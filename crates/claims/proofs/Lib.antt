-- `Known`: K1 to K12 hold. `Turns`: the list argument, for calls of any kind. `Accuracy`: the accuracy rule holds in any
-- number of parameters. `Disguise`: curves and patches drawn as solids have the same cells. `Paths`: neighbouring cells of a
-- face-to-face curve share a face. `Supplied`: what calls of each kind supply. `Demand3`: demand 3 holds. `Strokes`: its
-- form for a stroke sheet. `Calls`: calls to the functions that draw are its calls. `Sheets`: an accepted sheet call is
-- a list of its own. `Instances`: small computed cases, which show that demand 3 speaks of something. `Totals`: the
-- totals of an accepted sheet add up. `Slits`: patches have no slits. `NewCells`: new cells are different cells, and those of a sheet add up. `Choices`:
-- strokes that go over and strokes that go under. `Quits`: where the test of a curve quits no step is too long. `Chosen`: the
-- count that the box chooses is the smallest. `Flips`: a flip is harmless. `Strip`: the strip beside the main path.
pub mod Known
pub mod Turns
pub mod Accuracy
pub mod Disguise
pub mod Paths
pub mod Supplied
pub mod Demand3
pub mod Strokes
pub mod Instances
pub mod Calls
pub mod Sheets
pub mod Totals
pub mod Slits
pub mod NewCells
pub mod Choices
pub mod Quits
pub mod Chosen
pub mod Flips
pub mod Strip
