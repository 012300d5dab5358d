-- Document 01 in its own order, and document 02's A.10, A.11 and A.13. `Object`: the curve, the patch and the solid, their exact
-- samples and cells.
-- `Refusals`: "Who can cause which refusal", for drawing and listing. `Drawing`: a drawing of whatever kind, and what grid and
-- list hold afterwards. `NewCells`: how many cells a drawing turns from unmarked to marked. `Axis`: the program's axes.
-- `ChoiceNumber`: a choice by a number.
pub mod Object
pub mod Refusals
pub mod Drawing
pub mod NewCells
pub mod Axis
pub mod ChoiceNumber
