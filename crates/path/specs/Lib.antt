-- `Path`: document 02, A.8: the path of a face-to-face curve, its drawing and its listing. `Step`: whether an axis of the machine
-- moves.
pub mod Path
pub mod Step
