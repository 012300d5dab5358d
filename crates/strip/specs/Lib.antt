-- `Strip`: document 02, A.9: the preview strip's order and its drawing.
pub mod Strip
