-- Document 01, "The stroke sheet", in its own order. `Field`: fields and their values. `Line`: lines and their fields.
-- `Sheet`: the refusals of lines, and a sheet's strokes. `Printed`: the listing and the refusal line as bytes, and the
-- whole output. `Call`: a sheet call's answer and what its buffer holds afterwards. `Part`: a listing in parts. `Known`:
-- sheets and what is printed for them.
pub mod Field
pub mod Line
pub mod Sheet
pub mod Printed
pub mod Call
pub mod Part
pub mod Known
