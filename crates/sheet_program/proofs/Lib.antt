-- `Drawn`: what a drawn sheet and a refused one leave. `Output`: the parts of a listing, put together, and a refusal line
-- are the sheet program's output of the input. `Totalled`: the totals, or the refusal line, are the totals program's.
pub mod Drawn
pub mod Output
pub mod Totalled
