-- `Small`: signed answers as the machine holds them. `Calls`, `Sheet`, `Text`, `Cells`: what the calls' contracts say of
-- signed answers. `Unique`: the swatch calls' contracts fix answer and buffer. `Taken`: what the
-- strip takes from the main path.
pub mod Small
pub mod Calls
pub mod Sheet
pub mod Text
pub mod Cells
pub mod Unique
pub mod Taken
