-- `Signed`: what a C caller is answered. `Records`: calls with a record that C passes as bytes. `Sheet`: a sheet call.
-- `Text`: calls that write text. `Swatches`: swatch calls.
pub mod Signed
pub mod Records
pub mod Sheet
pub mod Text
pub mod Swatches
