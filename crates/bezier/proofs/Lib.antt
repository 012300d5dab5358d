-- `Readings`: a curve's and a patch's values as document 01 writes them. `Scale`: it is not 0. `Ends`: corners are
-- samples. `Mean`: values lie between control values. `Reversed`: the control values of a curve in reverse.
-- `Exchanged`: two parameters exchanged.
pub mod Readings
pub mod Scale
pub mod Ends
pub mod Mean
pub mod Reversed
pub mod Exchanged
