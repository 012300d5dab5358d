-- `Along`: a solid along one axis. `Sliced`: the walk through its slices.
pub mod Along
pub mod Sliced
