-- `Along`: a patch along one axis, and its rows.
pub mod Along
