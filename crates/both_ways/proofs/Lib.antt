-- `Same`: parts of two lists are the same where their bytes are.
pub mod Same
