-- `Steps`: document 01's rule on steps too long, and the neighbours that it speaks of.
pub mod Steps
