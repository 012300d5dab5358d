-- `Orders`: the strip's order beside the main path's.
pub mod Orders
