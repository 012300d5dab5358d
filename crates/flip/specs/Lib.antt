-- `Flip`: document 02, A.7: the flip of a curve and of a patch. `Listings`: what the listings of a curve and of its flip have
-- in common.
pub mod Flip
pub mod Listings
