-- `Patch`: what a patch record stands for. `Machine`: what the machine starts from, and within which limits.
pub mod Patch
pub mod Machine
