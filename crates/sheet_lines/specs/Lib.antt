-- `Read`: what is read of a field, of the input's next line and of a curve line.
pub mod Read
