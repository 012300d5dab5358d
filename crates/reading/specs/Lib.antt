-- `Read`: what one read answers and leaves of the buffer, and reads one after the other.
pub mod Read
