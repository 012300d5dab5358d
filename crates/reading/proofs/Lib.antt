-- `Filled`: what is read lies within the buffer.
pub mod Filled
