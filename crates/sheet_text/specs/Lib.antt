-- `Writes`: what a call answers, and what it leaves in the lent text. `Puts`: bytes written from the front of a text.
-- `Column`: the columns of a number.
pub mod Writes
pub mod Puts
pub mod Column
