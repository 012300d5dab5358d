-- `Answer`: what a sheet call's answer says. `Lines`: what is answered of lines.
pub mod Answer
pub mod Lines
