-- `Along`: a curve along one axis. `Begin`: the walker at sample 0, and the row that it walks. `Search`: a long step by
-- the number of its axis. `Judged`: the verdict by what came before the step test and what the test told. `Answers`: a
-- check's contract fixes its answer.
pub mod Along
pub mod Begin
pub mod Search
pub mod Judged
pub mod Answers
