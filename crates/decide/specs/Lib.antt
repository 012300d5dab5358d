-- `Some`: tests over a range and over a list. `Same`: the test of equal lists. `Refusal`: the first number of a refusal
-- order that applies, and what a call then answers and leaves. `Verdict`: what a check finds.
pub mod Some
pub mod Same
pub mod Refusal
pub mod Verdict
