-- Good items and refusals: a reader over lists answers each, and what is good is no larger than its bytes.
pub mod Accepted
pub mod Faults
pub mod Bignums
pub mod Reader
pub mod Spelled
pub mod Parts
pub mod Steps
pub mod Introduced
pub mod Found
pub mod Refused
pub mod Answered
pub mod Outcome
pub mod GoodBytes
pub mod Bounded
pub mod ProperMeanings
pub mod RefusedKinds
