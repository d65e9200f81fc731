-- The loop that puts a value together, turn by turn.
pub mod Paired
pub mod Pulled
pub mod Fronts
pub mod Heads
pub mod Leaves
pub mod Contents
pub mod AfterTag
pub mod Turning
pub mod Turned
