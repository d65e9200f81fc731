pub mod Exits
mod Turns
pub mod Readers
pub mod ReadBack
mod Encodings
mod Items
mod Payloads
mod Containers
pub mod Writing
pub mod Refusals
