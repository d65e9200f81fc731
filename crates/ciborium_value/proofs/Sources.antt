-- What is read of containers and of trees, part by part.
pub mod Sequences
pub mod Dictionaries
pub mod NamedFields
pub mod Limits
pub mod TreeReading
pub mod TreeCalls
pub mod TreeFaults
pub mod TreeLevels
pub mod SkippedItems
