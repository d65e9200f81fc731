-- What is written is read back, and read alike from bytes and from a tree.
pub mod SourcesAgree
pub mod RoundTrips
pub mod Loaded
pub mod EqualContents
pub mod FormRoundTrips
pub mod SequenceRoundTrips
pub mod LoadedWhole
