-- What a source over bytes takes of the item ahead.
pub mod BareHeads
pub mod ItemHeads
pub mod SkippedTags
pub mod BareScalars
pub mod FrontReads
pub mod TakenOnly
pub mod Weights
pub mod ValuesGiven
pub mod ValueFaults
pub mod WholeValues
pub mod PassedItems
pub mod PassedRoom
pub mod PassedOver
