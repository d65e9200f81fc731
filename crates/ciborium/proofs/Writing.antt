-- What calls put out one after the other.
pub mod WritingSteps
pub mod WrittenPlaces
pub mod ByteSinks
pub mod WrittenSequences
