-- What is written, and where a sink stands while it is.
pub mod Written
pub mod ReadBack
pub mod WrittenValues
pub mod Progress
pub mod Standing
pub mod Growing
pub mod TreeSinkSteps
