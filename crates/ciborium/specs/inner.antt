-- What only clauses of functions that no user calls rest on.
pub mod Around
pub mod FrontItems
pub mod Parts
pub mod Rules
pub mod Turns
pub mod ValuesInBytes
pub mod Skips
pub mod PassedOver
pub mod StringContents
pub mod StringAnswers
pub mod Unread
pub mod ByteSources
