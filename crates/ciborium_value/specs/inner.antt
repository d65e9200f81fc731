-- What only clauses of functions inside the library rest on, and those of `Stack`.
pub mod EncodedLists
pub mod FoldedCopies
pub mod TreeHeads
pub mod Frames
pub mod OwnForms
pub mod ReadItems
pub mod ReadTokens
pub mod SideBySide
pub mod Stack
pub mod TreeSinks
pub mod TreeSources
