-- The orders of trees, by variants and by encodings, and the walk that compares.
pub mod Derived
pub mod OrderedTrees
pub mod OrderedIntegers
pub mod TotalOrders
pub mod HeadsInOrder
pub mod SideBySide
pub mod VisitCounts
pub mod Rooms
pub mod Encodings
pub mod TreeEncodings
pub mod OrderedStrings
