-- The tree of a value: its parts, its levels and its notation.
pub mod Views
pub mod Elements
pub mod LookedUp
pub mod Replaced
pub mod TagParts
pub mod Stacked
pub mod MadeOfValues
pub mod ProperValues
pub mod Notations
pub mod Copies
