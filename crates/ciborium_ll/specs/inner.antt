-- What only clauses of functions that no user calls rest on.
pub mod Cursors
pub mod KeptLevels
pub mod Fronts
