-- Deterministic forms: trees that are their own, forms that are made, and why there is none.
pub mod AlikeForms
pub mod BignumShapes
pub mod FormedLists
pub mod GivenValues
pub mod MadeForms
pub mod OwnForms
pub mod ProperForms
pub mod RefusedForms
pub mod ReorderedPairs
pub mod SortedPairs
