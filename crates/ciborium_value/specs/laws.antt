-- What functions that do nothing have as contracts: laws of the definitions, and worked examples.
pub mod RefusalLaws
pub mod FoldingLaws
pub mod OrderLaws
pub mod FormLaws
pub mod NumberItems
pub mod Examples
pub mod NotationLaws
