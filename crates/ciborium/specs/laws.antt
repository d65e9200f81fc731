-- What laws have as contracts: of encodings, of deterministic ones, and of what is read back.
pub mod AnswerLaws
pub mod OrdersOfValues
pub mod EncodingLaws
pub mod RoundTrips
pub mod FormRoundTrips
pub mod SequenceRoundTrips
pub mod Loaded
pub use Rattle.ciborium_ll.specs.laws.SpellingLaws
pub use Rattle.ciborium_ll.specs.laws.HeaderLaws
pub use Rattle.ciborium_value.specs.laws.RefusalLaws
pub use Rattle.ciborium_value.specs.laws.FoldingLaws
pub use Rattle.ciborium_value.specs.laws.OrderLaws
pub use Rattle.ciborium_value.specs.laws.FormLaws
pub use Rattle.ciborium_value.specs.laws.NumberItems
pub use Rattle.ciborium_value.specs.laws.Examples
pub use Rattle.ciborium_value.specs.laws.NotationLaws
