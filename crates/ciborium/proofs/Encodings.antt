-- Encodings and their order; known bytes have one answer.
pub mod EncodingLaws
pub mod OrderedValues
pub mod RisingKeys
pub mod Sequences
pub mod OneAnswer
