-- What functions that do nothing have as contracts: what holds of heads and spellings.
pub mod SpellingLaws
pub mod HeaderLaws
