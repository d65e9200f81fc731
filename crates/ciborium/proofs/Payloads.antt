-- The payloads of strings, and the numbers that they make.
pub mod SpelledStrings
pub mod StringPayloads
pub mod LoneCharacters
pub mod ReadDigits
pub mod OpenNumbers
pub mod ShortNames
pub mod SkippedPayloads
pub mod VisitedPayloads
