pub mod Envelopes
pub mod Logs
pub mod Settings
pub mod Shapes
pub mod Topics
