pub mod NumberTrees
pub mod Notices
pub mod Letters
