-- Bignums, and the folding of them at every place of a tree.
pub mod Nests
pub mod Folding
pub mod FoldedCopies
pub mod Bignums
pub mod BigEndian
pub mod NumberItems
