-- Containers, tags and variants that are entered, and their parts.
pub mod EnteredContainers
pub mod NextParts
pub mod NullAhead
pub mod DueLevels
pub mod NamedVariants
pub mod Labels
pub mod ByteItems
pub mod HeadsAside
