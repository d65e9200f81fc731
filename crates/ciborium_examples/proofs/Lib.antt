pub mod ReadNotation
mod MemoryAlone
mod OwnTypes
mod WrittenInRow
