-- From what holds of every reader to a reader whose bytes are known, and back.
pub mod WhateverFollows
pub mod Outcomes
pub mod KnownReaders
pub mod PutAside
pub mod HandedReaders
pub mod NextReaders
pub mod ReadSequences
pub mod TestedTags
pub mod WholeSlices
pub mod Loading
