-- How diagnostic notation is read.
pub mod Steps
pub mod Reached
pub mod Texts
pub mod BegunLevels
pub mod OneTree
pub mod Printed
