pub mod Loops
pub mod Bounds
pub mod Repeats
pub mod Local
pub mod Deeper
pub mod Advance
pub mod Sets
pub mod Seen
pub mod Fresh
pub mod Leaves
pub mod Phrases
pub mod Live
pub mod LiveFrom
pub mod Completed
pub mod Finished
mod Worked
