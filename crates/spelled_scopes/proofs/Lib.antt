pub mod Frames
mod Joined
mod Laws
mod Sorts
mod Apart
mod Seen
mod Inside
mod Quiet
mod Expressions
mod Specifiers
mod Declarators
mod Parameters
mod Declarations
mod Declared
pub mod Words
mod Functions
mod Nodes
mod Spelled
mod Spans
pub mod Scoping
