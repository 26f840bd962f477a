pub mod Classes
pub mod Sets
pub mod Kinds
pub mod Patterns
pub mod Rules
pub mod Earlier
pub mod Contexts
