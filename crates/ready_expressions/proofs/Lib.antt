pub mod Expressions
pub mod Heads
pub mod Statements
pub mod Declarators
