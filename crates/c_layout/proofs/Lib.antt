mod Few
pub mod Tokens
mod Worked
