pub mod States
pub mod Tokens
pub mod Readers
pub mod Laws
