pub mod Scopes
pub mod Attempts
pub mod Views
