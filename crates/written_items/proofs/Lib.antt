pub mod Lexed
pub mod Held
pub mod Spelled
pub mod Written
pub mod Items
