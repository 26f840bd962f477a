pub mod Meant
pub mod Agreement
