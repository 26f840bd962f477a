pub mod Effects
pub mod Scoped
pub mod Told
