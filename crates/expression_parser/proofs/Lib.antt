pub mod Begun
pub mod Entered
