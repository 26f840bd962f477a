pub mod Stops
pub mod Bindings
