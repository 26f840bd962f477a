mod Lengths
mod Lasts
pub mod Numbers
