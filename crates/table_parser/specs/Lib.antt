pub mod Cursors
pub mod Founds
pub mod Codes
pub mod Nests
pub mod Into
pub mod Sound
pub mod Turns
pub mod Filled
