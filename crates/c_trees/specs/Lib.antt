pub mod Counts
pub mod Deep
pub mod Few
pub mod Views
pub mod Falls
pub mod Same
pub mod Valid
pub mod Depths
