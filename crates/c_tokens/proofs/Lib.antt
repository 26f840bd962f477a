mod Examples
pub mod Texts
pub mod Rows
pub mod Lines
pub mod Longest
pub mod Tables
pub mod Reaches
pub mod Signs
pub mod Steps
pub mod Opened
pub mod Ends
pub mod Dialects
pub mod ClassNumbers
pub mod ClassLimits
