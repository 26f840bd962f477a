pub mod Answered
pub mod Ends
pub mod Lines
pub mod Counted
pub mod Again
pub mod Translated
