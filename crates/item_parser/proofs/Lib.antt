pub mod Answered
pub mod Settled
pub mod Worked
