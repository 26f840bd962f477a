pub mod Statuses
pub mod Command
pub mod Outcomes
pub mod Runs
pub mod Endings
pub mod Messages
