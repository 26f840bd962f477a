pub mod Runs
pub mod Ready
pub mod Rows
pub mod Standing
pub mod Steps
pub mod Calm
pub mod Nodes
