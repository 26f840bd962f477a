pub mod Steps
mod Worked
mod Tables
