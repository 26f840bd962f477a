pub mod Specs
