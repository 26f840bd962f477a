pub mod Calls
pub mod Entered
pub mod Fitting
pub mod Options
pub mod Rows
pub mod Table
