pub mod Macros
pub mod MacroRows
