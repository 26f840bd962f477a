pub mod Fit
pub mod Signatures
pub mod Items
pub mod Shown
pub mod Scopes
pub mod FunctionTable
pub mod Frames
pub mod FunctionRows
