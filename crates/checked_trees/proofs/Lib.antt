mod Worked
mod BinderSteps
