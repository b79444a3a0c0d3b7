pub mod Emit
pub mod Back
