pub mod Cases
pub mod Inverse
pub mod Runs
pub mod Plain
pub mod Stopping
