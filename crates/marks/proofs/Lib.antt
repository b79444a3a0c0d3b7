pub mod Calls
pub mod Marking
