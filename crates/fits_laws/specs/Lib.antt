-- What holds of the ordered question in turns.
pub mod Finished
pub mod Verdicts
pub mod Runs
pub mod Questions
pub mod Public
pub mod Chained
pub mod Alike
pub mod Exactly
pub mod Beside
pub mod Once
pub mod Cases
pub mod Refusals
pub mod Demands
pub mod ShutOut
pub mod Tried
