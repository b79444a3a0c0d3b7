-- How the bare numbers of the C interface stand for stop reasons, answers and states.
pub mod Numbers
pub mod Answers
pub mod States
pub mod Fits
pub mod Walk
pub mod Back
pub mod Once
