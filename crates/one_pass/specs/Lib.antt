-- One pass: what a pass over the entries marks.
pub mod Reached
