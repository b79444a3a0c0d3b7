-- The check, level, block and axes on bare numbers: what each call promises, and that two results which it allows are equal.
pub mod Check
pub mod Axes
pub mod Once
