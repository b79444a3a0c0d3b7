-- Ordered and loose answers on bare numbers: what each call promises, and that two results which it allows are equal.
pub mod Ordered
pub mod Fits
pub mod Prepare
pub mod Walk
pub mod Once
