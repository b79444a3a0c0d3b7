pub mod Readings
pub mod Tables
pub mod Turns
