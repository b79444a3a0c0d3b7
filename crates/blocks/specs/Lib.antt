-- Blocks: what the level and block calls promise.
pub mod Checked
pub mod Level
pub mod Block
