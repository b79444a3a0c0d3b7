-- Laws of the axis, level and block calls.
pub mod OneResult
pub mod Xpath
pub mod Pinned
pub mod Exactly
pub mod Tens
