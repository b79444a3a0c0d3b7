-- Lines: what the listing program prints.
pub mod Lines
pub mod Question
pub mod Listing
