-- Listing told: which inputs are questions, what the listing program prints, and that every text has room.
pub mod Ground
pub mod Asked
pub mod Walked
pub mod Told
pub mod Cases
pub mod Widths
pub mod Fits
pub mod Used
