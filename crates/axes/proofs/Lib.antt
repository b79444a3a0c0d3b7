pub mod Cases
pub mod Ranges
pub mod Rows
pub mod Arms
pub mod Climbs
