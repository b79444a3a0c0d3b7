pub mod Pages
pub mod Onward
pub mod Decimals
pub mod Rows
