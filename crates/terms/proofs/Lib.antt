pub mod Handing
pub mod Lengths
pub mod Tests
