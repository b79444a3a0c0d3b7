-- What holds of every turn of preparing and of walking, for any signature, table and state.
pub mod Trails
pub mod Prepared
pub mod Walked
pub mod Tried
pub mod Passing
pub mod Refusals
