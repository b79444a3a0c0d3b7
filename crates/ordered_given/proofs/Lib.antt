-- The laws of what is judged before room.
pub mod Laws
