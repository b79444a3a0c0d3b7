-- Ordered_given: what the ordered call judges before room.
pub mod Judged
