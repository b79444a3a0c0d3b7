pub mod TagFaults
pub mod TagsFrom
pub mod Judging
