-- Tag lists: what they are and how they are judged.
pub mod TagLists
pub mod Cursors
