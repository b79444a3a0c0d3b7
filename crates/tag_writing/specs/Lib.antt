-- Tag writing: from a signature back to its tag list; the call's promise.
pub mod TagsBack
