-- Tag lists read into signatures: the promises of the readers.
pub mod Readers
