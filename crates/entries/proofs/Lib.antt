-- Laws of the numbers of an entry.
pub mod Numbers
