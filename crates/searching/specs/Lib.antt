-- Searching: what a search for the p-th element promises.
pub mod Only
