-- Axes: what the search of a row goes by, and what a search finds.
pub mod Row
pub mod Kept
