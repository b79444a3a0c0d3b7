-- Ordering: what ordered answers are, the table of earliest ends, and the walk over it, with the laws that the ordered call leans on.
-- Definitions
pub mod Answer
pub mod Twig
pub mod Next
pub mod Table
pub mod Choosing
pub mod Spot
-- Laws
pub mod TwigLaws
pub mod Pairwise
pub mod Ends
pub mod Chosen
pub mod Walked
pub mod Answering
pub mod Filling
pub mod Cases
pub mod Spots
pub mod Steps
pub mod Arriving
pub mod Starts
pub mod NextLaws
pub mod NextExactly
pub mod Listing
