-- What calls on bare numbers tell and keep: the number returned is 0 exactly if the call worked, which others it can be and when it is 10, which entry is
-- named; a saved state's numbers are that state, so that the theorems of turns hold of calls one after the other.
pub mod Numbered
pub mod Records
pub mod Signatures
pub mod Twigs
pub mod Back
pub mod Chains
pub mod Checks
pub mod Prepares
pub mod Walks
pub mod Looses
pub mod Fits
pub mod Cuts
pub mod Tried
pub mod TriedFits
pub mod Refusals
pub mod Tens
pub mod Entries
pub mod Named
pub mod TriedRefusals
