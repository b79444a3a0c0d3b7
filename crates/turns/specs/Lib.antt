-- Turns: what a turn is, over any state and any written step rule, and the laws of every turn.
pub mod Pick
pub mod Truth
pub mod Turn
pub mod Laws
pub mod Counts
pub mod Chains
pub mod Demand
pub mod Judging
pub mod Pauses
