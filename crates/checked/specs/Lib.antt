-- Checked: a signature is accepted exactly if a tree yields it, in exactly 2×n steps, however the turns are cut.
pub mod Walked
pub mod Parsed
pub mod Apart
pub mod Yields
pub mod Menus
pub mod Named
pub mod Chained
pub mod Accepted
pub mod Wholly
pub mod Public
pub mod Refusals
pub mod ShutOut
