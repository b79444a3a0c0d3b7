-- Trees: data trees and twigs, what is said of their elements, and their signatures, with the laws that every call above uses.
-- Definitions
pub mod Tree
pub mod Nodes
pub mod Ranks
pub mod Signature
pub mod Names
pub mod Rows
pub mod Facts
pub mod Tags
-- Laws
pub mod Order
pub mod Places
pub mod NodeRanks
pub mod NodeOrder
pub mod NodeAncestors
pub mod Listed
pub mod Unique
pub mod FactsOf
pub mod Meanings
pub mod TagLaws
pub mod Nesting
