-- XPath's axes over ranks: the definitions, and the laws that the code of the axes goes by.
-- Definitions
pub mod Select
pub mod Axes
pub mod OnNodes
-- Laws
pub mod SelectLaws
pub mod Ancestors
pub mod Levels
pub mod Rising
pub mod Kept
pub mod NodeLists
pub mod Spread
pub mod SpreadUnion
