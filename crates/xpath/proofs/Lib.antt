-- Laws that rest on the wording of the axes' definitions.
pub mod Says
pub mod SpreadKids
