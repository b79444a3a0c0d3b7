-- Terms: the faults and their numbers, the two kinds of tree, the refusal by a length alone, stop reasons in numbers, and what a call leaves in lent room.
pub mod Faults
pub mod Kinds
pub mod Length
pub mod Stops
pub mod Room
