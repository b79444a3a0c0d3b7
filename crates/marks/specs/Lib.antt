-- Marks: what an axis call promises, its request, and the marks that its code goes by.
pub mod Axis
pub mod Requests
pub mod Marks
