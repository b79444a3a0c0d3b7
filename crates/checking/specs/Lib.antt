-- Checking: the written rule of the check, a turn of it, the whole check, and the check in plain numbers.
pub mod Rule
pub mod Turn
pub mod Whole
pub mod Plain
