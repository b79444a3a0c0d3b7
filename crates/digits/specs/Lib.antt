-- Digits: text in a lent room, and numbers as decimal digits.
pub mod Page
pub mod Printed
pub mod Decimal
pub mod Numbers
