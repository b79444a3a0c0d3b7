-- Turns with a twig: what they judge before their first step.
pub mod Given
pub mod Grounds
pub mod Refusals
