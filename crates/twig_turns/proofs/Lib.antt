-- Laws of what turns with a twig judge first.
pub mod Judged
