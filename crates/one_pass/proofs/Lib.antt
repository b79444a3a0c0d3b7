pub mod Contexts
pub mod Passes
pub mod Unions
