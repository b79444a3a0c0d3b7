pub mod Found
mod Named
