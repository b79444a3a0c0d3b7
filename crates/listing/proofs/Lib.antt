pub mod Places
mod Input
