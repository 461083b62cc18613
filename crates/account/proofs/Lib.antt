pub mod Ranges
mod Coding
