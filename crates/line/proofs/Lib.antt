pub mod Digits
pub mod Rows
pub mod Chunks
mod Users
mod Faults
pub mod Sizing
mod Taking
pub mod Answering
mod Giving
