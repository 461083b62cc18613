pub mod Limits
pub mod Line
pub mod Rows
pub mod Sound
pub mod Refusals
pub mod Bytes
pub mod Reading
pub mod Held
