pub mod Rows
mod Answering
mod Lefts
pub mod Ranges
pub mod Lending
mod Reading
mod Cuts
mod Sounds
