pub mod Report
pub mod Untold
pub mod Told
