pub mod Change
pub mod Theorems
pub mod Answer
