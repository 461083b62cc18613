pub mod Held
pub mod Room
pub mod Posted
pub mod Row
pub mod Open
