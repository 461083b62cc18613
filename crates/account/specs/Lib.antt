pub mod Limits
pub mod Range
pub mod Balance
pub mod Bytes
pub mod Kind
pub mod Booking
