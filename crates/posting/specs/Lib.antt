pub mod State
pub mod Posting
pub mod Run
pub mod Totals
pub mod Laws
pub mod Years
