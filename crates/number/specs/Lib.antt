pub mod Sum
pub mod First
pub mod Divisors
pub mod Laws
pub mod Fraction
pub mod LowestTerms
pub mod Reduced
pub mod Order
