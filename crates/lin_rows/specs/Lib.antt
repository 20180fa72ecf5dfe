pub mod Answers
pub mod Numbers
pub mod Rows
pub mod Divisors
pub mod Sums
pub mod Cancelling
pub mod Multiples
