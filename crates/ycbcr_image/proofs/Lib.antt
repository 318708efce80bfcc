pub mod Accepted
pub mod Cases
pub mod Passed
pub mod Facts
pub mod Multiples
