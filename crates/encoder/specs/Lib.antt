pub mod Units
pub mod Shot
pub mod Answers
pub mod Code
pub mod Room
