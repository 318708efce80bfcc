pub mod Code
pub mod Read
pub mod Signed
pub mod Answers
pub mod Same
pub mod Laws
pub mod Cases
