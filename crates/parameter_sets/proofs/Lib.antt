pub mod Sizes
pub mod Fields
pub mod Equal
pub mod Read
