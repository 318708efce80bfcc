pub mod Form
pub mod Sizes
pub mod Refusals
pub mod Accepted
pub mod Passed
pub mod Shape
pub mod Cases
pub mod Numbers
