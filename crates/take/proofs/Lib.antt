pub mod Broken
pub mod Damaged
pub mod Ends
pub mod Guard
pub mod Host
pub mod InC
pub mod Numbers
pub mod Promises
