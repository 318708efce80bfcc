pub mod Answers
pub mod Escape
pub mod PutCode
pub mod Faultless
pub mod UnitCode
pub mod Units
mod Copying
