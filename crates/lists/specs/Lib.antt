pub mod Fill
pub mod Part
pub mod Every
pub mod Test
pub mod Stands
pub mod Copy
pub mod Flag
