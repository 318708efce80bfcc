pub mod Numbers
pub mod Pieces
pub mod Code
pub mod Reading
pub mod Words
pub mod ReadingCode
pub mod Room
pub mod Differ
