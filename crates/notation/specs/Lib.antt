pub mod Notation
pub mod Reading
pub mod InPlace
