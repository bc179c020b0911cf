pub mod Words
pub mod Printing
pub mod Pens
