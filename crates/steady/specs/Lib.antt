-- What every tick keeps, and that the clock cannot go back.
pub mod Steady
pub mod Clock
