-- The definitions of the simulation and of the account of packets, each file over those above it.
pub mod Network
pub mod State
pub mod Queue
pub mod Build
pub mod Fit
pub mod Tick
pub mod NewTimes
pub mod HeldTimes
pub mod Run
pub mod History
pub mod Account
pub mod Names
pub mod Joins
