pub mod Network
pub mod Report
