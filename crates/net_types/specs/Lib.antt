pub mod Lending
pub mod Faults
pub mod Records
pub mod Ranges
pub mod Sound
pub mod Empty
