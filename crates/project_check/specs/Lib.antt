pub mod Times
pub mod Network
pub mod FullHeight
pub mod Ends
pub mod Objects
pub mod ProjectFaults
pub mod Faultless
