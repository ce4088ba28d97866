pub mod Peaks
pub mod Steps
pub mod Figures
pub mod Loads
pub mod Runoffs
