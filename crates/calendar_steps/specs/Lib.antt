pub mod Calendar
pub mod CivilDay
pub mod Moment
