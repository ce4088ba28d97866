pub mod FirstPlaces
pub mod Sections
pub mod SectionTable
pub mod LookUps
pub mod NormalFlow
