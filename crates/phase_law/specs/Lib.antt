pub mod Law
pub mod Ranges
pub mod Laws
pub mod FortyLinks
