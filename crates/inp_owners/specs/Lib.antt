pub mod Owners
pub mod Placing
