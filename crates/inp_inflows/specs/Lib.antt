pub mod Counted
pub mod Inflows
pub mod Laws
