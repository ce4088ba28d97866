pub mod Places
pub mod Core
pub mod Items
pub mod Steps
pub mod Runs
pub mod Kept
pub mod Asks
