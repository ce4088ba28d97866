pub mod Conditions
pub mod Tests
pub mod Settings
pub mod Places
pub mod WorkedRules
