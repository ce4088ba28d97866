pub mod Keywords
pub mod Context
pub mod Values
pub mod Items
pub mod Forms
pub mod Getters
pub mod Meaning
pub mod Laws
