pub mod ClapLine
pub mod CommandWords
pub mod Plain
pub mod Words
