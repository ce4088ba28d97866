pub mod Seen
pub mod Ready
pub mod Room
pub mod Opening
pub mod EqualLinks
