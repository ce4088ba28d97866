pub mod HotRanges
pub mod HotBytes
pub mod Layout
pub mod Checks
pub mod Reading
pub mod WrittenBack
