pub mod ShortShare
