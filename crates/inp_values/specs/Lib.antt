pub mod CalendarDate
pub mod Clock
pub mod Duration
pub mod Field
pub mod Switch
pub mod Units
pub mod Words
