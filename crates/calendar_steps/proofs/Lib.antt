pub mod CalendarLemmas
pub mod CivilLemmas
