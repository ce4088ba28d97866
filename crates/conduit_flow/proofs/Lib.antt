pub mod RangeLemmas
pub mod GeometryLemmas
pub mod InertiaLemmas
pub mod TravelLemmas
pub mod TestLemmas
pub mod PressureLemmas
