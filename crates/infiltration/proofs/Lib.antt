pub mod CurveLemmas
pub mod CurveStates
pub mod DepthLemmas
pub mod HortonLemmas
pub mod MethodLemmas
pub mod QuotientLemmas
pub mod StateLaws
