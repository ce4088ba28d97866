pub mod CurveReading
pub mod PumpFlow
pub mod PumpSetting
