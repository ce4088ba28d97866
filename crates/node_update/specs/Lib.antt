pub mod OutfallConduits
pub mod NodeLaws
pub mod NodeUpdate
pub mod RuleProps
