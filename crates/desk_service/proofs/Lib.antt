pub mod SessionSteps
pub mod PlaceSteps
pub mod KeptChanges
pub mod PageSessions
pub mod CompanySteps
pub mod VersionTexts
