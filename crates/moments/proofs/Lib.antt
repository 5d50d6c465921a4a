-- What each character of a moment has.
pub mod MomentTexts
