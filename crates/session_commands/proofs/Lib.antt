pub mod WorkedLines
pub mod ReadBack
pub mod LineLaws
pub mod UnknownWordLaws
