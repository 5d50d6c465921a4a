pub mod KindLaws
pub mod LetterLaws
pub mod SettingLaws
