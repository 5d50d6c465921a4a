pub mod DeckLaws
pub mod CutSteps
pub mod CutLaws
