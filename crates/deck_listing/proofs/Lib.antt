mod PushLaws
mod CutLaws
mod WordLaws
mod FieldTexts
mod ListableLaws
pub mod ListingLaws
pub mod BehindLaws
mod PutSteps
mod FieldSteps
mod KnownWords
mod LiteralSteps
mod LineSteps
mod RunSteps
pub mod BlockSteps
mod WalkSteps
mod ImageLineSteps
mod AloneSteps
mod SectionSteps
pub mod SheetSteps
