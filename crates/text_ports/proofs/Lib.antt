pub mod LineSteps
pub mod WritingSteps
pub mod SendSteps
pub mod LineLaws
pub mod HeldLines
-- The steps of writing digits from the last one on.
pub mod DigitSteps
-- A number in decimal: the definitions' digits are those of std.
pub mod Decimals
-- What the proofs by hand of a history share.
mod Walks
