pub mod InputLaws
pub mod FaultLaws
pub mod ReadSteps
pub mod AnswerLaws
pub mod ChainLaws
pub mod FilterSteps
