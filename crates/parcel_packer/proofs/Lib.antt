mod PackingLaws
pub mod ParcelSteps
mod RiseLaws
mod GatherLaws
mod WholeLaws
mod MergeLaws
mod JoinLaws
mod NothingLaws
pub mod FillLaws
pub mod OverLaws
pub mod LaidLaws
mod GatherSteps
pub mod PutLaws
mod PackedLaws
