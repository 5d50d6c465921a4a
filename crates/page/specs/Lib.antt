pub mod Admission
pub mod Requests
pub mod Answers
pub mod Limits
