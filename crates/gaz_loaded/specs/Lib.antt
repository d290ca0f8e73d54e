pub mod Files
pub mod Lives
pub mod Telling
pub mod Passing
pub mod Restoring
pub mod Loading
pub mod PassingExamples
pub mod Examples
