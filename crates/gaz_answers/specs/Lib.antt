pub mod Answers
pub mod Passages
pub mod Paging
pub mod Streets
pub mod Lives
pub mod Volumes
pub mod WorkedLives
pub mod WorkedRows
