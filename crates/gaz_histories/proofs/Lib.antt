pub mod Vectors
pub mod Searches
pub mod Lives
