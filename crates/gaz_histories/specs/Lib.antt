pub mod Examples
pub mod Histories
pub mod Kept
