pub mod Digits
pub mod Ids
pub mod Columns
pub mod Reading
pub mod Laws
pub mod Examples
pub mod Custody
pub mod CustodyExamples
