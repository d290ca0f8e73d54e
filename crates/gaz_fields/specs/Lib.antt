pub mod Days
pub mod Labels
pub mod Fields
pub mod Forms
pub mod Appending
pub mod WorkedDates
