pub mod Remembered
pub mod RememberedCode
