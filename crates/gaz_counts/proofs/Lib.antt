pub mod Noting
pub mod WorkedNoting
