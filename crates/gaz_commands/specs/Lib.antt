pub mod Lines
pub mod Saying
pub mod Asking
pub mod Obeying
pub mod Printing
pub mod WorkedLines
