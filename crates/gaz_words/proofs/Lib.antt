pub mod Lists
pub mod Rows
pub mod Named
pub mod Entered
pub mod Matches
pub mod Told
pub mod WorkedWords
