pub mod Boards
pub mod Lawful
pub mod Highest
pub mod Mem
pub mod Counting
pub mod Restored
pub mod Untouched
