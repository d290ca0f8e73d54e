pub mod Board
pub mod Received
pub mod Keeper
pub mod Telling
pub mod Examples
pub mod WorkedCalls
