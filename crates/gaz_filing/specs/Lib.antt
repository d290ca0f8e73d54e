pub mod Filing
pub mod Joined
pub mod WorkedJoined
