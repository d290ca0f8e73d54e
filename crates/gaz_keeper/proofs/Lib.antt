pub mod Examples
pub mod Faults
pub mod Keeping
pub mod Pairs
pub mod WorkedCalls
