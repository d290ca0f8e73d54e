pub mod Calls
pub mod Faulting
pub mod Around
pub mod Bare
