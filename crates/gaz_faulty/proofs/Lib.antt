pub mod Faulting
