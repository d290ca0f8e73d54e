pub mod Written
pub mod Databases
