pub mod Ahead
pub mod Changing
pub mod Readings
pub mod Then
