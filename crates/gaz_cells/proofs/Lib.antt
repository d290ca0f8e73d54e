pub mod Digits
pub mod Order
pub mod Ids
pub mod Names
pub mod CellsBack
pub mod CustodyBack
pub mod Fitting
