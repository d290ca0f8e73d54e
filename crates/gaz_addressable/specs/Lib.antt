pub mod Texts
pub mod HouseNumbers
pub mod Ranges
pub mod Objects
pub mod WorkedObjects
