pub mod Characters
pub mod Reading
pub mod Rounds
pub mod HouseOrder
