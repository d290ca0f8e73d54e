pub mod Beside
pub mod Store
pub mod Opened
pub mod Migrating
pub mod Listing
pub mod Made
pub mod Extending
