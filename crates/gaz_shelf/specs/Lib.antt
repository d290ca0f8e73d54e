pub mod Highest
pub mod Accounts
pub mod Mem
pub mod Examples
pub mod Restoring
