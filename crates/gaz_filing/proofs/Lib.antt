mod Filing
pub mod Joining
