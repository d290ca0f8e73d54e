pub mod Ranges
pub mod Indexes
pub mod KeyHistories
pub mod KeyHistoriesCode
pub mod Ties
pub mod Changing
pub mod Examples
