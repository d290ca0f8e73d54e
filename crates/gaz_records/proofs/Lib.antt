pub mod LeftOut
pub mod FieldsBack
pub mod ItemsBack
pub mod ReadItems
pub mod KeyOrder
pub mod SortOrder
pub mod Texts
