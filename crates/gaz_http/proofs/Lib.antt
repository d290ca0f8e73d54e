pub mod Bytes
pub mod HeadFacts
pub mod HeaderFacts
pub mod SparingFacts
pub mod StreamFacts
