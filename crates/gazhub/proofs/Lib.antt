pub mod Playing
pub mod Sites
mod Serving
mod Sessions
