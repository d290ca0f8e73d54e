pub mod Bare
pub mod Gathering
pub mod InStep
pub mod Mirroring
pub mod Mirrored
pub mod Examples
