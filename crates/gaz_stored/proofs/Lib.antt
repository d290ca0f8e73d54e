mod Alone
mod Below
mod Cutting
pub mod Going
mod Beginning
pub mod Using
pub mod Calling
pub mod Meetings
mod Serving
pub mod ExtendsOpened
pub mod Moving
pub mod Reopening
mod Alike
pub mod Filled
