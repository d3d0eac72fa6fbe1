pub mod Utf8
pub mod Little
pub mod Grammar
pub mod Check
pub mod Sound
