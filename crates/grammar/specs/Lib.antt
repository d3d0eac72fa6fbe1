pub mod Places
pub mod Symbols
pub mod Derives
pub mod Builders
pub mod Shape
pub mod Follows
pub mod Words
