pub mod Forms
pub mod Suffixes
pub mod Unique
