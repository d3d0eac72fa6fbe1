pub mod Flags
pub mod Sorts
pub mod Children
pub mod Told
