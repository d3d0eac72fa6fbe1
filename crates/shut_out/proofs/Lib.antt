pub mod Sheets
pub mod Premises
pub mod Wrong
pub mod Depth
