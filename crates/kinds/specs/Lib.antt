pub mod Text
pub mod Number
pub mod Spelling
pub mod Kinds
pub mod Operators
pub mod Listing
pub mod Row
pub mod TypeWords
