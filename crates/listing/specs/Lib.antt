pub mod Page
pub mod Decimal
pub mod Names
pub mod Lines
pub mod Listing
pub mod Answers
pub mod Bundle
