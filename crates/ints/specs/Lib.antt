pub mod Spelling
pub mod Answer
pub mod Meaning
pub mod Reading
