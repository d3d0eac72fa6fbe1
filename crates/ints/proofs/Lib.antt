-- What the proofs of several functions use, and what is proved of the definitions.
mod Paths
mod Run
pub mod Examples
pub mod Meaning
pub mod Unique
