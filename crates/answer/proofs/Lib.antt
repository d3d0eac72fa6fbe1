pub mod Ways
pub mod Bundles
pub mod Unique
