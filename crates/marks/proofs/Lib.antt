pub mod Sums
pub mod Marked
pub mod Lengths
pub mod Examples
