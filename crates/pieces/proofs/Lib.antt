pub mod Filled
pub mod Digits
pub mod Unique
pub mod RuledOut
