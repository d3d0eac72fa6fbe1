pub mod Logic
pub mod Every
pub mod Rest
pub mod Parts
pub mod Theorems
pub mod Unique
pub mod RuledOut
