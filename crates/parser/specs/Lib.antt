pub mod Blank
pub mod Outcome
pub mod Finish
pub mod Parse
pub mod Concluded
pub mod Demands
pub mod Promised
