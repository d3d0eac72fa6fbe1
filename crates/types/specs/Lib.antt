pub mod Lits
pub mod ItemRules
pub mod Items
pub mod Types
pub mod Patterns
