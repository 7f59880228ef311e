pub mod Levels
pub mod Prefixes
pub mod Targets
pub mod TransactionNames
