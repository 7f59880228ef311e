pub mod Changes
pub mod Laws
pub mod Requests
pub mod Spellable
pub mod Tests
