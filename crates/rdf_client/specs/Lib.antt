pub mod Causes
pub mod Exchanges
pub mod Laws
pub mod Runs
pub mod Served
pub mod Turning
