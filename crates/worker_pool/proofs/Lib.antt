pub mod ColumnLemmas
pub mod CountLemmas
pub mod DoorLemmas
pub mod JobLemmas
pub mod PoolLemmas
