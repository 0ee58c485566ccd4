pub mod WrittenRecords
pub mod ListedActs
