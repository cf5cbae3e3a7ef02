-- histories and their committed records
pub mod HistoryPrefixes
pub mod Allowed
pub mod NextEvent
pub mod CommittedWritten
pub mod RecordsFill
pub mod NextRecords
pub mod Committed
pub mod OpenNumbers
