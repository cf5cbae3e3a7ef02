-- the pages with their records, and where a reserved record is
pub mod PageChanges
pub mod OpenPageSteps
pub mod OtherPageSteps
pub mod ContentSteps
pub mod ClosedSteps
pub mod PackedSteps
pub mod PackedRuns
pub mod TakenHoldRecords
pub mod RecordCounts
pub mod Payloads
