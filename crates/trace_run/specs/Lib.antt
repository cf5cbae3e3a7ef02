pub mod writers
pub mod readers
pub mod ledgers
pub mod threaded
