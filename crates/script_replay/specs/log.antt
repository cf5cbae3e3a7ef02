pub mod LogTypes
