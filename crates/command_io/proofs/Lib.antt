pub mod Counted
mod Filled
