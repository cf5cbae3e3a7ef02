pub mod SameCpus
pub mod Each
