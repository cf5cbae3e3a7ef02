pub mod Parcels
pub mod Faults
pub mod Written
