pub mod Behind
mod Hexadecimal
pub mod Chains
mod Digits
mod Written
