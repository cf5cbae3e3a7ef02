pub mod Printed
pub mod OneOutput
pub mod Accounts
