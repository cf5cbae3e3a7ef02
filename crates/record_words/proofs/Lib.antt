mod Headers
mod WordReads
mod Padded
mod Copies
