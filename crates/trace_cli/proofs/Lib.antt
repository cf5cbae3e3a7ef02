pub mod StatusFour
