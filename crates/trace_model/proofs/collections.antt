-- windows, collections and listings
pub mod Joined
pub mod Windows
pub mod Elements
pub mod FirstNumbers
pub mod Genuine
pub mod Collections
pub mod Listings
pub mod ListingsMade
