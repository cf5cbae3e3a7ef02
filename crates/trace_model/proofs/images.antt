-- page images and parcels as bytes
pub mod ImageParts
pub mod Images
pub mod ParcelParts
pub mod Parcels
