pub mod FirstLinks
