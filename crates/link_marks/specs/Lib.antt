pub mod ModelLinks
pub mod FirstLinks
