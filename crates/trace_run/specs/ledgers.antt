-- What contracts cite. An audit ensures `IsLeastFault`; its clause `headline` is proved in `proofs/Sums.antt`.
pub mod Audit
pub mod Order
pub mod Least
pub mod Headline
