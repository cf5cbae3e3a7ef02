-- records, their words, and pages as bytes
pub mod Record
pub mod Words
pub mod Reading
pub mod Faults
pub mod FirstFault
pub mod Order
pub mod Overwriting
pub mod Image
pub mod Laws
-- what the frames of a CPU did, and the fills that this makes
pub mod Sublist
pub mod History
pub mod Packing
pub mod OpenPages
pub mod HistoryLaws
-- a ring: its links, frames and counts, its state, and one step
pub mod Links
pub mod Frames
pub mod Fitting
pub mod Window
pub mod Ring
pub mod Events
pub mod WriterSteps
pub mod HeadMove
pub mod ReaderSteps
pub mod Steps
pub mod StepConditions
-- what was taken: the partition, parcels, collections and listings
pub mod Partition
pub mod Parcel
pub mod ParcelBytes
pub mod Collection
pub mod Listing
pub mod Runs
