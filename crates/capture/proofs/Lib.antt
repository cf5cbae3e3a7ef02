pub mod Appended
mod CapturedFiles
pub mod Cut
pub mod Told
mod Adding
pub mod SmallerPages
mod OnePage
mod ReadingOn
pub mod Numbers
mod Each
mod Rising
mod Disjoint
pub mod Together
mod Reports
pub mod OneReading
mod WrittenImages
mod Restored
mod Puts
mod Steps
pub mod StampedImages
pub mod Cuts
pub mod CpuParts
mod CpuLists
mod Answers
mod EachLoop
mod LossSums
mod TrueLosses
mod Overruns
mod Settled
mod FirstRead
mod NameLists
mod CutFiles
pub mod FilesMore
pub mod Prefixes
mod RestFaults
mod InputsRead
