-- The words of the contracts of `regions`.

-- what a region is, and what it holds
pub use Rattle.ring_region.specs.Headers.{IsRegionFault, fault_at}
pub use Rattle.ring_region.specs.Regions.{IsClean, IsRegion, Recovered, count_in}
pub use Rattle.ring_region.specs.Answers.{pieces_of, region_seen}
