-- What the call answers of a region, from what it says of its bytes.
use Rattle.std.proofs.Common.{◌≡◌, ℕ, List, Result, Ok, Err, IfOk, IfErr, MatchResult, ⊎_elim, refl, arith}
use Rattle.ring_region.specs.declared.faults.RegionFault.{RegionFault}
use Rattle.ring_region.specs.declared.faults.RegionFault.TheVariants.{TooShort, NotARegion, BadVersion, BadPages}
use Rattle.ring_region.specs.declared.faults.RegionFault.TheVariants.{BadSize, BadCpu, BadEnd, NoMemory}
use Rattle.ring_region.specs.declared.regions.Region.{Region}
use Rattle.ring_region.specs.Headers.{IsWhole, IsRegionFault}
use Rattle.ring_region.specs.Regions.{Recovered, IsRegion}
use Rattle.ring_region.specs.Answers.{region_seen}
use Rattle.ring_region.proofs.OneRegion.{one_region}

-- a whole region has no fault, so that memory was refused for it
only_memory : (bytes : List ℕ) (fault : RegionFault) → IsWhole bytes → IsRegionFault bytes fault → fault ≡ NoMemory
only_memory bytes TooShort is bad =
    let there = is.there in
    let long = is.stated.cpu.size.pages.version.marked.long in
    absurd (⊎_elim (λ short. omega (arith, short, long)) (λ (stated, short). omega (arith, short, there)) bad)
only_memory bytes NotARegion is (long, differs) = absurd (differs is.stated.cpu.size.pages.version.marked.magic_is)
only_memory bytes BadVersion is (marked, differs) = absurd (differs is.stated.cpu.size.pages.version.version_is)
only_memory bytes BadPages is (version, wrong) =
    let pages = is.stated.cpu.size.pages in
    absurd (⊎_elim (λ less. omega (arith, less, pages.least)) (λ more. omega (arith, more, pages.most)) wrong)
only_memory bytes BadSize is (pages, wrong) =
    let size = is.stated.cpu.size in
    absurd (⊎_elim
    (λ less. omega (arith, less, size.least))
    (λ rest. ⊎_elim (λ more. omega (arith, more, size.most)) (λ broken. broken size.whole) rest)
    wrong)
only_memory bytes BadCpu is (size, past) = let known = is.stated.cpu.known in absurd (omega (arith, past, known))
only_memory bytes BadEnd is (cpu, past) = let fits = is.stated.one_or_none in absurd (omega (arith, past, fits))
only_memory bytes NoMemory is bad = refl

pub region_reported : (bytes : List ℕ) (result : Result Region RegionFault) (held : Recovered)
    → IfOk result (λ region. IsRegion bytes (region_seen region)) → IfErr result (λ fault. IsRegionFault bytes fault)
    → IsRegion bytes held → MatchResult result (λ region. region_seen region ≡ held) (λ fault. fault ≡ NoMemory)
region_reported bytes (Ok region) held is fault also = one_region bytes (region_seen region) held is also
region_reported bytes (Err refused) held is fault also = only_memory bytes refused also.whole fault
