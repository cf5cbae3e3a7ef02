-- All CPUs, each at the place that is its number.
use Rattle.std.proofs.Common.{◌≡◌, ℕ, ◌+◌, ◌<◌, ◌≤◌, List, [], ◌∷◌, ◌++◌, length, get_or, replicate, map, ⊎_elim}
use Rattle.std.proofs.Common.{refl, sym, ap, ◌∙◌, arith}
use Rattle.std.proofs.Math.Seq.{get_or-append_seam}
use Rattle.std.proofs.Math.ListN.{get_or-append}
use Rattle.std.proofs.lemmas.Bool.{cases_lt}
use Rattle.std.proofs.lemmas.List.{get_or-map, map-append, length-append, replicate-append-replicate}
use Rattle.live_listing.specs.declared.pages.CpuPages.{CpuPages}
use Rattle.live_listing.specs.Pages.{Reached, reached, nothing_reached}
use Rattle.live_listing.specs.Live.{AreInOrder, reached_of}

-- the first CPUs, of which nothing is read
pub record AreNew (count : ℕ) (cpus : List CpuPages) : Type 0 where
  pub long : length cpus ≡ count
  pub order : AreInOrder cpus
  pub nothing : map reached cpus ≡ replicate count nothing_reached

pub none_new : AreNew 0 []
none_new = record { long = refl; order = λ k below. absurd (omega (arith, below)); nothing = refl }

pub one_new : (count : ℕ) (cpus : List CpuPages) (cpu : CpuPages) → AreNew count cpus → cpu.cpu.0 ≡ count
    → reached cpu ≡ nothing_reached → AreNew (count + 1) (cpus ++ cpu ∷ [])
one_new count cpus cpu are is nothing = record {
  long = length-append cpus (cpu ∷ []) ∙ ap (λ (n : ℕ). n + 1) are.long;
  order = λ k below d. ⊎_elim
      (λ (front : k < length cpus).
      ap (λ (c : CpuPages). c.cpu.0) (get_or-append cpus (cpu ∷ []) d k front) ∙ are.order k front d)
      (λ (last : length cpus ≤ k).
      let long = length-append cpus (cpu ∷ []) in
      let here : k ≡ length cpus = omega (arith, below, last, long) in
      ap (λ (n : ℕ). (get_or (cpus ++ cpu ∷ []) n d).cpu.0) here
      ∙ ap (λ (c : CpuPages). c.cpu.0) (get_or-append_seam cpus cpu [] d) ∙ is ∙ sym are.long ∙ sym here)
      (cases_lt k (length cpus));
  nothing = map-append reached cpus (cpu ∷ [])
      ∙ ap (λ (rs : List Reached). rs ++ reached cpu ∷ []) are.nothing
      ∙ ap (λ (r : Reached). replicate count nothing_reached ++ r ∷ []) nothing
      ∙ replicate-append-replicate count 1 nothing_reached;
}

-- how far the CPU is at a place, which is its number
pub reached_there : (cpus : List CpuPages) (k : ℕ) (cpu : CpuPages) → k < length cpus → cpu ≡ get_or cpus k cpu
    → reached cpu ≡ reached_of (map reached cpus) k
reached_there cpus k cpu below is =
    ap reached is ∙ sym (get_or-map reached cpus k cpu nothing_reached below)

pub number_there : (cpus : List CpuPages) (k : ℕ) (cpu : CpuPages) → k < length cpus → AreInOrder cpus
    → cpu ≡ get_or cpus k cpu → cpu.cpu.0 ≡ k
number_there cpus k cpu below order is = ap (λ (c : CpuPages). c.cpu.0) is ∙ order k below cpu
