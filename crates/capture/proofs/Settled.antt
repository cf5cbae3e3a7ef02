-- A CPU whose loss is settled.
use Rattle.std.proofs.Common.{◌≡◌, ◌≢◌, ◌∙◌, ℕ, ⊎_elim, ◌<◌, List, [], ◌∷◌, ◌++◌, map, set, get_or, ◌+◌, ◌≤◌, Option}
use Rattle.std.proofs.Common.{Some, refl, sym, ap, ap₂, subst, arith}
use Rattle.std.specs.List.{slice_get}
use Rattle.std.proofs.lemmas.Option.{get_or_from_slice_get}
use Rattle.std.proofs.lemmas.Bool.{cases_lt}
use Rattle.trace_model.specs.Image.{Missed, unknown}
use Rattle.capture.specs.Pages.{Page, told}
use Rattle.capture.specs.Captures.{IsCapture}
use Rattle.capture.proofs.OneReading.{one-reading}
use Rattle.capture.proofs.Told.{all-told-unknown}
use Rattle.trace_dat.specs.declared.kernel_texts.counters.Counters.{Counters}
use Rattle.capture.specs.declared.files.captured.CpuCapture.{CpuCapture}
use Rattle.capture.specs.files.Files.{ModelPart, parts_of_cpu}
use Rattle.capture.specs.files.Losses.{loss_of, overrun_by}
use Rattle.capture.specs.files.Captures.{CutsOf, IsCpuRead, IsCpuSettled, IsCpuCaptured}
use Rattle.capture.proofs.CpuLists.{get-set}

-- parts have one list of pages at most
pub one-cut : (parts : List ModelPart) (pages others : List Page) → CutsOf parts pages → CutsOf parts others
    → pages ≡ others
one-cut [] pages others is too = is ∙ sym too
one-cut (part ∷ parts) pages others (own, more, is, cut, rest) (own_too, more_too, is_too, cut_too, rest_too) =
    is
    ∙ ap₂ (λ (a b : List Page). a ++ b) (one-reading part.size part.bytes own own_too cut cut_too)
    (one-cut parts more more_too rest rest_too)
    ∙ sym is_too

-- what is read is settled, if this is what is known of a loss
pub captured-as : (known : Missed) (cpu : ℕ) (overrun : Option ℕ) (parts : List ModelPart) (found : CpuCapture)
    (read : IsCpuRead known cpu parts found)
    → known ≡ loss_of overrun read.pages → IsCpuSettled cpu overrun parts found
captured-as known cpu overrun parts found read is = record {
  pages = read.pages;
  cut = read.cut;
  cpu_is = read.cpu_is;
  capture_is = subst (λ (m : Missed). IsCapture found.capture (map (told m) read.pages)) is read.capture_is;
  parts_are = read.parts_are;
  bytes_are = read.bytes_are;
  bytes_fit = read.bytes_fit;
}

-- it was read before that nothing is known, and then again
pub captured-again : (known : Missed) (cpu : ℕ) (overrun : Option ℕ) (parts : List ModelPart) (old new : CpuCapture)
    (was : IsCpuRead unknown cpu parts old)
    → IsCpuRead known cpu parts new → known ≡ loss_of overrun was.pages → IsCpuSettled cpu overrun parts new
captured-again known cpu overrun parts old new was read is =
    captured-as known cpu overrun parts new read
    (is ∙ ap (loss_of overrun) (one-cut parts was.pages read.pages was.cut read.cut))

-- a CPU whose loss is settled, with its counters
pub captured-counted : (cpu : ℕ) (counted : Option Counters) (parts : List ModelPart) (found : CpuCapture)
    → IsCpuSettled cpu (overrun_by counted) parts found
    → IsCpuCaptured cpu counted parts (record found { counters = counted })
captured-counted cpu counted parts found is = record {
  pages = is.pages;
  cut = is.cut;
  cpu_is = is.cpu_is;
  capture_is = is.capture_is;
  counters_are = refl;
  parts_are = is.parts_are;
  bytes_are = is.bytes_are;
  bytes_fit = is.bytes_fit;
}

-- the pages of a capture of which nothing is known
pub plain-capture : (cpu : ℕ) (parts : List ModelPart) (found : CpuCapture) (read : IsCpuRead unknown cpu parts found)
    → IsCapture found.capture read.pages
plain-capture cpu parts found read = subst (IsCapture found.capture) (all-told-unknown read.pages) read.capture_is

-- the CPUs before one are settled, and the others are read
pub record AreSettledTo (counted : ℕ → Option Counters) (parts : List ModelPart) (at : ℕ) (cpus : List CpuCapture)
    : Type 0
  where
    pub done : (cpu : ℕ) (found : CpuCapture) → slice_get cpus cpu ≡ Some found → cpu < at
        → IsCpuCaptured cpu (counted cpu) (parts_of_cpu cpu parts) found
    pub left : (cpu : ℕ) (found : CpuCapture) → slice_get cpus cpu ≡ Some found → at ≤ cpu
        → IsCpuRead unknown cpu (parts_of_cpu cpu parts) found

pub settled-next : (counted : ℕ → Option Counters) (parts : List ModelPart) (at : ℕ) (cpus : List CpuCapture)
    (new : CpuCapture)
    → AreSettledTo counted parts at cpus → IsCpuCaptured at (counted at) (parts_of_cpu at parts) new
    → AreSettledTo counted parts (at + 1) (set cpus at new)
settled-next counted parts at cpus new was own = record {
  done = λ cpu found is below. ⊎_elim
      (λ here. subst (IsCpuCaptured cpu (counted cpu) (parts_of_cpu cpu parts)) here.1
      (subst (λ (n : ℕ). IsCpuCaptured n (counted n) (parts_of_cpu n parts) new) (sym here.0) own))
      (λ other. was.done cpu found other.1 (below_next cpu at below other.0))
      (get-set cpus at new cpu found is);
  left = λ cpu found is above. ⊎_elim
      (λ here. absurd (omega (arith, here.0, above)))
      (λ other. was.left cpu found other.1 (omega (arith, above)))
      (get-set cpus at new cpu found is);
}
  where
    below_next : (cpu n : ℕ) → cpu < n + 1 → cpu ≢ n → cpu < n
    below_next cpu n below other =
        ⊎_elim (λ less. less) (λ more. absurd (other (omega (arith, below, more)))) (cases_lt cpu n)

pub counted-at : (counted : List (Option Counters)) (cpu : ℕ) (d found : Option Counters)
    → slice_get counted cpu ≡ Some found → get_or counted cpu d ≡ found
counted-at counted cpu d found is = get_or_from_slice_get counted cpu found d is
