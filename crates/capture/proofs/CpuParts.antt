-- A CPU with one part more.
use Rattle.std.proofs.Common.{◌≡◌, ◌∙◌, ℕ, ◌+◌, ◌^◌, ◌≤◌, List, [], ◌∷◌, ◌++◌, length, map, sym, ap, subst, arith}
use Rattle.std.proofs.Common.{append-nil}
use Rattle.std.proofs.lemmas.List.{map-append}
use Rattle.trace_model.specs.Image.{Missed}
use Rattle.capture.specs.Pages.{Page, AreCut, told, Fit}
use Rattle.capture.specs.Captures.{IsCapture}
use Rattle.capture.specs.declared.pages.Capture.{Capture}
use Rattle.capture.specs.declared.part.Part.{Part}
use Rattle.capture.specs.declared.files.captured.CpuCapture.{CpuCapture}
use Rattle.capture.specs.files.Files.{ModelPart}
use Rattle.capture.specs.files.Captures.{measured, CountsPart, IsCpuRead, IsPartPast}
use Rattle.capture.proofs.Cuts.{cuts-append, bytes-append}

-- a part whose pages are these is read
pub cpu-more : (known : Missed) (cpu : ℕ) (parts : List ModelPart) (part : ModelPart) (own : List Page)
    (old : CpuCapture) {capture : Capture} (new : CpuCapture)
    (was : IsCpuRead known cpu parts old) → AreCut part.size part.bytes own
    → IsCapture capture (map (told known) was.pages ++ map (told known) own) → capture.cpu ≡ old.capture.cpu
    → CountsPart (record old { capture = capture }) new (measured part) → IsCpuRead known cpu (parts ++ part ∷ []) new
cpu-more known cpu parts part own old {capture = capture} new was cut is same counts = record {
  pages = was.pages ++ own;
  cut = cuts-append parts was.pages part own was.cut cut;
  cpu_is = ap (λ (c : Capture). c.cpu.0) counts.capture_is ∙ ap (λ c. c.0) same ∙ was.cpu_is;
  capture_is = subst (λ (c : Capture). IsCapture c (map (told known) (was.pages ++ own))) (sym counts.capture_is)
      (subst (IsCapture capture) (sym (map-append (told known) was.pages own)) is);
  counters_are = counts.counters_are ∙ was.counters_are;
  parts_are =
      counts.parts_are ∙ ap (λ (ps : List Part). ps ++ measured part ∷ []) was.parts_are
      ∙ sym (map-append measured parts (part ∷ []));
  bytes_are = counts.bytes_are ∙ ap (λ (n : ℕ). n + length part.bytes) was.bytes_are ∙ sym (bytes-append parts part);
  bytes_fit = omega (arith, bytes-append parts part, was.bytes_are, counts.fits);
}

-- the numbers of its pages don't fit
pub pages-past : (known : Missed) (cpu : ℕ) (parts : List ModelPart) (part : ModelPart) (old : CpuCapture)
    (was : IsCpuRead known cpu parts old)
    (front behind : List ℕ) (own : List Page) → part.bytes ≡ front ++ behind → AreCut part.size front own
    → (Fit (map (told known) was.pages ++ map (told known) own) → ⊥) → IsPartPast known parts part
pages-past known cpu parts part old was front behind own bytes cut past = record {
  front = front;
  behind = behind;
  bytes_are = bytes;
  pages = was.pages ++ own;
  cut = cuts-append parts was.pages (record part { bytes = front }) own was.cut cut;
  past = λ fit. past (subst Fit (map-append (told known) was.pages own) fit.pages_fit);
}

-- the number of its bytes doesn't fit
pub bytes-past : (known : Missed) (cpu : ℕ) (parts : List ModelPart) (part : ModelPart) (old : CpuCapture)
    (was : IsCpuRead known cpu parts old)
    (own : List Page) → AreCut part.size part.bytes own → 2 ^ 64 ≤ old.bytes + length part.bytes
    → IsPartPast known parts part
bytes-past known cpu parts part old was own cut past = record {
  front = part.bytes;
  behind = [];
  bytes_are = sym (append-nil part.bytes);
  pages = was.pages ++ own;
  cut = cuts-append parts was.pages part own was.cut cut;
  past = λ fit. let fits = fit.bytes_fit in omega (arith, bytes-append parts part, was.bytes_are, fits);
}
