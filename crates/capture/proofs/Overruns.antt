-- Counters of CPUs, text by text from the last one.
use Rattle.std.proofs.Common.{◌≡◌, ◌∙◌, ℕ, zero, suc, ◌+◌, ◌<◌, List, length, map, drop, get_or, sym, ap, arith}
use Rattle.std.proofs.Common.{replicate, refl, Some, None}
use Rattle.std.specs.List.{slice_get}
use Rattle.std.proofs.lemmas.List.{drop_more, drop_all}
use Rattle.trace_dat.specs.kernel_texts.Counters.{counters_in}
use Rattle.capture.specs.files.Losses.{cpu_counters_at, cpu_counters_of}

pub get-replicate : {A : Type 0} (x : A) (n k : ℕ) → k < n → slice_get (replicate n x) k ≡ Some x
get-replicate x zero k below = absurd (omega arith)
get-replicate x (suc n) zero below = refl
get-replicate x (suc n) (suc k) below = get-replicate x n k (omega arith)

pub none-left : {X : Type 0} (see : X → List ℕ) (cpu : ℕ) (texts : List X)
    → cpu_counters_of cpu (map see (drop (length texts) texts)) ≡ None
none-left see cpu texts = ap (λ ts. cpu_counters_of cpu (map see ts)) (drop_all (length texts) texts (omega arith))

pub one-before : {X : Type 0} (see : X → List ℕ) (cpu : ℕ) (texts : List X) (at next : ℕ) (d : X) → next ≡ at + 1
    → at < length texts
    → cpu_counters_at cpu (counters_in (see (get_or texts at d))) (cpu_counters_of cpu (map see (drop next texts)))
    ≡ cpu_counters_of cpu (map see (drop at texts))
one-before see cpu texts at next d is below =
    ap (λ (n : ℕ).
    cpu_counters_at cpu (counters_in (see (get_or texts at d))) (cpu_counters_of cpu (map see (drop n texts)))) is
    ∙ sym (ap (λ ts. cpu_counters_of cpu (map see ts)) (drop_more texts at d below))
