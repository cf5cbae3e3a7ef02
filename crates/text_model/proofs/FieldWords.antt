-- Words of fields, and fields that name CPUs.
use Rattle.std.proofs.Common.{◌≡◌, ℕ, Bool, true, false, cond, List, codes, drop, Result, Ok, Err, refl, ap}
use Rattle.std.specs.Str.{bytes_eq}
use Rattle.std.proofs.lemmas.Bool.{both_ways, false_from_ne_true}
use Rattle.std.proofs.lemmas.Slice.Eq.{bytes_eq-Decides}
use Rattle.text_model.specs.ScriptLines.{LineFault, bad_line, number_below, names_cpu, cpu_in}

-- what is read, or what is wrong
abbrev Read : Type 0 → Type 0
Read X = Result X LineFault

abbrev Field : Type 0
Field = List ℕ

err_is_no_ok : {A : Type 0} (e : LineFault) (x : A) → (let r : Read A = Err e in r ≡ Ok x) → ⊥
err_is_no_ok e x h = absurd (cc)

pub same_word : (field word : Field) → bytes_eq field word ≡ true → field ≡ word
same_word field word h = (bytes_eq-Decides field word).0 h

cpu_is_no_delivery_at : (cpus cpu : ℕ) (field : Field) (names : Bool) → (field ≡ codes "d") → names_cpu field ≡ names
    → cond names (number_below cpus (drop 1 field)) (Err bad_line) ≡ Ok cpu → ⊥
cpu_is_no_delivery_at cpus cpu field true is names h = both_ways (names_cpu field) (ap names_cpu is) names
cpu_is_no_delivery_at cpus cpu field false is names h = err_is_no_ok bad_line cpu h

-- a field that names a CPU isn't the word of a delivery
pub cpu_is_no_delivery : (cpus cpu : ℕ) (field : Field) → cpu_in cpus field ≡ Ok cpu
    → bytes_eq field (codes "d") ≡ false
unfolding cpu_in
cpu_is_no_delivery cpus cpu field h =
    false_from_ne_true (bytes_eq field (codes "d"))
    (λ yes. cpu_is_no_delivery_at cpus cpu field (names_cpu field) (same_word field (codes "d") yes) refl h)
