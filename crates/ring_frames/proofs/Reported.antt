-- What the ring answers, from what the model does.
use Rattle.std.proofs.Common.{◌≡◌, ◌≢◌, ℕ, refl, sym, subst}
use Rattle.trace_model.specs.declared.numbers.RecordNo.{RecordNo}
use Rattle.trace_model.specs.Frames as frames_model
use Rattle.trace_model.specs.Steps as model
use Rattle.nested_writer.specs.declared.fault.WriteFault.{WriteFault}
use Rattle.nested_writer.specs.declared.stack.leave.Ended.TheVariants.{Pending, Full}
use Rattle.ring_frames.specs.declared.answer.Answer.{Answer}
use Rattle.ring_frames.specs.declared.answer.Answer.TheVariants.{Pushed, Going, Reserved, Ended, Gone, Refused, Looking}
use Rattle.ring_frames.specs.declared.answer.Answer.TheVariants.{Empty, Moving, Taken, Wished}
use Rattle.ring_frames.specs.Answers.{IsAnswerOf}

-- it refuses
abbrev pub IsRefusal : Answer → Type 0
IsRefusal result = (fault : WriteFault) × (result ≡ Refused fault)

-- it states the record's number
abbrev pub ReportsNumber : Answer → ℕ → Type 0
ReportsNumber result number = (reported : RecordNo) × (result ≡ Reserved reported) × (reported.0 ≡ number)

-- What the writer's answer is, if the model's is this one.
abbrev pub Means : model.Answer → Answer → Type 0
Means model.pushed result = result ≡ Pushed
Means model.going result = result ≡ Going
Means (model.reserved_as number) result = ReportsNumber result number
Means model.pending result = result ≡ Ended Pending
Means model.full result = result ≡ Ended Full
Means model.gone result = result ≡ Gone
Means (model.refused why) result = IsRefusal result
Means reported result = Unit {0}

means : (size : ℕ) (result : Answer) (reported : model.Answer) → IsAnswerOf size result reported → Means reported result
means size Pushed reported t = subst (λ (a : model.Answer). Means a Pushed) (sym t) refl
means size Going reported t = subst (λ (a : model.Answer). Means a Going) (sym t) refl
means size (Reserved number) reported t =
    subst (λ (a : model.Answer). Means a (Reserved number)) (sym t) (number, refl, refl)
means size (Ended Pending) reported t = subst (λ (a : model.Answer). Means a (Ended Pending)) (sym t) refl
means size (Ended Full) reported t = subst (λ (a : model.Answer). Means a (Ended Full)) (sym t) refl
means size Gone reported t = subst (λ (a : model.Answer). Means a Gone) (sym t) refl
means size (Refused fault) reported t = subst (λ (a : model.Answer). Means a (Refused fault)) (sym t) (fault, refl)
means size (Looking body) reported t = subst (λ (a : model.Answer). Means a (Looking body)) (sym t) tt
means size (Empty done body) reported t = subst (λ (a : model.Answer). Means a (Empty done body)) (sym t) tt
means size (Moving fill body) reported t = subst (λ (a : model.Answer). Means a (Moving fill body)) (sym t) tt
means size (Taken page missed) reported t = subst (λ (a : model.Answer). Means a (Taken page missed)) (sym t.1) tt
means size (Wished fill) reported t = subst (λ (a : model.Answer). Means a (Wished fill)) (sym t) tt

-- what an answer means, if it is known
meant : (size : ℕ) (result : Answer) (reported is : model.Answer) → IsAnswerOf size result reported → reported ≡ is
    → Means is result
meant size result reported is t e = subst (λ (a : model.Answer). Means a result) e (means size result reported t)

pub is_pushed : (size : ℕ) (result : Answer) (reported : model.Answer) → IsAnswerOf size result reported
    → reported ≡ model.pushed → result ≡ Pushed
is_pushed size result reported t e = meant size result reported model.pushed t e

pub is_going : (size : ℕ) (result : Answer) (reported : model.Answer) → IsAnswerOf size result reported
    → reported ≡ model.going → result ≡ Going
is_going size result reported t e = meant size result reported model.going t e

pub is_number : (size : ℕ) (result : Answer) (reported : model.Answer) (number : ℕ) → IsAnswerOf size result reported
    → reported ≡ model.reserved_as number → ReportsNumber result number
is_number size result reported number t e = meant size result reported (model.reserved_as number) t e

pub is_pending : (size : ℕ) (result : Answer) (reported : model.Answer) → IsAnswerOf size result reported
    → reported ≡ model.pending → result ≡ Ended Pending
is_pending size result reported t e = meant size result reported model.pending t e

pub is_full : (size : ℕ) (result : Answer) (reported : model.Answer) → IsAnswerOf size result reported
    → reported ≡ model.full → result ≡ Ended Full
is_full size result reported t e = meant size result reported model.full t e

pub is_gone_reported : (size : ℕ) (result : Answer) (reported : model.Answer) → IsAnswerOf size result reported
    → reported ≡ model.gone → result ≡ Gone
is_gone_reported size result reported t e = meant size result reported model.gone t e

pub is_refusal : (size : ℕ) (result : Answer) (reported : model.Answer) (why : frames_model.WriteFault)
    → IsAnswerOf size result reported → reported ≡ model.refused why → IsRefusal result
is_refusal size result reported why t e = meant size result reported (model.refused why) t e

-- the model answers `pushed` only if the ring does
pub reported_pushed : (size : ℕ) (result : Answer) (reported : model.Answer) → IsAnswerOf size result reported
    → reported ≡ model.pushed → result ≢ Pushed → ⊥
reported_pushed size result reported t e not = not (is_pushed size result reported t e)
