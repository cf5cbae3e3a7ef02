-- Threads and ledgers of CPUs in a row, one more after the others.
use Rattle.std.specs.Prelude.{Result, Ok, Err, Bool, Vec, vec_len, IfOk, IfErr}
use Rattle.std.specs.declared.alloc.Global.{Global}
use Rattle.std.proofs.Common.{◌≡◌, ℕ, suc, ◌+◌, List, [], ◌∷◌, ◌++◌, length, subst, sym, inl, inr, arith}
use Rattle.text_model.specs.Script.{Script}
use Rattle.trace_script.specs.declared.replay_fault.ReplayFault.{ReplayFault}
use Rattle.trace_script.specs.declared.replay_fault.ReplayFault.TheVariants.{NoMemory}
use Rattle.trace_run.specs.declared.ledgers.ledger.Ledger.{Ledger}
use Rattle.trace_run.specs.declared.writers.gate.Who.{Who}
use Rattle.trace_run.specs.threaded.Asked.{IsPassedLedger}
use Rattle.trace_run.specs.threaded.Threads.{RunningValue, IsRunningAt, AreRunning, AreRunLedgers}
use Rattle.trace_run.specs.threaded.Joining.{IsOneMore, IsFirstFault}

running_more : {Gate : Type 0} (script : Script) (gate : Gate) (cpu at : ℕ) (rs : List (RunningValue Gate))
    (r : RunningValue Gate)
    → AreRunning script gate cpu rs
    → at ≡ cpu + length rs
    → IsRunningAt script gate at r
    → AreRunning script gate cpu (rs ++ r ∷ [])
running_more script gate cpu at [] r are e is =
    (subst (λ (k : ℕ). IsRunningAt script gate k r) (omega arith) is, tt)
running_more script gate cpu at (first ∷ rs) r are e is =
    (are.0, running_more script gate (suc cpu) at rs r are.1 (omega arith) is)

ledgers_more : {Gate : Type 0} (answers : Gate → Who → (cpu fill : ℕ) → Bool → Type 0) (gate : Gate) (script : Script)
    (cpu at : ℕ) (ls : List Ledger) (l : Ledger)
    → AreRunLedgers answers gate script cpu ls
    → at ≡ cpu + length ls
    → IsPassedLedger answers gate script at l
    → AreRunLedgers answers gate script cpu (ls ++ l ∷ [])
ledgers_more answers gate script cpu at [] l are e is =
    (subst (λ (k : ℕ). IsPassedLedger answers gate script k l) (omega arith) is, tt)
ledgers_more answers gate script cpu at (first ∷ ls) l are e is =
    (are.0, ledgers_more answers gate script (suc cpu) at ls l are.1 (omega arith) is)

-- one more thread is started
pub running_pushed : {Gate : Type 0} (script : Script) (gate : Gate) (at : ℕ) (rs new : List (RunningValue Gate))
    (r : RunningValue Gate)
    → AreRunning script gate 0 rs
    → at ≡ length rs
    → IsRunningAt script gate at r
    → new ≡ rs ++ r ∷ []
    → AreRunning script gate 0 new
running_pushed {Gate} script gate at rs new r are e is more =
    subst (λ (xs : List (RunningValue Gate)). AreRunning script gate 0 xs) (sym more)
    (running_more script gate 0 at rs r are (omega arith) is)

-- the first ones are those of the first CPU, and the others those of the next ones
pub running_next : {Gate : Type 0} (script : Script) (gate : Gate) (at next : ℕ) (xs rest : List (RunningValue Gate))
    (r : RunningValue Gate)
    → AreRunning script gate at xs
    → xs ≡ r ∷ rest
    → next ≡ at + 1
    → IsRunningAt script gate at r × AreRunning script gate next rest
running_next {Gate} script gate at next xs rest r are e n =
    let here : AreRunning script gate at (r ∷ rest) =
    subst (λ (l : List (RunningValue Gate)). AreRunning script gate at l) e are in
    (here.0, subst (λ (k : ℕ). AreRunning script gate k rest) (omega arith) here.1)

-- and one more ledger is joined
pub ledger_pushed : {Gate : Type 0} (answers : Gate → Who → (cpu fill : ℕ) → Bool → Type 0) (script : Script)
    (gate : Gate) (at : ℕ) (r : RunningValue Gate) (ls new : List Ledger) (l : Ledger)
    → IsRunningAt script gate at r
    → IsPassedLedger answers gate r.script r.cpu l
    → AreRunLedgers answers gate script 0 ls
    → at ≡ length ls
    → new ≡ ls ++ l ∷ []
    → AreRunLedgers answers gate script 0 new
ledger_pushed answers script gate at r ls new l (cpu_is, script_is, gate_is) is are e more =
    let here : IsPassedLedger answers gate script at l =
    subst (λ (s : Script). IsPassedLedger answers gate s at l) script_is
    (subst (λ (k : ℕ). IsPassedLedger answers gate r.script k l) cpu_is is) in
    subst (λ (xs : List Ledger). AreRunLedgers answers gate script 0 xs) (sym more)
    (ledgers_more answers gate script 0 at ls l are (omega arith) here)

-- ---- results

-- What holds of all that was joined, and what of each fault, is kept by one more.
pub joined_on : {X : Type 0} (Before After : Vec X Global → Type 0) (Next : X → Type 0) (Bad : ReplayFault → Type 0)
    (before : Result (Vec X Global) ReplayFault) (next : Result X ReplayFault)
    (after : Result (Vec X Global) ReplayFault)
    → IfOk after (IsOneMore before next)
    → IfErr after (IsFirstFault before next)
    → IfOk before Before
    → IfErr before Bad
    → IfOk next Next
    → IfErr next Bad
    → Bad NoMemory
    → ((all : Vec X Global) (one : X) (more : Vec X Global)
    → Before all
    → Next one
    → more.items ≡ all.items ++ one ∷ []
    → vec_len more ≡ vec_len all + 1
    → After more)
    → IfOk after After × IfErr after Bad
joined_on {X} Before After Next Bad before next (Ok more) is first b bad_b n bad_n memory goes = (
  goes is.all is.one more
      (subst (λ (r : Result (Vec X Global) ReplayFault). IfOk r Before) is.joined_is b)
      (subst (λ (r : Result X ReplayFault). IfOk r Next) is.next_is n)
      is.items is.len,
  tt,
)
joined_on {X} Before After Next Bad before next (Err fault) is first b bad_b n bad_n memory goes = (tt, bad first)
  where
    bad : IsFirstFault before next fault → Bad fault
    bad (inl e) = subst (λ (r : Result (Vec X Global) ReplayFault). IfErr r Bad) e bad_b
    bad (inr (inl e)) = subst (λ (r : Result X ReplayFault). IfErr r Bad) e bad_n
    bad (inr (inr e)) = subst Bad (sym e) memory
