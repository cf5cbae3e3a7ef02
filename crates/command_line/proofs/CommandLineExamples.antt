-- What the program's command line is on words that are written out.
use Rattle.std.proofs.Common.{◌≡◌, ◌⊎◌, inl, inr, List, ◌∷◌, [], Result, Ok, Err, Some, ℕ, true, false, codes, refl}
use Rattle.std.proofs.Common.{sym, ◌∙◌}
use Rattle.clap.proofs.OnLiterals.{clap_on_literals}
use Rattle.command_line.specs.CommandLine.{IsParseOf, IsAccepted, log_text, names_command}
use Rattle.command_line.specs.declared.call.Call.{Call}
use Rattle.command_line.specs.declared.call.Call.TheVariants.{Replay, Run, Steps, Dump, Collect, Recover, Version, Help}
use Rattle.command_line.specs.declared.call.CallFault.{CallFault}
use Rattle.command_line.specs.declared.call.CallFault.TheVariants.{Usage, NoMemory}

replay_accepted : (first : List ℕ) → IsAccepted (first ∷ codes "replay" ∷ [])
unfolding clap_on_literals
replay_accepted first = refl

replay_named : (first : List ℕ) → names_command (first ∷ codes "replay" ∷ []) ≡ Some (codes "replay")
unfolding clap_on_literals names_command
replay_named first = refl

replay_unlogged : (first : List ℕ) → log_text (first ∷ codes "replay" ∷ []) ≡ Some (codes "false")
unfolding clap_on_literals log_text
replay_unlogged first = refl

replay_log_accepted : (first : List ℕ) → IsAccepted (first ∷ codes "replay" ∷ codes "--log" ∷ [])
unfolding clap_on_literals
replay_log_accepted first = refl

replay_log_named : (first : List ℕ)
    → names_command (first ∷ codes "replay" ∷ codes "--log" ∷ []) ≡ Some (codes "replay")
unfolding clap_on_literals names_command
replay_log_named first = refl

replay_logged : (first : List ℕ) → log_text (first ∷ codes "replay" ∷ codes "--log" ∷ []) ≡ Some (codes "true")
unfolding clap_on_literals log_text
replay_logged first = refl

run_accepted : (first : List ℕ) → IsAccepted (first ∷ codes "run" ∷ [])
unfolding clap_on_literals
run_accepted first = refl

run_named : (first : List ℕ) → names_command (first ∷ codes "run" ∷ []) ≡ Some (codes "run")
unfolding clap_on_literals names_command
run_named first = refl

run_log_refused : (first : List ℕ) → IsAccepted (first ∷ codes "run" ∷ codes "--log" ∷ []) → ⊥
unfolding clap_on_literals
run_log_refused first accepted = cc

steps_accepted : (first : List ℕ) → IsAccepted (first ∷ codes "steps" ∷ [])
unfolding clap_on_literals
steps_accepted first = refl

steps_named : (first : List ℕ) → names_command (first ∷ codes "steps" ∷ []) ≡ Some (codes "steps")
unfolding clap_on_literals names_command
steps_named first = refl

dump_accepted : (first : List ℕ) → IsAccepted (first ∷ codes "dump" ∷ [])
unfolding clap_on_literals
dump_accepted first = refl

dump_named : (first : List ℕ) → names_command (first ∷ codes "dump" ∷ []) ≡ Some (codes "dump")
unfolding clap_on_literals names_command
dump_named first = refl

dump_log_refused : (first : List ℕ) → IsAccepted (first ∷ codes "dump" ∷ codes "--log" ∷ []) → ⊥
unfolding clap_on_literals
dump_log_refused first accepted = cc

pub call_of_replay : (first : List ℕ) (result : Result Call CallFault) → IsParseOf (first ∷ codes "replay" ∷ []) result
    → (result ≡ Ok (Replay false)) ⊎ (result ≡ Err NoMemory)
call_of_replay first (Ok (Replay false)) a = inl refl
call_of_replay first (Ok (Replay true)) a = absurd (a.no_log (replay_unlogged first) refl)
call_of_replay first (Ok Run) a = absurd (let wrong = sym (replay_named first) ∙ a.named Run refl in cc)
call_of_replay first (Ok Dump) a = absurd (let wrong = sym (replay_named first) ∙ a.named Dump refl in cc)
call_of_replay first (Ok Steps) a = absurd (let wrong = sym (replay_named first) ∙ a.named Steps refl in cc)
call_of_replay first (Ok (Collect call)) a =
    absurd (let wrong = sym (replay_named first) ∙ a.named (Collect call) refl in cc)
call_of_replay first (Ok (Recover call)) a =
    absurd (let wrong = sym (replay_named first) ∙ a.named (Recover call) refl in cc)
call_of_replay first (Ok Version) a = absurd (a.no_version refl)
call_of_replay first (Ok Help) a = absurd (a.no_help refl)
call_of_replay first (Err Usage) a = absurd (a.no_replay refl (replay_accepted first) (replay_named first))
call_of_replay first (Err NoMemory) a = inr refl

pub call_of_replay_log : (first : List ℕ) (result : Result Call CallFault)
    → IsParseOf (first ∷ codes "replay" ∷ codes "--log" ∷ []) result
    → (result ≡ Ok (Replay true)) ⊎ (result ≡ Err NoMemory)
call_of_replay_log first (Ok (Replay true)) a = inl refl
call_of_replay_log first (Ok (Replay false)) a = absurd (a.log (replay_logged first) refl)
call_of_replay_log first (Ok Run) a = absurd (let wrong = sym (replay_log_named first) ∙ a.named Run refl in cc)
call_of_replay_log first (Ok Dump) a = absurd (let wrong = sym (replay_log_named first) ∙ a.named Dump refl in cc)
call_of_replay_log first (Ok Steps) a = absurd (let wrong = sym (replay_log_named first) ∙ a.named Steps refl in cc)
call_of_replay_log first (Ok (Collect call)) a =
    absurd (let wrong = sym (replay_log_named first) ∙ a.named (Collect call) refl in cc)
call_of_replay_log first (Ok (Recover call)) a =
    absurd (let wrong = sym (replay_log_named first) ∙ a.named (Recover call) refl in cc)
call_of_replay_log first (Ok Version) a = absurd (a.no_version refl)
call_of_replay_log first (Ok Help) a = absurd (a.no_help refl)
call_of_replay_log first (Err Usage) a = absurd (a.no_replay refl (replay_log_accepted first) (replay_log_named first))
call_of_replay_log first (Err NoMemory) a = inr refl

pub call_of_run : (first : List ℕ) (result : Result Call CallFault) → IsParseOf (first ∷ codes "run" ∷ []) result
    → (result ≡ Ok Run) ⊎ (result ≡ Err NoMemory)
call_of_run first (Ok Run) a = inl refl
call_of_run first (Ok (Replay log)) a = absurd (let wrong = sym (run_named first) ∙ a.named (Replay log) refl in cc)
call_of_run first (Ok Dump) a = absurd (let wrong = sym (run_named first) ∙ a.named Dump refl in cc)
call_of_run first (Ok Steps) a = absurd (let wrong = sym (run_named first) ∙ a.named Steps refl in cc)
call_of_run first (Ok (Collect call)) a = absurd (let wrong = sym (run_named first) ∙ a.named (Collect call) refl in cc)
call_of_run first (Ok (Recover call)) a = absurd (let wrong = sym (run_named first) ∙ a.named (Recover call) refl in cc)
call_of_run first (Ok Version) a = absurd (a.no_version refl)
call_of_run first (Ok Help) a = absurd (a.no_help refl)
call_of_run first (Err Usage) a = absurd (a.no_run refl (run_accepted first) (run_named first))
call_of_run first (Err NoMemory) a = inr refl

pub call_of_run_log : (first : List ℕ) (result : Result Call CallFault)
    → IsParseOf (first ∷ codes "run" ∷ codes "--log" ∷ []) result → (result ≡ Err Usage) ⊎ (result ≡ Err NoMemory)
call_of_run_log first (Ok call) a = absurd (run_log_refused first (a.accepted call refl))
call_of_run_log first (Err Usage) a = inl refl
call_of_run_log first (Err NoMemory) a = inr refl

pub call_of_steps : (first : List ℕ) (result : Result Call CallFault) → IsParseOf (first ∷ codes "steps" ∷ []) result
    → (result ≡ Ok Steps) ⊎ (result ≡ Err NoMemory)
call_of_steps first (Ok Steps) a = inl refl
call_of_steps first (Ok Run) a = absurd (let wrong = sym (steps_named first) ∙ a.named Run refl in cc)
call_of_steps first (Ok (Replay log)) a = absurd (let wrong = sym (steps_named first) ∙ a.named (Replay log) refl in cc)
call_of_steps first (Ok Dump) a = absurd (let wrong = sym (steps_named first) ∙ a.named Dump refl in cc)
call_of_steps first (Ok (Collect call)) a =
    absurd (let wrong = sym (steps_named first) ∙ a.named (Collect call) refl in cc)
call_of_steps first (Ok (Recover call)) a =
    absurd (let wrong = sym (steps_named first) ∙ a.named (Recover call) refl in cc)
call_of_steps first (Ok Version) a = absurd (a.no_version refl)
call_of_steps first (Ok Help) a = absurd (a.no_help refl)
call_of_steps first (Err Usage) a = absurd (a.no_steps refl (steps_accepted first) (steps_named first))
call_of_steps first (Err NoMemory) a = inr refl

pub call_of_dump : (first : List ℕ) (result : Result Call CallFault) → IsParseOf (first ∷ codes "dump" ∷ []) result
    → (result ≡ Ok Dump) ⊎ (result ≡ Err NoMemory)
call_of_dump first (Ok Dump) a = inl refl
call_of_dump first (Ok Run) a = absurd (let wrong = sym (dump_named first) ∙ a.named Run refl in cc)
call_of_dump first (Ok Steps) a = absurd (let wrong = sym (dump_named first) ∙ a.named Steps refl in cc)
call_of_dump first (Ok (Replay log)) a = absurd (let wrong = sym (dump_named first) ∙ a.named (Replay log) refl in cc)
call_of_dump first (Ok (Collect call)) a =
    absurd (let wrong = sym (dump_named first) ∙ a.named (Collect call) refl in cc)
call_of_dump first (Ok (Recover call)) a =
    absurd (let wrong = sym (dump_named first) ∙ a.named (Recover call) refl in cc)
call_of_dump first (Ok Version) a = absurd (a.no_version refl)
call_of_dump first (Ok Help) a = absurd (a.no_help refl)
call_of_dump first (Err Usage) a = absurd (a.no_dump refl (dump_accepted first) (dump_named first))
call_of_dump first (Err NoMemory) a = inr refl

pub call_of_dump_log : (first : List ℕ) (result : Result Call CallFault)
    → IsParseOf (first ∷ codes "dump" ∷ codes "--log" ∷ []) result → (result ≡ Err Usage) ⊎ (result ≡ Err NoMemory)
call_of_dump_log first (Ok call) a = absurd (dump_log_refused first (a.accepted call refl))
call_of_dump_log first (Err Usage) a = inl refl
call_of_dump_log first (Err NoMemory) a = inr refl

version_and_more_refused : (first : List ℕ) → IsAccepted (first ∷ codes "--version" ∷ codes "replay" ∷ []) → ⊥
unfolding clap_on_literals
version_and_more_refused first accepted = cc

replay_version_refused : (first : List ℕ) → IsAccepted (first ∷ codes "replay" ∷ codes "--version" ∷ []) → ⊥
unfolding clap_on_literals
replay_version_refused first accepted = cc

pub call_of_version_and_more : (first : List ℕ) (result : Result Call CallFault)
    → IsParseOf (first ∷ codes "--version" ∷ codes "replay" ∷ []) result
    → (result ≡ Err Usage) ⊎ (result ≡ Err NoMemory)
call_of_version_and_more first (Ok call) a = absurd (version_and_more_refused first (a.accepted call refl))
call_of_version_and_more first (Err Usage) a = inl refl
call_of_version_and_more first (Err NoMemory) a = inr refl

pub call_of_replay_version : (first : List ℕ) (result : Result Call CallFault)
    → IsParseOf (first ∷ codes "replay" ∷ codes "--version" ∷ []) result
    → (result ≡ Err Usage) ⊎ (result ≡ Err NoMemory)
call_of_replay_version first (Ok call) a = absurd (replay_version_refused first (a.accepted call refl))
call_of_replay_version first (Err Usage) a = inl refl
call_of_replay_version first (Err NoMemory) a = inr refl
