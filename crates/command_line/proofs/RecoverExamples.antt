-- What the program's command line is on words that call for `recover` and are written out.
use Rattle.std.proofs.Common.{◌≡◌, ◌⊎◌, inl, inr, List, ◌∷◌, [], Result, Ok, Err, Some, None, Option, ℕ, Bool, true}
use Rattle.std.proofs.Common.{false, codes, refl, sym, ap, ◌∙◌}
use Rattle.clap.specs.Words.{Row, Text}
use Rattle.clap.proofs.OnLiterals.{clap_on_literals}
use Rattle.command_line.proofs.Names.{recover_is_not_collect}
use Rattle.command_line.specs.Calls.{Recovering, AsksToRecover, IsAskedToRecover, recovering_of, regions_matched}
use Rattle.command_line.specs.CommandLine.{IsParseOf, IsAccepted, names_command, rows_named}
use Rattle.command_line.specs.declared.call.Call.{Call}
use Rattle.command_line.specs.declared.call.Call.TheVariants.{Replay, Run, Steps, Dump, Collect, Recover, Version, Help}
use Rattle.command_line.specs.declared.call.CallFault.{CallFault}
use Rattle.command_line.specs.declared.call.CallFault.TheVariants.{Usage, NoMemory}

same_recovering : (a b : Recovering) → a.json ≡ b.json → a.keep ≡ b.keep → a.files ≡ b.files → a ≡ b
same_recovering a b json keep files =
    let make : Bool → Option Text → List Text → Recovering = λ j k fs. record { json = j; keep = k; files = fs } in
    ap (λ j. make j a.keep a.files) json ∙ ap (λ k. make b.json k a.files) keep ∙ ap (λ fs. make b.json b.keep fs) files

-- what the matches say, and so all that they ask for
record Says (rows : List Row) (asked : Recovering) : Type 0 where
  files : regions_matched rows ≡ Some asked.files
  json : (asks : Recovering) → AsksToRecover rows asks → asks.json ≡ asked.json
  keep : (asks : Recovering) → AsksToRecover rows asks → asks.keep ≡ asked.keep

same_some : {T : Type 0} (a b : T) (o : Option T) → o ≡ Some a → o ≡ Some b → a ≡ b
same_some a b o x y = let both : Some a ≡ Some b = sym x ∙ y in cc

module _ (words : List Text) (named : names_command words ≡ Some (codes "recover")) where
  asks : (asked : Recovering) (result : Result Call CallFault) → IsAccepted words → Says (rows_named words) asked
      → IsParseOf words result → IsAskedToRecover result asked
  asks asked (Ok (Recover call)) accepted says a =
      let asks = a.recover call refl in
      same_recovering (recovering_of call) asked (says.json (recovering_of call) asks)
      (says.keep (recovering_of call) asks)
      (same_some _ asked.files _ asks.files says.files)
  asks asked (Ok (Collect call)) accepted says a =
      absurd (recover_is_not_collect (sym named ∙ a.named (Collect call) refl))
  asks asked (Ok (Replay log)) accepted says a = absurd (let wrong = sym named ∙ a.named (Replay log) refl in cc)
  asks asked (Ok Run) accepted says a = absurd (let wrong = sym named ∙ a.named Run refl in cc)
  asks asked (Ok Steps) accepted says a = absurd (let wrong = sym named ∙ a.named Steps refl in cc)
  asks asked (Ok Dump) accepted says a = absurd (let wrong = sym named ∙ a.named Dump refl in cc)
  asks asked (Ok Version) accepted says a = absurd (a.no_version refl)
  asks asked (Ok Help) accepted says a = absurd (a.no_help refl)
  asks asked (Err Usage) accepted says a =
      absurd (let wrong = sym (a.no_recover refl accepted named) ∙ says.files in cc)
  asks asked (Err NoMemory) accepted says a = tt

  unreadable : (result : Result Call CallFault) → regions_matched (rows_named words) ≡ None → IsParseOf words result
      → (result ≡ Err Usage) ⊎ (result ≡ Err NoMemory)
  unreadable (Ok (Recover call)) none a = absurd (let wrong = sym none ∙ (a.recover call refl).files in cc)
  unreadable (Ok (Collect call)) none a = absurd (recover_is_not_collect (sym named ∙ a.named (Collect call) refl))
  unreadable (Ok (Replay log)) none a = absurd (let wrong = sym named ∙ a.named (Replay log) refl in cc)
  unreadable (Ok Run) none a = absurd (let wrong = sym named ∙ a.named Run refl in cc)
  unreadable (Ok Steps) none a = absurd (let wrong = sym named ∙ a.named Steps refl in cc)
  unreadable (Ok Dump) none a = absurd (let wrong = sym named ∙ a.named Dump refl in cc)
  unreadable (Ok Version) none a = absurd (a.no_version refl)
  unreadable (Ok Help) none a = absurd (a.no_help refl)
  unreadable (Err Usage) none a = inl refl
  unreadable (Err NoMemory) none a = inr refl

recover_accepted : (first : List ℕ) → IsAccepted (first ∷ codes "recover" ∷ codes "3=a" ∷ codes "b" ∷ [])
unfolding clap_on_literals
recover_accepted first = refl

recover_named : (first : List ℕ)
    → names_command (first ∷ codes "recover" ∷ codes "3=a" ∷ codes "b" ∷ []) ≡ Some (codes "recover")
unfolding clap_on_literals names_command
recover_named first = refl

recover_says : (first : List ℕ)
    → Says (rows_named (first ∷ codes "recover" ∷ codes "3=a" ∷ codes "b" ∷ []))
    (record { json = false; keep = None; files = codes "3=a" ∷ codes "b" ∷ [] })
unfolding clap_on_literals rows_named
recover_says first = record { files = refl; json = λ asks h. h.json.1 refl; keep = λ asks h. sym h.keep }

pub asked_recover : (first : List ℕ) (result : Result Call CallFault)
    → IsParseOf (first ∷ codes "recover" ∷ codes "3=a" ∷ codes "b" ∷ []) result
    → IsAskedToRecover result (record { json = false; keep = None; files = codes "3=a" ∷ codes "b" ∷ [] })
asked_recover first result a =
    asks (first ∷ codes "recover" ∷ codes "3=a" ∷ codes "b" ∷ []) (recover_named first)
    (record { json = false; keep = None; files = codes "3=a" ∷ codes "b" ∷ [] }) result (recover_accepted first)
    (recover_says first) a

keep_accepted : (first : List ℕ)
    → IsAccepted (first ∷ codes "recover" ∷ codes "--json" ∷ codes "-" ∷ codes "--keep" ∷ codes "k" ∷ [])
unfolding clap_on_literals
keep_accepted first = refl

keep_named : (first : List ℕ)
    → names_command (first ∷ codes "recover" ∷ codes "--json" ∷ codes "-" ∷ codes "--keep" ∷ codes "k" ∷ [])
    ≡ Some (codes "recover")
unfolding clap_on_literals names_command
keep_named first = refl

keep_says : (first : List ℕ)
    → Says (rows_named (first ∷ codes "recover" ∷ codes "--json" ∷ codes "-" ∷ codes "--keep" ∷ codes "k" ∷ []))
    (record { json = true; keep = Some (codes "k"); files = codes "-" ∷ [] })
unfolding clap_on_literals rows_named
keep_says first = record { files = refl; json = λ asks h. h.json.0 refl; keep = λ asks h. sym h.keep }

pub asked_to_keep : (first : List ℕ) (result : Result Call CallFault)
    → IsParseOf (first ∷ codes "recover" ∷ codes "--json" ∷ codes "-" ∷ codes "--keep" ∷ codes "k" ∷ []) result
    → IsAskedToRecover result (record { json = true; keep = Some (codes "k"); files = codes "-" ∷ [] })
asked_to_keep first result a =
    asks (first ∷ codes "recover" ∷ codes "--json" ∷ codes "-" ∷ codes "--keep" ∷ codes "k" ∷ []) (keep_named first)
    (record { json = true; keep = Some (codes "k"); files = codes "-" ∷ [] }) result (keep_accepted first)
    (keep_says first) a

inputs_named : (first : List ℕ)
    → names_command (first ∷ codes "recover" ∷ codes "-" ∷ codes "-" ∷ []) ≡ Some (codes "recover")
unfolding clap_on_literals names_command
inputs_named first = refl

inputs_unread : (first : List ℕ)
    → regions_matched (rows_named (first ∷ codes "recover" ∷ codes "-" ∷ codes "-" ∷ [])) ≡ None
unfolding clap_on_literals rows_named
inputs_unread first = refl

pub refused_two_inputs : (first : List ℕ) (result : Result Call CallFault)
    → IsParseOf (first ∷ codes "recover" ∷ codes "-" ∷ codes "-" ∷ []) result
    → (result ≡ Err Usage) ⊎ (result ≡ Err NoMemory)
refused_two_inputs first result a =
    unreadable (first ∷ codes "recover" ∷ codes "-" ∷ codes "-" ∷ []) (inputs_named first) result (inputs_unread first)
    a

none_refused : (first : List ℕ) → IsAccepted (first ∷ codes "recover" ∷ []) → ⊥
unfolding clap_on_literals
none_refused first accepted = cc

pub refused_no_region : (first : List ℕ) (result : Result Call CallFault)
    → IsParseOf (first ∷ codes "recover" ∷ []) result → (result ≡ Err Usage) ⊎ (result ≡ Err NoMemory)
refused_no_region first (Ok call) a = absurd (none_refused first (a.accepted call refl))
refused_no_region first (Err Usage) a = inl refl
refused_no_region first (Err NoMemory) a = inr refl

page_refused : (first : List ℕ) → IsAccepted (first ∷ codes "recover" ∷ codes "--page" ∷ codes "64" ∷ codes "a" ∷ [])
    → ⊥
unfolding clap_on_literals
page_refused first accepted = cc

pub refused_with_page : (first : List ℕ) (result : Result Call CallFault)
    → IsParseOf (first ∷ codes "recover" ∷ codes "--page" ∷ codes "64" ∷ codes "a" ∷ []) result
    → (result ≡ Err Usage) ⊎ (result ≡ Err NoMemory)
refused_with_page first (Ok call) a = absurd (page_refused first (a.accepted call refl))
refused_with_page first (Err Usage) a = inl refl
refused_with_page first (Err NoMemory) a = inr refl
