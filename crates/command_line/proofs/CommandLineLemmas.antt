-- What the program makes of words of any kind.
use Rattle.std.proofs.Common.{◌≡◌, ◌≢◌, ◌⊎◌, Bool, List, Option, Some, None, Ok, Err, IfSome, true, false, codes, refl}
use Rattle.std.proofs.Common.{sym, ap, subst, ◌∙◌}
use Rattle.std.specs.Box.{box_value}
use Rattle.std.specs.Prelude.{IsErrAnd, Result, option_map, ok_or}
use Rattle.clap.specs.Words.{App, HasMatchesOf, Row, Text, is_simple, is_simple_and_free, one_of, one_text, rows_of}
use Rattle.clap.specs.Words.{subcommand_name_of, subcommand_of, subcommand_rows, subcommand_rows_of}
use Rattle.clap.specs.declared.parser.matches.ArgMatches.{ArgMatches}
use Rattle.clap.specs.declared.parser.matches.ArgMatches.TheViews.{out-ArgMatches, out-SubCommand}
use Rattle.clap.specs.declared.parser.matches.Found.{Found}
use Rattle.clap.specs.declared.error.ErrorKind.{ErrorKind}
use Rattle.clap.specs.declared.error.ErrorKind.TheVariants.{OutOfMemory}
use Rattle.clap.proofs.OnLiterals.{clap_on_literals}
use Rattle.clap.proofs.WalkLemmas.{one_text-rows}
use Rattle.command_line.proofs.Names.{collect_is_not_recover, recover_is_not_collect}
use Rattle.command_line.specs.CommandLine.{HasSource, IsAccepted, IsCallOf, IsParseOf, command_line, fault_of_kind}
use Rattle.command_line.specs.CommandLine.{flag_text, is_help, is_version, log_text, name_of, names_command}
use Rattle.command_line.specs.CommandLine.{rows_found, rows_named}
use Rattle.command_line.specs.Calls.{AreApart, AreUnread, AsksFor, AsksToRecover, asked_of, goes_together}
use Rattle.command_line.specs.Calls.{recovering_of, regions_matched}
use Rattle.command_line.specs.declared.call.CollectCall.{CollectCall}
use Rattle.command_line.specs.declared.call.RecoverCall.{RecoverCall}
use Rattle.command_line.specs.declared.call.Call.{Call}
use Rattle.command_line.specs.declared.call.Call.TheVariants.{Replay, Collect, Recover, Version, Help}
use Rattle.command_line.specs.declared.call.CallFault.{CallFault}
use Rattle.command_line.specs.declared.call.CallFault.TheVariants.{Usage, NoMemory}

-- the matches of the command line have the name of the command that the words name
pub name_of_matches : (app : App) (words : List Text) (m : ArgMatches) → app ≡ command_line → HasMatchesOf app words m
    → subcommand_name_of m ≡ names_command words
unfolding names_command
name_of_matches app words m same has =
    let name : Option (Text × List Row) → Option Text = option_map (λ p. p.0) in
    let named : subcommand_name_of m ≡ name (subcommand_rows_of m) =
    elim (out-ArgMatches m).subcommand as
    (λ found.
    option_map (λ b. (out-SubCommand (box_value b)).name.now) found
    ≡ option_map (λ p. p.0) (subcommand_rows found)) [ None ↦ refl | Some found ↦ refl ] in
    named ∙ ap name ((has (ap is_simple same)).1) ∙ ap (λ (a : App). name (subcommand_of a words)) same

-- they have the flag that is among the words
pub flag_of_matches : (app : App) (words : List Text) (m : ArgMatches) → app ≡ command_line → HasMatchesOf app words m
    → flag_text (subcommand_rows_of m) ≡ log_text words
unfolding log_text
flag_of_matches app words m same has =
    ap flag_text ((has (ap is_simple same)).1) ∙ ap (λ (a : App). flag_text (subcommand_of a words)) same

-- the flag of a command is that of the matches that were found for it
pub flag_found : (matched : Option (Text × List Row)) (found : Found)
    → option_map (λ p. p.1) matched ≡ Some (rows_of found) → flag_text matched ≡ one_text found (codes "log")
flag_found None found is = absurd (cc)
flag_found (Some p) found is =
    let same : p.1 ≡ rows_of found = cc in
    ap (one_of (codes "log")) same ∙ sym (one_text-rows found (codes "log"))

-- the command line has no setting that changes how a parse reads or fails
pub command_line_is_free : is_simple_and_free command_line ≡ true
unfolding clap_on_literals
command_line_is_free = refl

-- they have the rows of the command that the words name
pub rows_of_matches : (app : App) (words : List Text) (m : ArgMatches) → app ≡ command_line → HasMatchesOf app words m
    → rows_found (subcommand_rows_of m) ≡ rows_named words
unfolding rows_named
rows_of_matches app words m same has =
    ap rows_found ((has (ap is_simple same)).1) ∙ ap (λ (a : App). rows_found (subcommand_of a words)) same

-- which are those of the matches that were found for it
pub rows_of_found : (matched : Option (Text × List Row)) (found : Found)
    → option_map (λ p. p.1) matched ≡ Some (rows_of found) → rows_of found ≡ rows_found matched
rows_of_found None found is = absurd (cc)
rows_of_found (Some p) found is = cc

-- what is made of the matches of another command than `collect` and `recover` is an answer to the words
pub call_of_matches-words : (words : List Text) (m : ArgMatches) (call : Option Call)
    → HasMatchesOf command_line words m → IsAccepted words
    → subcommand_name_of m ≢ Some (codes "collect") → subcommand_name_of m ≢ Some (codes "recover")
    → IfSome call (λ x. HasSource x × (subcommand_name_of m ≡ Some (name_of x)))
    → (call ≡ None
    → (subcommand_name_of m ≢ Some (codes "replay")) × (subcommand_name_of m ≢ Some (codes "run"))
    × (subcommand_name_of m ≢ Some (codes "steps")) × (subcommand_name_of m ≢ Some (codes "dump")))
    → (flag_text (subcommand_rows_of m) ≡ Some (codes "true") → call ≢ Some (Replay false))
    → (flag_text (subcommand_rows_of m) ≡ Some (codes "false") → call ≢ Some (Replay true))
    → IsParseOf words (ok_or call Usage)
call_of_matches-words words m None has accepted other unlike named none log no_log =
    let name = name_of_matches command_line words m refl has in
    record {
      no_version = λ is. cc;
      no_help = λ is. cc;
      accepted = λ x is. accepted;
      named = λ x is. absurd (cc);
      log = λ _ is. cc;
      no_log = λ _ is. cc;
      no_replay = λ _ _ is. (none refl).0 (name ∙ is);
      no_run = λ _ _ is. (none refl).1 (name ∙ is);
      no_steps = λ _ _ is. (none refl).2 (name ∙ is);
      no_dump = λ _ _ is. (none refl).3 (name ∙ is);
      collect = λ x is. absurd (cc);
      together = λ x is. absurd (cc);
      no_collect = λ _ _ is. absurd (other (name ∙ is));
      recover = λ x is. absurd (cc);
      no_recover = λ _ _ is. absurd (unlike (name ∙ is));
    }
call_of_matches-words words m (Some x) has accepted other unlike named none log no_log =
    let name = name_of_matches command_line words m refl has in
    let flag = flag_of_matches command_line words m refl has in
    record {
      no_version = λ is. let same : x ≡ Version = cc in subst HasSource same named.0;
      no_help = λ is. let same : x ≡ Help = cc in subst HasSource same named.0;
      accepted = λ y is. accepted;
      named = λ y is. sym name ∙ named.1 ∙ (let same : x ≡ y = cc in ap (λ (call : Call). Some (name_of call)) same);
      log = λ asked is. log (flag ∙ asked) (let same : x ≡ Replay false = cc in ap Some same);
      no_log = λ unasked is. no_log (flag ∙ unasked) (let same : x ≡ Replay true = cc in ap Some same);
      no_replay = λ is. absurd (cc);
      no_run = λ is. absurd (cc);
      no_steps = λ is. absurd (cc);
      no_dump = λ is. absurd (cc);
      collect = λ call is. let same : x ≡ Collect call = cc in absurd (subst HasSource same named.0);
      together = λ call is. let same : x ≡ Collect call = cc in absurd (subst HasSource same named.0);
      no_collect = λ is. absurd (cc);
      recover = λ call is. let same : x ≡ Recover call = cc in absurd (subst HasSource same named.0);
      no_recover = λ is. absurd (cc);
    }

-- and so is what is made of those of `collect`
pub collect_call-words : (words : List Text) (m : ArgMatches) (found : Found) (call : CollectCall)
    → HasMatchesOf command_line words m → IsAccepted words
    → subcommand_name_of m ≡ Some (codes "collect")
    → option_map (λ p. p.1) (subcommand_rows_of m) ≡ Some (rows_of found)
    → AsksFor (rows_of found) (asked_of call) → goes_together (asked_of call) ≡ true
    → IsParseOf words (Ok (Collect call))
collect_call-words words m found call has accepted named rows asks goes =
    let name = name_of_matches command_line words m refl has in
    let same_rows = rows_of_found (subcommand_rows_of m) found rows ∙ rows_of_matches command_line words m refl has in
    let asks_words : AsksFor (rows_named words) (asked_of call) =
    subst (λ (rows : List Row). AsksFor rows (asked_of call)) same_rows asks in
    record {
      no_version = λ is. cc;
      no_help = λ is. cc;
      accepted = λ y is. accepted;
      named =
          λ y is.
          sym name ∙ named
          ∙ (let same : Collect call ≡ y = cc in ap (λ (call : Call). Some (name_of call)) same);
      log = λ _ is. cc;
      no_log = λ _ is. cc;
      no_replay = λ is. absurd (cc);
      no_run = λ is. absurd (cc);
      no_steps = λ is. absurd (cc);
      no_dump = λ is. absurd (cc);
      collect = λ other is. let same : call ≡ other = cc in
          subst (λ (call : CollectCall). AsksFor (rows_named words) (asked_of call)) same asks_words;
      together = λ other is. let same : call ≡ other = cc in
          subst (λ (call : CollectCall). goes_together (asked_of call) ≡ true) same goes;
      no_collect = λ is. absurd (cc);
      recover = λ other is. absurd (cc);
      no_recover = λ is. absurd (cc);
    }

-- and refused memory is an answer to all words
pub no_memory-words : (words : List Text) → IsParseOf words (Err NoMemory)
no_memory-words words = record {
  no_version = λ is. cc;
  no_help = λ is. cc;
  accepted = λ y is. absurd (cc);
  named = λ y is. absurd (cc);
  log = λ _ is. cc;
  no_log = λ _ is. cc;
  no_replay = λ is. absurd (cc);
  no_run = λ is. absurd (cc);
  no_steps = λ is. absurd (cc);
  no_dump = λ is. absurd (cc);
  collect = λ other is. absurd (cc);
  together = λ other is. absurd (cc);
  no_collect = λ is. absurd (cc);
  recover = λ other is. absurd (cc);
  no_recover = λ is. absurd (cc);
}

-- and that nothing is made of them
unread-words : (words : List Text) (m : ArgMatches) (found : Found) → HasMatchesOf command_line words m
    → subcommand_name_of m ≡ Some (codes "collect")
    → option_map (λ p. p.1) (subcommand_rows_of m) ≡ Some (rows_of found)
    → AreUnread (rows_of found) ⊎ AreApart (rows_of found) → IsParseOf words (Err Usage)
unread-words words m found has named rows unread =
    let name = name_of_matches command_line words m refl has in
    let same_rows = rows_of_found (subcommand_rows_of m) found rows ∙ rows_of_matches command_line words m refl has in
    record {
      no_version = λ is. cc;
      no_help = λ is. cc;
      accepted = λ y is. absurd (cc);
      named = λ y is. absurd (cc);
      log = λ _ is. cc;
      no_log = λ _ is. cc;
      no_replay = λ _ _ is. let wrong = sym named ∙ name ∙ is in cc;
      no_run = λ _ _ is. let wrong = sym named ∙ name ∙ is in cc;
      no_steps = λ _ _ is. let wrong = sym named ∙ name ∙ is in cc;
      no_dump = λ _ _ is. let wrong = sym named ∙ name ∙ is in cc;
      collect = λ other is. absurd (cc);
      together = λ other is. absurd (cc);
      no_collect = λ _ _ _. subst (λ (rows : List Row). AreUnread rows ⊎ AreApart rows) same_rows unread;
      recover = λ other is. absurd (cc);
      no_recover = λ _ _ is. absurd (collect_is_not_recover (sym named ∙ name ∙ is));
    }

pub no_collect-words : (words : List Text) (m : ArgMatches) (found : Found) (fault : CallFault)
    → HasMatchesOf command_line words m
    → subcommand_name_of m ≡ Some (codes "collect")
    → option_map (λ p. p.1) (subcommand_rows_of m) ≡ Some (rows_of found)
    → (fault ≡ Usage → AreUnread (rows_of found) ⊎ AreApart (rows_of found)) → IsParseOf words (Err fault)
no_collect-words words m found NoMemory has named rows unread = no_memory-words words
no_collect-words words m found Usage has named rows unread = unread-words words m found has named rows (unread refl)

-- the call that is made of the matches of `recover` is the one that the words ask for
pub recovered-words : (words : List Text) (m : ArgMatches) (found : Found) (call : RecoverCall)
    → HasMatchesOf command_line words m → IsAccepted words
    → subcommand_name_of m ≡ Some (codes "recover")
    → option_map (λ p. p.1) (subcommand_rows_of m) ≡ Some (rows_of found)
    → AsksToRecover (rows_of found) (recovering_of call) → IsParseOf words (Ok (Recover call))
recovered-words words m found call has accepted named rows asks =
    let name = name_of_matches command_line words m refl has in
    let same_rows = rows_of_found (subcommand_rows_of m) found rows ∙ rows_of_matches command_line words m refl has in
    let asks_words : AsksToRecover (rows_named words) (recovering_of call) =
    subst (λ (rows : List Row). AsksToRecover rows (recovering_of call)) same_rows asks in
    record {
      no_version = λ is. cc;
      no_help = λ is. cc;
      accepted = λ y is. accepted;
      named =
          λ y is.
          sym name ∙ named
          ∙ (let same : Recover call ≡ y = cc in ap (λ (call : Call). Some (name_of call)) same);
      log = λ _ is. cc;
      no_log = λ _ is. cc;
      no_replay = λ is. absurd (cc);
      no_run = λ is. absurd (cc);
      no_steps = λ is. absurd (cc);
      no_dump = λ is. absurd (cc);
      collect = λ other is. absurd (cc);
      together = λ other is. absurd (cc);
      no_collect = λ is. absurd (cc);
      recover = λ other is. let same : call ≡ other = cc in
          subst (λ (call : RecoverCall). AsksToRecover (rows_named words) (recovering_of call)) same asks_words;
      no_recover = λ is. absurd (cc);
    }

no_regions-words : (words : List Text) (m : ArgMatches) (found : Found) → HasMatchesOf command_line words m
    → subcommand_name_of m ≡ Some (codes "recover")
    → option_map (λ p. p.1) (subcommand_rows_of m) ≡ Some (rows_of found)
    → regions_matched (rows_of found) ≡ None → IsParseOf words (Err Usage)
no_regions-words words m found has named rows unread =
    let name = name_of_matches command_line words m refl has in
    let same_rows = rows_of_found (subcommand_rows_of m) found rows ∙ rows_of_matches command_line words m refl has in
    record {
      no_version = λ is. cc;
      no_help = λ is. cc;
      accepted = λ y is. absurd (cc);
      named = λ y is. absurd (cc);
      log = λ _ is. cc;
      no_log = λ _ is. cc;
      no_replay = λ _ _ is. let wrong = sym named ∙ name ∙ is in cc;
      no_run = λ _ _ is. let wrong = sym named ∙ name ∙ is in cc;
      no_steps = λ _ _ is. let wrong = sym named ∙ name ∙ is in cc;
      no_dump = λ _ _ is. let wrong = sym named ∙ name ∙ is in cc;
      collect = λ other is. absurd (cc);
      together = λ other is. absurd (cc);
      no_collect = λ _ _ is. absurd (recover_is_not_collect (sym named ∙ name ∙ is));
      recover = λ other is. absurd (cc);
      no_recover = λ _ _ _. subst (λ (rows : List Row). regions_matched rows ≡ None) same_rows unread;
    }

pub no_recover-words : (words : List Text) (m : ArgMatches) (found : Found) (fault : CallFault)
    → HasMatchesOf command_line words m
    → subcommand_name_of m ≡ Some (codes "recover")
    → option_map (λ p. p.1) (subcommand_rows_of m) ≡ Some (rows_of found)
    → (fault ≡ Usage → regions_matched (rows_of found) ≡ None) → IsParseOf words (Err fault)
no_recover-words words m found NoMemory has named rows unread = no_memory-words words
no_recover-words words m found Usage has named rows unread = no_regions-words words m found has named rows (unread refl)

-- a parse that fails answers words that it doesn't accept, or memory was refused
pub refused-words : (words : List Text) (fault : CallFault) → (IsAccepted words → fault ≡ NoMemory)
    → IsParseOf words (Err fault)
refused-words words fault memory = record {
  no_version = λ is. cc;
  no_help = λ is. cc;
  accepted = λ y is. absurd (cc);
  named = λ y is. absurd (cc);
  log = λ _ is. cc;
  no_log = λ _ is. cc;
  no_replay = λ is accepted. let why = memory accepted in absurd (cc);
  no_run = λ is accepted. let why = memory accepted in absurd (cc);
  no_steps = λ is accepted. let why = memory accepted in absurd (cc);
  no_dump = λ is accepted. let why = memory accepted in absurd (cc);
  collect = λ other is. absurd (cc);
  together = λ other is. absurd (cc);
  no_collect = λ is accepted. let why = memory accepted in absurd (cc);
  recover = λ other is. absurd (cc);
  no_recover = λ is accepted. let why = memory accepted in absurd (cc);
}

pub failed-words : (words : List Text) (result : Result Call CallFault) (kind : ErrorKind)
    → IsErrAnd result (λ fault. fault ≡ fault_of_kind kind)
    → (IsAccepted words → kind ≡ OutOfMemory) → IsParseOf words result
failed-words words (Ok call) kind is memory = absurd is
failed-words words (Err fault) kind is memory =
    refused-words words fault (λ accepted. is ∙ ap fault_of_kind (memory accepted))

-- and what the program makes of words is of `collect` only if the parse makes it of them
pub parsed_collect : (words : List Text) (result : Result Call CallFault) (asked : CollectCall) (version help : Bool)
    → is_version words ≡ version → is_help words ≡ help → IsCallOf words result → result ≡ Ok (Collect asked)
    → AsksFor (rows_named words) (asked_of asked) × (goes_together (asked_of asked) ≡ true)
parsed_collect words result asked true help is not_help call same =
    absurd (let wrong = sym (call.version is) ∙ same in cc)
parsed_collect words result asked false true is not_help call same =
    absurd (let wrong = sym (call.help not_help) ∙ same in cc)
parsed_collect words result asked false false is not_help call same =
    let parsed = call.parsed is not_help in
    (parsed.collect asked same, parsed.together asked same)
