-- What the program's command line is on words that call for `collect` and are written out.
use Rattle.std.proofs.Common.{◌≡◌, ◌⊎◌, inl, inr, List, ◌∷◌, [], Result, Ok, Err, Some, None, Option, ℕ, Bool, true}
use Rattle.std.proofs.Common.{false, bytes_eq, codes, is_some, refl, sym, ap, ◌∙◌}
use Rattle.clap.specs.Words.{Row, Text, first_of, one_of}
use Rattle.clap.proofs.OnLiterals.{clap_on_literals}
use Rattle.std.specs.Prelude.{ℤ, pos, ◌||◌, option_map}
use Rattle.trace_model.specs.declared.limits.TheConstants.{MAX_CPUS}
use Rattle.command_line.proofs.Names.{collect_is_not_recover}
use Rattle.command_line.specs.Calls.{Asked, AsksFor, AreApart, AreUnread, IsAsked, SaysFlag, SaysNames, asked_of}
use Rattle.command_line.specs.Calls.{cpus_matched, event_matched, files_matched, goes_together, page_matched}
use Rattle.command_line.specs.Calls.{path_matched, pids_matched, round_matched, span_matched, without_options}
use Rattle.command_line.specs.ListWords.{marks_from, names_by}
use Rattle.command_line.specs.declared.call.CollectCall.{CollectCall}
use Rattle.command_line.specs.CommandLine.{IsParseOf, IsAccepted, names_command, rows_named}
use Rattle.command_line.specs.declared.call.Call.{Call}
use Rattle.command_line.specs.declared.call.Call.TheVariants.{Replay, Run, Steps, Dump, Collect, Recover, Version, Help}
use Rattle.command_line.specs.declared.call.CallFault.{CallFault}
use Rattle.command_line.specs.declared.call.CallFault.TheVariants.{Usage, NoMemory}

same_asked : (a b : Asked) → a.page ≡ b.page → a.names ≡ b.names → a.fields ≡ b.fields → a.tasks ≡ b.tasks
    → a.symbols ≡ b.symbols → a.json ≡ b.json → a.formats ≡ b.formats → a.instance ≡ b.instance → a.cpus ≡ b.cpus
    → a.since ≡ b.since → a.until ≡ b.until → a.event ≡ b.event → a.pids ≡ b.pids → a.keep ≡ b.keep
    → a.parcels ≡ b.parcels → a.follow ≡ b.follow → a.round ≡ b.round → a.files ≡ b.files → a ≡ b
same_asked a b page names fields tasks symbols json formats instance cpus since until event pids keep parcels follow
    round files =
    λ i. record {
      page = page i;
      names = names i;
      fields = fields i;
      tasks = tasks i;
      symbols = symbols i;
      json = json i;
      formats = formats i;
      instance = instance i;
      cpus = cpus i;
      since = since i;
      until = until i;
      event = event i;
      pids = pids i;
      keep = keep i;
      parcels = parcels i;
      follow = follow i;
      round = round i;
      files = files i;
    }

-- ---- what the matches say of each option, and so all that is asked for

-- the text of a flag, which is given or not
abbrev flag_word : Bool → Text
flag_word true = codes "true"
flag_word false = codes "false"

-- a flag is given, as its text says
abbrev is_given : (text : Option Text) → Bool
is_given None = false
is_given (Some text) = bytes_eq text (codes "true")

abbrev has_flag : (name : Text) → List Row → Bool
has_flag name rows = is_given (one_of name rows)

-- where names are from that these flag and option ask for
abbrev names_said : (flag option : Text) → List Row → Option (Option (Option Text))
names_said flag option rows = option_map (λ path. names_by (has_flag flag rows) path) (path_matched option rows)

-- whether they ask for names
abbrev are_asked : Option (Option (Option Text)) → Bool
are_asked None = false
are_asked (Some names) = is_some names

abbrev fields_said : List Row → Bool
fields_said rows =
    has_flag (codes "fields") rows || are_asked (names_said (codes "symbols") (codes "symbols-from") rows)

abbrev names_given : List Row → Bool
names_given rows = has_flag (codes "names") rows || (fields_said rows || (is_some (first_of (codes "formats") rows)
    || are_asked (names_said (codes "tasks") (codes "tasks-from") rows)))

-- what they say of each option
record Said : Type 0 where
  page : Option (Option ℕ)
  names : Bool
  fields : Bool
  tasks : Option (Option (Option Text))
  symbols : Option (Option (Option Text))
  json : Bool
  formats : Option Text
  instance : Option Text
  cpus : Option (Option (List Bool))
  span : Option (Option ℕ × Option ℕ)
  event : Option (Option Text)
  pids : Option (Option (List ℤ))
  keep : Option Text
  parcels : Bool
  follow : Bool
  round : Option (Option ℕ)
  files : Option (List (ℕ × Text))

abbrev said_in : List Row → Said
said_in rows = record {
  page = page_matched rows;
  names = names_given rows;
  fields = fields_said rows;
  tasks = names_said (codes "tasks") (codes "tasks-from") rows;
  symbols = names_said (codes "symbols") (codes "symbols-from") rows;
  json = has_flag (codes "json") rows;
  formats = first_of (codes "formats") rows;
  instance = first_of (codes "instance") rows;
  cpus = cpus_matched rows;
  span = span_matched rows;
  event = event_matched rows;
  pids = pids_matched rows;
  keep = first_of (codes "keep") rows;
  parcels = has_flag (codes "parcels") rows;
  follow = has_flag (codes "follow") rows;
  round = round_matched rows;
  files = files_matched rows;
}

-- what they say if this is asked for
abbrev said_for : Asked → Said
said_for asked = record {
  page = Some asked.page;
  names = asked.names;
  fields = asked.fields;
  tasks = Some asked.tasks;
  symbols = Some asked.symbols;
  json = asked.json;
  formats = asked.formats;
  instance = asked.instance;
  cpus = Some asked.cpus;
  span = Some (asked.since, asked.until);
  event = Some asked.event;
  pids = Some asked.pids;
  keep = asked.keep;
  parcels = asked.parcels;
  follow = asked.follow;
  round = Some asked.round;
  files = Some asked.files;
}

-- each flag has a text that says whether it is given
abbrev AreFlags : List Row → Type 0
AreFlags rows = (one_of (codes "names") rows ≡ Some (flag_word (has_flag (codes "names") rows)))
    × (one_of (codes "fields") rows ≡ Some (flag_word (has_flag (codes "fields") rows)))
    × (one_of (codes "tasks") rows ≡ Some (flag_word (has_flag (codes "tasks") rows)))
    × (one_of (codes "symbols") rows ≡ Some (flag_word (has_flag (codes "symbols") rows)))
    × (one_of (codes "json") rows ≡ Some (flag_word (has_flag (codes "json") rows)))
    × (one_of (codes "parcels") rows ≡ Some (flag_word (has_flag (codes "parcels") rows)))
    × (one_of (codes "follow") rows ≡ Some (flag_word (has_flag (codes "follow") rows)))

same_flag : (rows : List Row) (name : Text) (says : Bool) → SaysFlag rows name says
    → one_of name rows ≡ Some (flag_word (has_flag name rows)) → has_flag name rows ≡ says
same_flag rows name says is text = by_word (has_flag name rows) text
  where
    by_word : (wanted : Bool) → one_of name rows ≡ Some (flag_word wanted) → wanted ≡ says
    by_word true text = sym (is.0 text)
    by_word false text = sym (is.1 text)

same_names : (rows : List Row) (flag option : Text) (asked : Option (Option Text)) → SaysNames rows flag option asked
    → one_of flag rows ≡ Some (flag_word (has_flag flag rows)) → names_said flag option rows ≡ Some asked
same_names rows flag option asked says text =
    ap (λ is. option_map (λ path. names_by is path) (path_matched option rows))
    (same_flag rows flag says.is_given says.flagged text) ∙ says.names

-- a flag asks for something, or what else does
asked_by : (flag other asked : Bool) → (flag ≡ true → asked ≡ true) → (other ≡ true → asked ≡ true)
    → (flag ≡ false → other ≡ false → asked ≡ false) → (flag || other) ≡ asked
asked_by true other asked flagged others none = sym (flagged refl)
asked_by false true asked flagged others none = sym (others refl)
asked_by false false asked flagged others none = sym (none refl refl)

none_of : {X : Type 0} (o : Option X) → is_some o ≡ false → o ≡ None
none_of None is = refl
none_of (Some x) is = absurd (cc)

word_if : (rows : List Row) (name : Text) (wanted : Bool) → one_of name rows ≡ Some (flag_word (has_flag name rows))
    → has_flag name rows ≡ wanted → one_of name rows ≡ Some (flag_word wanted)
word_if rows name wanted text is = text ∙ ap (λ w. Some (flag_word w)) is

either : (a b c : Bool) → (a || (b || c)) ≡ true → (a ≡ true) ⊎ ((b ≡ true) ⊎ (c ≡ true))
either true b c is = inl refl
either false true c is = inr (inl refl)
either false false true is = inr (inr refl)
either false false false is = absurd (cc)

neither : (a b c : Bool) → (a || (b || c)) ≡ false → (a ≡ false) × (b ≡ false) × (c ≡ false)
neither true b c is = absurd (cc)
neither false true c is = absurd (cc)
neither false false true is = absurd (cc)
neither false false false is = (refl, refl, refl)

module _ (rows : List Row) (asked : Asked) (asks : AsksFor rows asked) (flags : AreFlags rows) where
  symbols_said : names_said (codes "symbols") (codes "symbols-from") rows ≡ Some asked.symbols
  symbols_said = same_names rows (codes "symbols") (codes "symbols-from") asked.symbols asks.symbols flags.3

  tasks_said : names_said (codes "tasks") (codes "tasks-from") rows ≡ Some asked.tasks
  tasks_said = same_names rows (codes "tasks") (codes "tasks-from") asked.tasks asks.tasks flags.2

  same_fields : fields_said rows ≡ asked.fields
  same_fields = ap (λ names. has_flag (codes "fields") rows || are_asked names) symbols_said
      ∙ asked_by (has_flag (codes "fields") rows) (is_some asked.symbols) asked.fields
      (λ is. asks.fields (word_if rows (codes "fields") true flags.1 is)) asks.named_symbols
      (λ is none. asks.no_fields (word_if rows (codes "fields") false flags.1 is) (none_of asked.symbols none))

  same_names_given : names_given rows ≡ asked.names
  same_names_given =
      ap (λ fields. has_flag (codes "names") rows || (fields || (is_some (first_of (codes "formats") rows)
      || are_asked (names_said (codes "tasks") (codes "tasks-from") rows)))) same_fields
      ∙ ap (λ formats. has_flag (codes "names") rows || (asked.fields || (is_some formats
      || are_asked (names_said (codes "tasks") (codes "tasks-from") rows)))) asks.formats
      ∙ ap (λ tasks. has_flag (codes "names") rows || (asked.fields || (is_some asked.formats || are_asked tasks)))
      tasks_said
      ∙ asked_by (has_flag (codes "names") rows) (asked.fields || (is_some asked.formats || is_some asked.tasks))
      asked.names (λ is. asks.names (word_if rows (codes "names") true flags.0 is))
      (λ is. some_other (either asked.fields (is_some asked.formats) (is_some asked.tasks) is))
      (λ is none. no_other is (neither asked.fields (is_some asked.formats) (is_some asked.tasks) none))
    where
      some_other : (asked.fields ≡ true) ⊎ ((is_some asked.formats ≡ true) ⊎ (is_some asked.tasks ≡ true))
          → asked.names ≡ true
      some_other (inl fields) = asks.named_fields fields
      some_other (inr (inl formats)) = asks.named_formats formats
      some_other (inr (inr tasks)) = asks.named_tasks tasks

      no_other : has_flag (codes "names") rows ≡ false
          → (asked.fields ≡ false) × (is_some asked.formats ≡ false) × (is_some asked.tasks ≡ false)
          → asked.names ≡ false
      no_other is others = asks.no_names (word_if rows (codes "names") false flags.0 is)
          (none_of asked.formats others.1) others.0 (none_of asked.tasks others.2)

same_some : {T : Type 0} (a b : T) (o : Option T) → o ≡ Some a → o ≡ Some b → a ≡ b
same_some a b o x y = let both : Some a ≡ Some b = sym x ∙ y in cc

-- names that a flag or an option asks for are read
no_names : (rows : List Row) (flag option : Text) (asked : Option (Option Text)) → SaysNames rows flag option asked
    → path_matched option rows ≡ None → ⊥
no_names rows flag option asked says none =
    let read : None ≡ Some asked =
    sym (ap (option_map (λ path. names_by says.is_given path)) none) ∙ says.names in
    cc

-- what is asked for is what the matches say
same_call : (rows : List Row) (own asked : Asked) → AsksFor rows own → AreFlags rows → said_in rows ≡ said_for asked
    → own ≡ asked
same_call rows own asked asks flags says =
    let span : (own.since, own.until) ≡ (asked.since, asked.until) =
    same_some (own.since, own.until) (asked.since, asked.until) _ asks.span (ap (λ (s : Said). s.span) says) in
    same_asked own asked
    (same_some own.page asked.page _ asks.page (ap (λ (s : Said). s.page) says))
    (sym (same_names_given rows own asks flags) ∙ ap (λ (s : Said). s.names) says)
    (sym (same_fields rows own asks flags) ∙ ap (λ (s : Said). s.fields) says)
    (same_some own.tasks asked.tasks _ (tasks_said rows own asks flags) (ap (λ (s : Said). s.tasks) says))
    (same_some own.symbols asked.symbols _ (symbols_said rows own asks flags) (ap (λ (s : Said). s.symbols) says))
    (sym (same_flag rows (codes "json") own.json asks.json flags.4) ∙ ap (λ (s : Said). s.json) says)
    (sym asks.formats ∙ ap (λ (s : Said). s.formats) says)
    (sym asks.instance ∙ ap (λ (s : Said). s.instance) says)
    (same_some own.cpus asked.cpus _ asks.cpus (ap (λ (s : Said). s.cpus) says))
    (ap (λ (s : Option ℕ × Option ℕ). s.0) span) (ap (λ (s : Option ℕ × Option ℕ). s.1) span)
    (same_some own.event asked.event _ asks.event (ap (λ (s : Said). s.event) says))
    (same_some own.pids asked.pids _ asks.pids (ap (λ (s : Said). s.pids) says))
    (sym asks.keep ∙ ap (λ (s : Said). s.keep) says)
    (sym (same_flag rows (codes "parcels") own.parcels asks.parcels flags.5) ∙ ap (λ (s : Said). s.parcels) says)
    (sym (same_flag rows (codes "follow") own.follow asks.follow flags.6) ∙ ap (λ (s : Said). s.follow) says)
    (same_some own.round asked.round _ asks.round (ap (λ (s : Said). s.round) says))
    (same_some own.files asked.files _ asks.files (ap (λ (s : Said). s.files) says))

module _ (words : List Text) (named : names_command words ≡ Some (codes "collect")) where
  asks : (asked : Asked) (result : Result Call CallFault) → goes_together asked ≡ true → IsAccepted words
      → AreFlags (rows_named words) → said_in (rows_named words) ≡ said_for asked → IsParseOf words result
      → IsAsked result asked
  asks asked (Ok (Collect call)) goes accepted flags says a =
      same_call (rows_named words) (asked_of call) asked (a.collect call refl) flags says
  asks asked (Ok (Replay log)) goes accepted flags says a =
      absurd (let wrong = sym named ∙ a.named (Replay log) refl in cc)
  asks asked (Ok Run) goes accepted flags says a = absurd (let wrong = sym named ∙ a.named Run refl in cc)
  asks asked (Ok Steps) goes accepted flags says a = absurd (let wrong = sym named ∙ a.named Steps refl in cc)
  asks asked (Ok Dump) goes accepted flags says a = absurd (let wrong = sym named ∙ a.named Dump refl in cc)
  asks asked (Ok (Recover call)) goes accepted flags says a =
      absurd (collect_is_not_recover (sym named ∙ a.named (Recover call) refl))
  asks asked (Ok Version) goes accepted flags says a = absurd (a.no_version refl)
  asks asked (Ok Help) goes accepted flags says a = absurd (a.no_help refl)
  asks asked (Err Usage) goes accepted flags says a = absurd (none_asked (a.no_collect refl accepted named))
    where
      no_path : (flag option : Text) → path_matched option (rows_named words) ≡ None
          → names_said flag option (rows_named words) ≡ None
      no_path flag option none =
          ap (option_map (λ path. names_by (has_flag flag (rows_named words)) path)) none

      unread : AreUnread (rows_named words) → ⊥
      unread (inl none) = let wrong = sym none ∙ ap (λ (s : Said). s.page) says in cc
      unread (inr (inl (inl none))) = let wrong = sym none ∙ ap (λ (s : Said). s.cpus) says in cc
      unread (inr (inl (inr (inl none)))) = let wrong = sym none ∙ ap (λ (s : Said). s.span) says in cc
      unread (inr (inl (inr (inr (inl none))))) = let wrong = sym none ∙ ap (λ (s : Said). s.event) says in cc
      unread (inr (inl (inr (inr (inr none))))) = let wrong = sym none ∙ ap (λ (s : Said). s.pids) says in cc
      unread (inr (inr (inl (inl none)))) =
          let wrong = sym (no_path (codes "tasks") (codes "tasks-from") none) ∙ ap (λ (s : Said). s.tasks) says in cc
      unread (inr (inr (inl (inr none)))) =
          let wrong = sym (no_path (codes "symbols") (codes "symbols-from") none) ∙ ap (λ (s : Said). s.symbols) says in
          cc
      unread (inr (inr (inr (inl none)))) = let wrong = sym none ∙ ap (λ (s : Said). s.round) says in cc
      unread (inr (inr (inr (inr none)))) = let wrong = sym none ∙ ap (λ (s : Said). s.files) says in cc

      none_asked : AreUnread (rows_named words) ⊎ AreApart (rows_named words) → ⊥
      none_asked (inl none) = unread none
      none_asked (inr apart) =
          let same = same_call (rows_named words) apart.0 asked apart.1 flags says in
          let wrong = sym apart.2 ∙ ap goes_together same ∙ goes in
          cc
  asks asked (Err NoMemory) goes accepted flags says a = tt

  -- nothing is asked for where the matches can't be read
  refused : (call : CollectCall) → AsksFor (rows_named words) (asked_of call) → AreUnread (rows_named words) → ⊥
  refused call asks (inl none) = let wrong = sym none ∙ asks.page in cc
  refused call asks (inr (inl (inl none))) = let wrong = sym none ∙ asks.cpus in cc
  refused call asks (inr (inl (inr (inl none)))) = let wrong = sym none ∙ asks.span in cc
  refused call asks (inr (inl (inr (inr (inl none))))) = let wrong = sym none ∙ asks.event in cc
  refused call asks (inr (inl (inr (inr (inr none))))) = let wrong = sym none ∙ asks.pids in cc
  refused call asks (inr (inr (inl (inl none)))) = no_names (rows_named words) _ _ _ asks.tasks none
  refused call asks (inr (inr (inl (inr none)))) = no_names (rows_named words) _ _ _ asks.symbols none
  refused call asks (inr (inr (inr (inl none)))) = let wrong = sym none ∙ asks.round in cc
  refused call asks (inr (inr (inr (inr none)))) = let wrong = sym none ∙ asks.files in cc

  unreadable : (result : Result Call CallFault) → AreUnread (rows_named words) → IsParseOf words result
      → (result ≡ Err Usage) ⊎ (result ≡ Err NoMemory)
  unreadable (Ok (Collect call)) none a = absurd (refused call (a.collect call refl) none)
  unreadable (Ok (Replay log)) none a = absurd (let wrong = sym named ∙ a.named (Replay log) refl in cc)
  unreadable (Ok Run) none a = absurd (let wrong = sym named ∙ a.named Run refl in cc)
  unreadable (Ok Steps) none a = absurd (let wrong = sym named ∙ a.named Steps refl in cc)
  unreadable (Ok Dump) none a = absurd (let wrong = sym named ∙ a.named Dump refl in cc)
  unreadable (Ok (Recover call)) none a = absurd (collect_is_not_recover (sym named ∙ a.named (Recover call) refl))
  unreadable (Ok Version) none a = absurd (a.no_version refl)
  unreadable (Ok Help) none a = absurd (a.no_help refl)
  unreadable (Err Usage) none a = inl refl
  unreadable (Err NoMemory) none a = inr refl

  -- and where what they say doesn't go together
  apart : (asked : Asked) (result : Result Call CallFault) → goes_together asked ≡ false → AreFlags (rows_named words)
      → said_in (rows_named words) ≡ said_for asked → IsParseOf words result
      → (result ≡ Err Usage) ⊎ (result ≡ Err NoMemory)
  apart asked (Ok (Collect call)) goes flags says a =
      let same = same_call (rows_named words) (asked_of call) asked (a.collect call refl) flags says in
      absurd (let wrong = sym (a.together call refl) ∙ ap goes_together same ∙ goes in cc)
  apart asked (Ok (Replay log)) goes flags says a = absurd (let wrong = sym named ∙ a.named (Replay log) refl in cc)
  apart asked (Ok Run) goes flags says a = absurd (let wrong = sym named ∙ a.named Run refl in cc)
  apart asked (Ok Steps) goes flags says a = absurd (let wrong = sym named ∙ a.named Steps refl in cc)
  apart asked (Ok Dump) goes flags says a = absurd (let wrong = sym named ∙ a.named Dump refl in cc)
  apart asked (Ok (Recover call)) goes flags says a =
      absurd (collect_is_not_recover (sym named ∙ a.named (Recover call) refl))
  apart asked (Ok Version) goes flags says a = absurd (a.no_version refl)
  apart asked (Ok Help) goes flags says a = absurd (a.no_help refl)
  apart asked (Err Usage) goes flags says a = inl refl
  apart asked (Err NoMemory) goes flags says a = inr refl

-- ---- examples

-- the words call for `collect`, and ask for this
abbrev Calls : List Text → Asked → Type 0
Calls words asked = IsAccepted words × (names_command words ≡ Some (codes "collect"))
    × AreFlags (rows_named words) × (said_in (rows_named words) ≡ said_for asked)

called : (words : List Text) (asked : Asked) (result : Result Call CallFault) → goes_together asked ≡ true
    → Calls words asked → IsParseOf words result → IsAsked result asked
called words asked result goes calls a = asks words calls.1 asked result goes calls.0 calls.2 calls.3 a

not_called : (words : List Text) (asked : Asked) (result : Result Call CallFault) → goes_together asked ≡ false
    → Calls words asked → IsParseOf words result → (result ≡ Err Usage) ⊎ (result ≡ Err NoMemory)
not_called words asked result goes calls a = apart words calls.1 asked result goes calls.2 calls.3 a

abbrev collect_words : (first : List ℕ) → List Text
collect_words first = first ∷ codes "collect" ∷ codes "a" ∷ codes "b" ∷ []

abbrev collect_asked : Asked
collect_asked = without_options ((0, codes "a") ∷ (1, codes "b") ∷ [])

collect_calls : (first : List ℕ) → Calls (collect_words first) collect_asked
unfolding clap_on_literals names_command rows_named
collect_calls first = (refl, refl, (refl, refl, refl, refl, refl, refl, refl), refl)

pub asked_collect : (first : List ℕ) (result : Result Call CallFault) → IsParseOf (collect_words first) result
    → IsAsked result collect_asked
asked_collect first result a = called (collect_words first) collect_asked result refl (collect_calls first) a

abbrev cpu_words : (first : List ℕ) → List Text
cpu_words first = first ∷ codes "collect" ∷ codes "3=a" ∷ codes "-" ∷ []

abbrev cpu_asked : Asked
cpu_asked = without_options ((3, codes "a") ∷ (1, codes "-") ∷ [])

cpu_calls : (first : List ℕ) → Calls (cpu_words first) cpu_asked
unfolding clap_on_literals names_command rows_named
cpu_calls first = (refl, refl, (refl, refl, refl, refl, refl, refl, refl), refl)

pub asked_cpu : (first : List ℕ) (result : Result Call CallFault) → IsParseOf (cpu_words first) result
    → IsAsked result cpu_asked
asked_cpu first result a = called (cpu_words first) cpu_asked result refl (cpu_calls first) a

abbrev flags_words : (first : List ℕ) → List Text
flags_words first = first ∷ codes "collect" ∷ codes "--json" ∷ codes "--names" ∷ codes "a" ∷ []

abbrev flags_asked : Asked
flags_asked = record (without_options ((0, codes "a") ∷ [])) { names = true; json = true }

flags_calls : (first : List ℕ) → Calls (flags_words first) flags_asked
unfolding clap_on_literals names_command rows_named
flags_calls first = (refl, refl, (refl, refl, refl, refl, refl, refl, refl), refl)

pub asked_flags : (first : List ℕ) (result : Result Call CallFault) → IsParseOf (flags_words first) result
    → IsAsked result flags_asked
asked_flags first result a = called (flags_words first) flags_asked result refl (flags_calls first) a

abbrev fields_words : (first : List ℕ) → List Text
fields_words first = first ∷ codes "collect" ∷ codes "--fields" ∷ codes "a" ∷ []

abbrev fields_asked : Asked
fields_asked = record (without_options ((0, codes "a") ∷ [])) { names = true; fields = true }

fields_calls : (first : List ℕ) → Calls (fields_words first) fields_asked
unfolding clap_on_literals names_command rows_named
fields_calls first = (refl, refl, (refl, refl, refl, refl, refl, refl, refl), refl)

pub asked_fields : (first : List ℕ) (result : Result Call CallFault) → IsParseOf (fields_words first) result
    → IsAsked result fields_asked
asked_fields first result a = called (fields_words first) fields_asked result refl (fields_calls first) a

abbrev page_words : (first : List ℕ) → List Text
page_words first = first ∷ codes "collect" ∷ codes "--page" ∷ codes "8192" ∷ codes "a" ∷ []

abbrev page_asked : Asked
page_asked = record (without_options ((0, codes "a") ∷ [])) { page = Some 8192 }

page_calls : (first : List ℕ) → Calls (page_words first) page_asked
unfolding clap_on_literals names_command rows_named
page_calls first = (refl, refl, (refl, refl, refl, refl, refl, refl, refl), refl)

pub asked_page : (first : List ℕ) (result : Result Call CallFault) → IsParseOf (page_words first) result
    → IsAsked result page_asked
asked_page first result a = called (page_words first) page_asked result refl (page_calls first) a

abbrev formats_words : (first : List ℕ) → List Text
formats_words first = first ∷ codes "collect" ∷ codes "a" ∷ codes "--formats" ∷ codes "d" ∷ codes "b" ∷ []

abbrev formats_asked : Asked
formats_asked =
    record (without_options ((0, codes "a") ∷ (1, codes "b") ∷ [])) { names = true; formats = Some (codes "d") }

formats_calls : (first : List ℕ) → Calls (formats_words first) formats_asked
unfolding clap_on_literals names_command rows_named
formats_calls first = (refl, refl, (refl, refl, refl, refl, refl, refl, refl), refl)

pub asked_formats : (first : List ℕ) (result : Result Call CallFault) → IsParseOf (formats_words first) result
    → IsAsked result formats_asked
asked_formats first result a = called (formats_words first) formats_asked result refl (formats_calls first) a

abbrev keep_words : (first : List ℕ) → List Text
keep_words first = first ∷ codes "collect" ∷ codes "--keep" ∷ codes "k" ∷ codes "--json" ∷ codes "a" ∷ []

abbrev keep_asked : Asked
keep_asked = record (without_options ((0, codes "a") ∷ [])) { json = true; keep = Some (codes "k") }

keep_calls : (first : List ℕ) → Calls (keep_words first) keep_asked
unfolding clap_on_literals names_command rows_named
keep_calls first = (refl, refl, (refl, refl, refl, refl, refl, refl, refl), refl)

pub asked_keep : (first : List ℕ) (result : Result Call CallFault) → IsParseOf (keep_words first) result
    → IsAsked result keep_asked
asked_keep first result a = called (keep_words first) keep_asked result refl (keep_calls first) a

abbrev parcels_words : (first : List ℕ) → List Text
parcels_words first = first ∷ codes "collect" ∷ codes "--parcels" ∷ codes "a" ∷ []

abbrev parcels_asked : Asked
parcels_asked = record (without_options ((0, codes "a") ∷ [])) { parcels = true }

parcels_calls : (first : List ℕ) → Calls (parcels_words first) parcels_asked
unfolding clap_on_literals names_command rows_named
parcels_calls first = (refl, refl, (refl, refl, refl, refl, refl, refl, refl), refl)

pub asked_parcels : (first : List ℕ) (result : Result Call CallFault) → IsParseOf (parcels_words first) result
    → IsAsked result parcels_asked
asked_parcels first result a = called (parcels_words first) parcels_asked result refl (parcels_calls first) a

abbrev follow_words : (first : List ℕ) → List Text
follow_words first =
    first ∷ codes "collect" ∷ codes "--follow" ∷ codes "--round" ∷ codes "250" ∷ codes "a" ∷ []

abbrev follow_asked : Asked
follow_asked = record (without_options ((0, codes "a") ∷ [])) { follow = true; round = Some 250 }

follow_calls : (first : List ℕ) → Calls (follow_words first) follow_asked
unfolding clap_on_literals names_command rows_named
follow_calls first = (refl, refl, (refl, refl, refl, refl, refl, refl, refl), refl)

pub asked_follow : (first : List ℕ) (result : Result Call CallFault) → IsParseOf (follow_words first) result
    → IsAsked result follow_asked
asked_follow first result a = called (follow_words first) follow_asked result refl (follow_calls first) a

abbrev tasks_words : (first : List ℕ) → List Text
tasks_words first = first ∷ codes "collect" ∷ codes "--tasks" ∷ codes "--symbols-from" ∷ codes "k" ∷ codes "a" ∷ []

abbrev tasks_asked : Asked
tasks_asked = record (without_options ((0, codes "a") ∷ [])) {
  names = true;
  fields = true;
  tasks = Some None;
  symbols = Some (Some (codes "k"));
}

tasks_calls : (first : List ℕ) → Calls (tasks_words first) tasks_asked
unfolding clap_on_literals names_command rows_named
tasks_calls first = (refl, refl, (refl, refl, refl, refl, refl, refl, refl), refl)

pub asked_tasks : (first : List ℕ) (result : Result Call CallFault) → IsParseOf (tasks_words first) result
    → IsAsked result tasks_asked
asked_tasks first result a = called (tasks_words first) tasks_asked result refl (tasks_calls first) a

abbrev symbols_words : (first : List ℕ) → List Text
symbols_words first = first ∷ codes "collect" ∷ codes "--symbols" ∷ codes "--tasks-from" ∷ codes "t" ∷ codes "a" ∷ []

abbrev symbols_asked : Asked
symbols_asked = record (without_options ((0, codes "a") ∷ [])) {
  names = true;
  fields = true;
  tasks = Some (Some (codes "t"));
  symbols = Some None;
}

symbols_calls : (first : List ℕ) → Calls (symbols_words first) symbols_asked
unfolding clap_on_literals names_command rows_named
symbols_calls first = (refl, refl, (refl, refl, refl, refl, refl, refl, refl), refl)

pub asked_symbols : (first : List ℕ) (result : Result Call CallFault) → IsParseOf (symbols_words first) result
    → IsAsked result symbols_asked
asked_symbols first result a = called (symbols_words first) symbols_asked result refl (symbols_calls first) a

abbrev part_words : (first : List ℕ) → List Text
part_words first =
    first ∷ codes "collect" ∷ codes "--cpu" ∷ codes "0,2-4" ∷ codes "--event" ∷ codes "s*"
    ∷ codes "--pid" ∷ codes "1,42" ∷ codes "a" ∷ []

abbrev part_asked : Asked
part_asked = record (without_options ((0, codes "a") ∷ [])) {
  cpus = Some (marks_from (codes "0,2-4") 0 MAX_CPUS);
  event = Some (codes "s*");
  pids = Some (pos 1 ∷ pos 42 ∷ []);
}

part_calls : (first : List ℕ) → Calls (part_words first) part_asked
unfolding clap_on_literals names_command rows_named
part_calls first = (refl, refl, (refl, refl, refl, refl, refl, refl, refl), refl)

pub asked_part : (first : List ℕ) (result : Result Call CallFault) → IsParseOf (part_words first) result
    → IsAsked result part_asked
asked_part first result a = called (part_words first) part_asked result refl (part_calls first) a

abbrev span_words : (first : List ℕ) → List Text
span_words first =
    first ∷ codes "collect" ∷ codes "--instance" ∷ codes "i" ∷ codes "--since" ∷ codes "5"
    ∷ codes "--until" ∷ codes "9" ∷ codes "a" ∷ []

abbrev span_asked : Asked
span_asked = record (without_options ((0, codes "a") ∷ [])) {
  instance = Some (codes "i");
  since = Some 5;
  until = Some 9;
}

span_calls : (first : List ℕ) → Calls (span_words first) span_asked
unfolding clap_on_literals names_command rows_named
span_calls first = (refl, refl, (refl, refl, refl, refl, refl, refl, refl), refl)

pub asked_span : (first : List ℕ) (result : Result Call CallFault) → IsParseOf (span_words first) result
    → IsAsked result span_asked
asked_span first result a = called (span_words first) span_asked result refl (span_calls first) a

-- behind `--` there are files alone
abbrev dashes_words : (first : List ℕ) → List Text
dashes_words first = first ∷ codes "collect" ∷ codes "--" ∷ codes "--help" ∷ []

abbrev dashes_asked : Asked
dashes_asked = without_options ((0, codes "--help") ∷ [])

dashes_calls : (first : List ℕ) → Calls (dashes_words first) dashes_asked
unfolding clap_on_literals names_command rows_named
dashes_calls first = (refl, refl, (refl, refl, refl, refl, refl, refl, refl), refl)

pub asked_dashes : (first : List ℕ) (result : Result Call CallFault) → IsParseOf (dashes_words first) result
    → IsAsked result dashes_asked
asked_dashes first result a = called (dashes_words first) dashes_asked result refl (dashes_calls first) a

high_named : (first : List ℕ) → names_command (first ∷ codes "collect" ∷ codes "256=a" ∷ []) ≡ Some (codes "collect")
unfolding clap_on_literals names_command
high_named first = refl

high_unread : (first : List ℕ) → AreUnread (rows_named (first ∷ codes "collect" ∷ codes "256=a" ∷ []))
unfolding clap_on_literals rows_named
high_unread first = inr (inr (inr (inr refl)))

pub refused_high : (first : List ℕ) (result : Result Call CallFault)
    → IsParseOf (first ∷ codes "collect" ∷ codes "256=a" ∷ []) result → (result ≡ Err Usage) ⊎ (result ≡ Err NoMemory)
refused_high first result a =
    unreadable (first ∷ codes "collect" ∷ codes "256=a" ∷ []) (high_named first) result (high_unread first) a

small_named : (first : List ℕ)
    → names_command (first ∷ codes "collect" ∷ codes "--page" ∷ codes "47" ∷ codes "a" ∷ []) ≡ Some (codes "collect")
unfolding clap_on_literals names_command
small_named first = refl

small_unread : (first : List ℕ)
    → AreUnread (rows_named (first ∷ codes "collect" ∷ codes "--page" ∷ codes "47" ∷ codes "a" ∷ []))
unfolding clap_on_literals rows_named
small_unread first = inl refl

pub refused_small : (first : List ℕ) (result : Result Call CallFault)
    → IsParseOf (first ∷ codes "collect" ∷ codes "--page" ∷ codes "47" ∷ codes "a" ∷ []) result
    → (result ≡ Err Usage) ⊎ (result ≡ Err NoMemory)
refused_small first result a =
    unreadable (first ∷ codes "collect" ∷ codes "--page" ∷ codes "47" ∷ codes "a" ∷ []) (small_named first) result
    (small_unread first) a

inputs_named : (first : List ℕ)
    → names_command (first ∷ codes "collect" ∷ codes "-" ∷ codes "3=-" ∷ []) ≡ Some (codes "collect")
unfolding clap_on_literals names_command
inputs_named first = refl

inputs_unread : (first : List ℕ) → AreUnread (rows_named (first ∷ codes "collect" ∷ codes "-" ∷ codes "3=-" ∷ []))
unfolding clap_on_literals rows_named
inputs_unread first = inr (inr (inr (inr refl)))

pub refused_inputs : (first : List ℕ) (result : Result Call CallFault)
    → IsParseOf (first ∷ codes "collect" ∷ codes "-" ∷ codes "3=-" ∷ []) result
    → (result ≡ Err Usage) ⊎ (result ≡ Err NoMemory)
refused_inputs first result a =
    unreadable (first ∷ codes "collect" ∷ codes "-" ∷ codes "3=-" ∷ []) (inputs_named first) result
    (inputs_unread first) a

none_refused : (first : List ℕ) → IsAccepted (first ∷ codes "collect" ∷ []) → ⊥
unfolding clap_on_literals
none_refused first accepted = cc

pub refused_none : (first : List ℕ) (result : Result Call CallFault) → IsParseOf (first ∷ codes "collect" ∷ []) result
    → (result ≡ Err Usage) ⊎ (result ≡ Err NoMemory)
refused_none first (Ok call) a = absurd (none_refused first (a.accepted call refl))
refused_none first (Err Usage) a = inl refl
refused_none first (Err NoMemory) a = inr refl

abbrev falling_words : (first : List ℕ) → List Text
falling_words first = first ∷ codes "collect" ∷ codes "--cpu" ∷ codes "4-2" ∷ codes "a" ∷ []

falling_named : (first : List ℕ) → names_command (falling_words first) ≡ Some (codes "collect")
unfolding clap_on_literals names_command
falling_named first = refl

falling_unread : (first : List ℕ) → AreUnread (rows_named (falling_words first))
unfolding clap_on_literals rows_named
falling_unread first = inr (inl (inl refl))

pub refused_falling : (first : List ℕ) (result : Result Call CallFault) → IsParseOf (falling_words first) result
    → (result ≡ Err Usage) ⊎ (result ≡ Err NoMemory)
refused_falling first result a = unreadable (falling_words first) (falling_named first) result (falling_unread first) a

abbrev backwards_words : (first : List ℕ) → List Text
backwards_words first =
    first ∷ codes "collect" ∷ codes "--since" ∷ codes "9" ∷ codes "--until" ∷ codes "5" ∷ codes "a" ∷ []

backwards_named : (first : List ℕ) → names_command (backwards_words first) ≡ Some (codes "collect")
unfolding clap_on_literals names_command
backwards_named first = refl

backwards_unread : (first : List ℕ) → AreUnread (rows_named (backwards_words first))
unfolding clap_on_literals rows_named
backwards_unread first = inr (inl (inr (inl refl)))

pub refused_backwards : (first : List ℕ) (result : Result Call CallFault) → IsParseOf (backwards_words first) result
    → (result ≡ Err Usage) ⊎ (result ≡ Err NoMemory)
refused_backwards first result a =
    unreadable (backwards_words first) (backwards_named first) result (backwards_unread first) a

abbrev empty_pid_words : (first : List ℕ) → List Text
empty_pid_words first = first ∷ codes "collect" ∷ codes "--pid" ∷ codes "1,,2" ∷ codes "a" ∷ []

empty_pid_named : (first : List ℕ) → names_command (empty_pid_words first) ≡ Some (codes "collect")
unfolding clap_on_literals names_command
empty_pid_named first = refl

empty_pid_unread : (first : List ℕ) → AreUnread (rows_named (empty_pid_words first))
unfolding clap_on_literals rows_named
empty_pid_unread first = inr (inl (inr (inr (inr refl))))

pub refused_empty_pid : (first : List ℕ) (result : Result Call CallFault) → IsParseOf (empty_pid_words first) result
    → (result ≡ Err Usage) ⊎ (result ≡ Err NoMemory)
refused_empty_pid first result a =
    unreadable (empty_pid_words first) (empty_pid_named first) result (empty_pid_unread first) a

abbrev no_round_words : (first : List ℕ) → List Text
no_round_words first = first ∷ codes "collect" ∷ codes "--follow" ∷ codes "--round" ∷ codes "0" ∷ codes "a" ∷ []

no_round_named : (first : List ℕ) → names_command (no_round_words first) ≡ Some (codes "collect")
unfolding clap_on_literals names_command
no_round_named first = refl

no_round_unread : (first : List ℕ) → AreUnread (rows_named (no_round_words first))
unfolding clap_on_literals rows_named
no_round_unread first = inr (inr (inr (inl refl)))

pub refused_no_round : (first : List ℕ) (result : Result Call CallFault) → IsParseOf (no_round_words first) result
    → (result ≡ Err Usage) ⊎ (result ≡ Err NoMemory)
refused_no_round first result a =
    unreadable (no_round_words first) (no_round_named first) result (no_round_unread first) a

abbrev follow_since_words : (first : List ℕ) → List Text
follow_since_words first = first ∷ codes "collect" ∷ codes "--since" ∷ codes "5" ∷ codes "--follow" ∷ codes "a" ∷ []

abbrev follow_since_said : Asked
follow_since_said = record (without_options ((0, codes "a") ∷ [])) { since = Some 5; follow = true }

follow_since_calls : (first : List ℕ) → Calls (follow_since_words first) follow_since_said
unfolding clap_on_literals names_command rows_named
follow_since_calls first = (refl, refl, (refl, refl, refl, refl, refl, refl, refl), refl)

pub refused_follow_since : (first : List ℕ) (result : Result Call CallFault)
    → IsParseOf (follow_since_words first) result → (result ≡ Err Usage) ⊎ (result ≡ Err NoMemory)
refused_follow_since first result a =
    not_called (follow_since_words first) follow_since_said result refl (follow_since_calls first) a

abbrev round_words : (first : List ℕ) → List Text
round_words first = first ∷ codes "collect" ∷ codes "--round" ∷ codes "250" ∷ codes "a" ∷ []

abbrev round_said : Asked
round_said = record (without_options ((0, codes "a") ∷ [])) { round = Some 250 }

round_calls : (first : List ℕ) → Calls (round_words first) round_said
unfolding clap_on_literals names_command rows_named
round_calls first = (refl, refl, (refl, refl, refl, refl, refl, refl, refl), refl)

pub refused_round : (first : List ℕ) (result : Result Call CallFault) → IsParseOf (round_words first) result
    → (result ≡ Err Usage) ⊎ (result ≡ Err NoMemory)
refused_round first result a = not_called (round_words first) round_said result refl (round_calls first) a
