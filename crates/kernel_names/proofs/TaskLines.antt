-- The names of processes, as lines come one after the other.
use Rattle.std.proofs.Common.{◌≡◌, ℕ, ◌<◌, List, [], ◌∷◌, ◌++◌, length, take, Option, Some, None, MatchOption, Bor}
use Rattle.std.proofs.Common.{refl, sym, ap, subst, ◌∙◌, append_assoc, arith, length-append}
use Rattle.std.proofs.lemmas.List.{append-nil}
use Rattle.std.proofs.Math.Seq.{take-append_seam}
use Rattle.std.specs.Option.{option_or}
use Rattle.std.specs.Prelude.{Result, Ok, Err, OnErr}
use Rattle.event_fields.specs.Texts.{parts_of}
use Rattle.kernel_names.specs.declared.tasks.TaskNames.{TaskNames}
use Rattle.kernel_names.specs.Tasks.{task_in, name_under, task_by, known_name, HasTasks, HasTasksOfSome}

regroup : (a b c : Option (List ℕ)) → option_or (option_or a b) c ≡ option_or a (option_or b c)
regroup (Some x) b c = refl
regroup None b c = refl

before_none : (a : Option (List ℕ)) → a ≡ option_or a None
before_none (Some x) = refl
before_none None = refl

-- the name of a process, by a line more
by_more : (pid : ℕ) (lines : List (List ℕ)) (line : List ℕ)
    → task_by pid (lines ++ line ∷ []) ≡ option_or (name_under pid (task_in line)) (task_by pid lines)
by_more pid [] line = before_none (name_under pid (task_in line))
by_more pid (l ∷ lines) line =
    ap (λ n. option_or n (name_under pid (task_in l))) (by_more pid lines line)
    ∙ regroup (name_under pid (task_in line)) (task_by pid lines) (name_under pid (task_in l))

-- what a line adds to what is known
abbrev pub Adds : List ℕ → (old new : TaskNames) → Type 0
Adds line old new =
    (pid : ℕ) → known_name new pid ≡ option_or (name_under pid (task_in line)) (known_name old pid)

adds_one : (lines : List (List ℕ)) (line : List ℕ) (old new : TaskNames) → Adds line old new → HasTasks old lines
    → HasTasks new (lines ++ line ∷ [])
adds_one lines line old new adds has = λ pid.
    adds pid ∙ ap (option_or (name_under pid (task_in line))) (has pid) ∙ sym (by_more pid lines line)

-- the first lines of a text are added, and these are left
pub record HasPassed (text left : List ℕ) (old now : TaskNames) : Type 0 where
  pub front : List (List ℕ)
  pub parts : parts_of 10 text ≡ front ++ parts_of 10 left
  pub has : (known : List (List ℕ)) → HasTasks old known → HasTasks now (known ++ front)

pub none_passed : (text : List ℕ) (names : TaskNames) → HasPassed text text names names
none_passed text names = record {
  front = [];
  parts = refl;
  has = λ known has. subst (HasTasks names) (sym (append-nil known)) has;
}

one_added : (text left line : List ℕ) (old now new : TaskNames) (passed : HasPassed text left old now)
    → Adds line now new
    → (known : List (List ℕ)) → HasTasks old known → HasTasks new (known ++ (passed.front ++ line ∷ []))
one_added text left line old now new passed adds known has =
    subst (HasTasks new) (append_assoc known passed.front (line ∷ []))
    (adds_one (known ++ passed.front) line now new adds (passed.has known has))

pub one_passed : (text left line rest : List ℕ) (old now new : TaskNames) → HasPassed text left old now
    → parts_of 10 left ≡ line ∷ parts_of 10 rest → Adds line now new → HasPassed text rest old new
one_passed text left line rest old now new passed cut adds = record {
  front = passed.front ++ line ∷ [];
  parts =
      passed.parts ∙ ap (λ ls. passed.front ++ ls) cut
      ∙ sym (append_assoc passed.front (line ∷ []) (parts_of 10 rest));
  has = one_added text left line old now new passed adds;
}

pub all_passed : (text left line : List ℕ) (old now new : TaskNames) → HasPassed text left old now
    → parts_of 10 left ≡ line ∷ [] → Adds line now new
    → (known : List (List ℕ)) → HasTasks old known → HasTasks new (known ++ parts_of 10 text)
all_passed text left line old now new passed cut adds known has =
    subst (λ ls. HasTasks new (known ++ ls)) (sym (passed.parts ∙ ap (λ ls. passed.front ++ ls) cut))
    (one_added text left line old now new passed adds known has)

-- ---- the same, in the words of `part_cut`
-- what it says of a line and of what is after it
abbrev pub IsCut : List ℕ → List ℕ → Option (Bor (List ℕ)) → Type 0
IsCut text line rest = MatchOption rest (parts_of 10 text ≡ line ∷ [])
    (λ r. parts_of 10 text ≡ line ∷ parts_of 10 r.now)

pub passes : (text left line : List ℕ) (rest : Option (Bor (List ℕ))) (r : Bor (List ℕ)) (old now new : TaskNames)
    → rest ≡ Some r → IsCut left line rest → HasPassed text left old now → Adds line now new
    → HasPassed text r.now old new
passes text left line rest r old now new some cut passed =
    one_passed text left line r.now old now new passed (subst (IsCut left line) some cut)

pub ends : (text left line : List ℕ) (rest : Option (Bor (List ℕ))) (old now new : TaskNames)
    → rest ≡ None → IsCut left line rest → HasPassed text left old now → Adds line now new
    → (known : List (List ℕ)) → HasTasks old known → HasTasks new (known ++ parts_of 10 text)
ends text left line rest old now new none cut passed =
    all_passed text left line old now new passed (subst (IsCut left line) none cut)

-- one line at least is left
some_left : (left line : List ℕ) (rest : Option (Bor (List ℕ))) → IsCut left line rest
    → 0 < length (parts_of 10 left)
some_left left line None cut = let len = ap length cut in omega (arith, len)
some_left left line (Some r) cut = let len = ap length cut in omega (arith, len)

pub stops : (text left line : List ℕ) (rest : Option (Bor (List ℕ))) (old now new : TaskNames)
    → IsCut left line rest → HasPassed text left old now
    → ((pid : ℕ) → known_name new pid ≡ known_name now pid)
    → (known : List (List ℕ)) → HasTasks old known → HasTasksOfSome new known (parts_of 10 text)
stops text left line rest old now new cut passed same known has = (
  length passed.front,
  (let some = some_left left line rest cut in
      let len = ap length passed.parts ∙ length-append passed.front (parts_of 10 left) in
      omega (arith, some, len)),
  (let front : take (length passed.front) (parts_of 10 text) ≡ passed.front =
      ap (take (length passed.front)) passed.parts ∙ take-append_seam passed.front (parts_of 10 left) in
      λ pid. same pid ∙ passed.has known has pid ∙ sym (ap (λ ls. task_by pid (known ++ ls)) front)),
)

pub on_err : {A E P : Type 0} (result : Result A E) → P → OnErr result P
on_err (Ok x) p = tt
on_err (Err e) p = p
