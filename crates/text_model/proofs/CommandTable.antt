-- Fields are read as a command exactly where they spell it.
use Rattle.std.proofs.Common.{◌≡◌, ℕ, true, List, [], ◌∷◌, codes, Result, Ok, Err, sym, ◌∙◌, ap, subst}
use Rattle.std.specs.Str.{bytes_eq}
use Rattle.std.proofs.lemmas.Bool.{cond-false}
use Rattle.text_model.specs.ScriptLines.{LineFault, bad_line, ◌>>=◌, decimal_in, number_below, cpu_in, payload_in}
use Rattle.text_model.proofs.FieldWords.{same_word, cpu_is_no_delivery}
use Rattle.text_model.specs.Script.{Command, begin_frame, step_frame, finish_frame, write, close, step_reader}
use Rattle.text_model.specs.Script.{take_page, wish, deliver, count_in, command_of, SpellsRecord, SpellsOfCpu}
use Rattle.text_model.specs.Script.{SpellsSteps, SpellsCommand}
use Rattle.text_model.specs.CommandReading.{record_in, of_cpu, steps_in, deliver_in}
use Rattle.text_model.proofs.Readings.{ok_is_no_err, same_ok, bind_ok, chosen}

-- what is read, or what is wrong
abbrev Read : Type 0 → Type 0
Read X = Result X LineFault

abbrev Field : Type 0
Field = List ℕ

bad_is_no_command : (command : Command) → (let r : Read Command = Err bad_line in r ≡ Ok command) → ⊥
bad_is_no_command command h = ok_is_no_err command bad_line (sym h)

-- ---- what is read is spelled
of_cpu_spelled : (cpus : ℕ) (make : ℕ → Command) (first second word : Field) (command : Command)
    → bytes_eq second word ≡ true → of_cpu cpus make first ≡ Ok command
    → (cpu : ℕ) × (make cpu ≡ command) × SpellsOfCpu cpus word cpu (first ∷ second ∷ [])
unfolding of_cpu
of_cpu_spelled cpus make first second word command is h =
    let cpu = bind_ok (cpu_in cpus first) (λ cpu. let r : Read Command = Ok (make cpu) in r) command h in (
      cpu.0,
      same_ok (make cpu.0) command cpu.2,
      (first, ap (λ (w : Field). first ∷ w ∷ []) (same_word second word is), cpu.1),
    )

steps_spelled : (cpus : ℕ) (make : ℕ → ℕ → Command) (first second third word : Field) (command : Command)
    → bytes_eq second word ≡ true → steps_in cpus make first third ≡ Ok command
    → (cpu : ℕ) × (count : ℕ) × (make cpu count ≡ command) × SpellsSteps cpus word cpu count
    (first ∷ second ∷ third ∷ [])
unfolding steps_in
steps_spelled cpus make first second third word command is h =
    let cpu =
    bind_ok (cpu_in cpus first) (λ cpu. count_in third >>= λ count. let r : Read Command = Ok (make cpu count) in r)
    command h in
    let count = bind_ok (count_in third) (λ count. let r : Read Command = Ok (make cpu.0 count) in r) command cpu.2 in
    let line = ap (λ (w : Field). first ∷ w ∷ third ∷ []) (same_word second word is) in
    (cpu.0, count.0, same_ok (make cpu.0 count.0) command count.2, (first, third, line, cpu.1, count.1))

record_spelled : (cpus : ℕ) (make : ℕ → ℕ → List ℕ → Command) (first second third fourth word : Field)
    (command : Command)
    → bytes_eq second word ≡ true → record_in cpus make first third fourth ≡ Ok command
    → (cpu : ℕ) × (moment : ℕ) × (payload : List ℕ) × (make cpu moment payload ≡ command)
    × SpellsRecord cpus word cpu moment payload (first ∷ second ∷ third ∷ fourth ∷ [])
unfolding record_in
record_spelled cpus make first second third fourth word command is h =
    let cpu =
    bind_ok (cpu_in cpus first) (λ cpu. decimal_in third >>= λ moment. payload_in fourth >>= λ payload.
    let r : Read Command = Ok (make cpu moment payload) in r) command h in
    let moment =
    bind_ok (decimal_in third) (λ moment. payload_in fourth >>= λ payload.
    let r : Read Command = Ok (make cpu.0 moment payload) in r) command cpu.2 in
    let payload =
    bind_ok (payload_in fourth) (λ payload. let r : Read Command = Ok (make cpu.0 moment.0 payload) in r) command
    moment.2 in
    let line = ap (λ (w : Field). first ∷ w ∷ third ∷ fourth ∷ []) (same_word second word is) in (
      cpu.0,
      moment.0,
      payload.0,
      same_ok (make cpu.0 moment.0 payload.0) command payload.2,
      (first, third, fourth, line, cpu.1, moment.1, payload.1),
    )

deliver_spelled : (cpus collectors : ℕ) (first second third fourth : Field) (command : Command)
    → bytes_eq first (codes "d") ≡ true → deliver_in cpus collectors second third fourth ≡ Ok command
    → (collector : ℕ) × (cpu : ℕ) × (fill : ℕ) × (deliver collector cpu fill ≡ command)
    × SpellsCommand cpus collectors (deliver collector cpu fill) (first ∷ second ∷ third ∷ fourth ∷ [])
unfolding deliver_in
deliver_spelled cpus collectors first second third fourth command is h =
    let collector =
    bind_ok (number_below collectors second)
    (λ collector. cpu_in cpus third >>= λ cpu. decimal_in fourth >>= λ fill.
    let r : Read Command = Ok (deliver collector cpu fill) in r) command h in
    let cpu =
    bind_ok (cpu_in cpus third) (λ cpu. decimal_in fourth >>= λ fill.
    let r : Read Command = Ok (deliver collector.0 cpu fill) in r) command collector.2 in
    let fill =
    bind_ok (decimal_in fourth) (λ fill. let r : Read Command = Ok (deliver collector.0 cpu.0 fill) in r) command
    cpu.2 in
    let line = ap (λ (w : Field). w ∷ second ∷ third ∷ fourth ∷ []) (same_word first (codes "d") is) in (
      collector.0,
      cpu.0,
      fill.0,
      same_ok (deliver collector.0 cpu.0 fill.0) command fill.2,
      (second, third, fourth, line, collector.1, cpu.1, fill.1),
    )

pub command_spelled : (cpus collectors : ℕ) (fields : List Field) (command : Command)
    → command_of cpus collectors fields ≡ Ok command → SpellsCommand cpus collectors command fields
unfolding command_of of_cpu steps_in record_in deliver_in
command_spelled cpus collectors [] command h = absurd (bad_is_no_command command h)
command_spelled cpus collectors (first ∷ []) command h = absurd (bad_is_no_command command h)
command_spelled cpus collectors (first ∷ second ∷ []) command h =
    let spells : Command → Type 0 = λ command. SpellsCommand cpus collectors command (first ∷ second ∷ []) in
    chosen (bytes_eq second (codes "f")) (of_cpu cpus finish_frame first) _ command
    (λ is read. let s = of_cpu_spelled cpus finish_frame first second (codes "f") command is read in
    subst spells s.1 s.2) (λ h.
    chosen (bytes_eq second (codes "c")) (of_cpu cpus close first) _ command
    (λ is read. let s = of_cpu_spelled cpus close first second (codes "c") command is read in subst spells s.1 s.2)
    (λ h.
    chosen (bytes_eq second (codes "t")) (of_cpu cpus take_page first) _ command
    (λ is read. let s = of_cpu_spelled cpus take_page first second (codes "t") command is read in
    subst spells s.1 s.2) (λ h.
    chosen (bytes_eq second (codes "a")) (of_cpu cpus wish first) _ command
    (λ is read. let s = of_cpu_spelled cpus wish first second (codes "a") command is read in subst spells s.1 s.2)
    (λ h.
    absurd (bad_is_no_command command h)) h) h) h) h
command_spelled cpus collectors (first ∷ second ∷ third ∷ []) command h =
    let spells : Command → Type 0 = λ command. SpellsCommand cpus collectors command (first ∷ second ∷ third ∷ []) in
    chosen (bytes_eq second (codes "s")) (steps_in cpus step_frame first third) _ command
    (λ is read. let s = steps_spelled cpus step_frame first second third (codes "s") command is read in
    subst spells s.2 s.3) (λ h.
    chosen (bytes_eq second (codes "r")) (steps_in cpus step_reader first third) _ command
    (λ is read. let s = steps_spelled cpus step_reader first second third (codes "r") command is read in
    subst spells s.2 s.3) (λ h.
    absurd (bad_is_no_command command h)) h) h
command_spelled cpus collectors (first ∷ second ∷ third ∷ fourth ∷ []) command h =
    let spells : Command → Type 0 =
    λ command. SpellsCommand cpus collectors command (first ∷ second ∷ third ∷ fourth ∷ []) in
    chosen (bytes_eq first (codes "d")) (deliver_in cpus collectors second third fourth) _ command
    (λ is read. let s = deliver_spelled cpus collectors first second third fourth command is read in
    subst spells s.3 s.4) (λ h.
    chosen (bytes_eq second (codes "b")) (record_in cpus begin_frame first third fourth) _ command
    (λ is read. let s = record_spelled cpus begin_frame first second third fourth (codes "b") command is read in
    subst spells s.3 s.4) (λ h.
    chosen (bytes_eq second (codes "w")) (record_in cpus write first third fourth) _ command
    (λ is read. let s = record_spelled cpus write first second third fourth (codes "w") command is read in
    subst spells s.3 s.4) (λ h.
    absurd (bad_is_no_command command h)) h) h) h
command_spelled cpus collectors (first ∷ second ∷ third ∷ fourth ∷ fifth ∷ fields) command h =
    absurd (bad_is_no_command command h)

-- ---- what is spelled is read
of_cpu_read : (cpus : ℕ) (make : ℕ → Command) (x : Field) (cpu : ℕ) → cpu_in cpus x ≡ Ok cpu
    → of_cpu cpus make x ≡ Ok (make cpu)
unfolding of_cpu
of_cpu_read cpus make x cpu h = ap (λ (r : Read ℕ). r >>= λ cpu. let c : Read Command = Ok (make cpu) in c) h

steps_read : (cpus : ℕ) (make : ℕ → ℕ → Command) (x k : Field) (cpu count : ℕ)
    → cpu_in cpus x ≡ Ok cpu → count_in k ≡ Ok count → steps_in cpus make x k ≡ Ok (make cpu count)
unfolding steps_in
steps_read cpus make x k cpu count h i =
    ap (λ (r : Read ℕ). r >>= λ cpu. count_in k >>= λ count. let c : Read Command = Ok (make cpu count) in c) h
    ∙ ap (λ (r : Read ℕ). r >>= λ count. let c : Read Command = Ok (make cpu count) in c) i

record_read : (cpus : ℕ) (make : ℕ → ℕ → List ℕ → Command) (x t hex : Field) (cpu moment : ℕ) (payload : List ℕ)
    → cpu_in cpus x ≡ Ok cpu → decimal_in t ≡ Ok moment → payload_in hex ≡ Ok payload
    → record_in cpus make x t hex ≡ Ok (make cpu moment payload)
unfolding record_in
record_read cpus make x t hex cpu moment payload h i j =
    ap (λ (r : Read ℕ). r >>= λ cpu. decimal_in t >>= λ moment. payload_in hex >>= λ payload.
    let c : Read Command = Ok (make cpu moment payload) in c) h
    ∙ ap (λ (r : Read ℕ). r >>= λ moment. payload_in hex >>= λ payload.
    let c : Read Command = Ok (make cpu moment payload) in c) i
    ∙ ap (λ (r : Read Field). r >>= λ payload. let c : Read Command = Ok (make cpu moment payload) in c) j

deliver_read : (cpus collectors : ℕ) (k x f : Field) (collector cpu fill : ℕ)
    → number_below collectors k ≡ Ok collector → cpu_in cpus x ≡ Ok cpu → decimal_in f ≡ Ok fill
    → deliver_in cpus collectors k x f ≡ Ok (deliver collector cpu fill)
unfolding deliver_in
deliver_read cpus collectors k x f collector cpu fill h i j =
    ap (λ (r : Read ℕ). r >>= λ collector. cpu_in cpus x >>= λ cpu. decimal_in f >>= λ fill.
    let c : Read Command = Ok (deliver collector cpu fill) in c) h
    ∙ ap (λ (r : Read ℕ). r >>= λ cpu. decimal_in f >>= λ fill.
    let c : Read Command = Ok (deliver collector cpu fill) in c) i
    ∙ ap (λ (r : Read ℕ). r >>= λ fill. let c : Read Command = Ok (deliver collector cpu fill) in c) j

pub spelled_command : (cpus collectors : ℕ) (fields : List Field) (command : Command)
    → SpellsCommand cpus collectors command fields → command_of cpus collectors fields ≡ Ok command
unfolding command_of of_cpu steps_in record_in deliver_in
spelled_command cpus collectors fields (begin_frame cpu moment payload) h =
    ap (command_of cpus collectors) h.3
    ∙ cond-false (bytes_eq h.0 (codes "d")) _ _ (cpu_is_no_delivery cpus cpu h.0 h.4)
    ∙ record_read cpus begin_frame h.0 h.1 h.2 cpu moment payload h.4 h.5 h.6
spelled_command cpus collectors fields (step_frame cpu count) h =
    ap (command_of cpus collectors) h.2 ∙ steps_read cpus step_frame h.0 h.1 cpu count h.3 h.4
spelled_command cpus collectors fields (finish_frame cpu) h =
    ap (command_of cpus collectors) h.1 ∙ of_cpu_read cpus finish_frame h.0 cpu h.2
spelled_command cpus collectors fields (write cpu moment payload) h =
    ap (command_of cpus collectors) h.3
    ∙ cond-false (bytes_eq h.0 (codes "d")) _ _ (cpu_is_no_delivery cpus cpu h.0 h.4)
    ∙ record_read cpus write h.0 h.1 h.2 cpu moment payload h.4 h.5 h.6
spelled_command cpus collectors fields (close cpu) h =
    ap (command_of cpus collectors) h.1 ∙ of_cpu_read cpus close h.0 cpu h.2
spelled_command cpus collectors fields (step_reader cpu count) h =
    ap (command_of cpus collectors) h.2 ∙ steps_read cpus step_reader h.0 h.1 cpu count h.3 h.4
spelled_command cpus collectors fields (take_page cpu) h =
    ap (command_of cpus collectors) h.1 ∙ of_cpu_read cpus take_page h.0 cpu h.2
spelled_command cpus collectors fields (wish cpu) h =
    ap (command_of cpus collectors) h.1 ∙ of_cpu_read cpus wish h.0 cpu h.2
spelled_command cpus collectors fields (deliver collector cpu fill) h =
    ap (command_of cpus collectors) h.3
    ∙ deliver_read cpus collectors h.0 h.1 h.2 collector cpu fill h.4 h.5 h.6
