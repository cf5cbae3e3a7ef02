-- The counters of a CPU's ring, as the kernel prints them (kernel/trace/trace.c, tracing_stats_read).
use Rattle.std.specs.Prelude.{ℕ, List, [], ◌∷◌, Option, unwrap_or, codes, bytes_eq, if◌then◌else◌}
use Rattle.std.specs.Option.{option_and_then, option_map}
use Rattle.trace_dat.specs.declared.kernel_texts.counters.Counters.{Counters}
use Rattle.trace_dat.specs.kernel_texts.Lines.{value_in, number_in}

-- the number behind this beginning of a line, or 0 if there is none
unfoldable pub count_in : (key text : List ℕ) → ℕ
count_in key text = unwrap_or (option_and_then number_in (value_in key text)) 0

-- the CPU and what is counted: the CPU and the records that were overwritten have a line, the others may have one
unfoldable pub counters_in : List ℕ → Option Counters
counters_in text =
    option_and_then (λ cpu. option_map (λ overrun. record {
      cpu = cpu;
      overrun = overrun;
      commit_overrun = count_in (codes "commit overrun: ") text;
      dropped = count_in (codes "dropped events: ") text;
    })
    (option_and_then number_in (value_in (codes "overrun: ") text)))
    (option_and_then number_in (value_in (codes "CPU: ") text))

-- The instance whose counters are in the texts after this one, which trace-cmd puts before them: a line has its name.
abbrev pub instance_in : List ℕ → Option (List ℕ)
instance_in text = value_in (codes "Buffer: ") text

-- the buffer whose counters are in the texts from this one on, if this was the buffer before it
abbrev pub buffer_from : (before text : List ℕ) → List ℕ
buffer_from before text = unwrap_or (instance_in text) before

-- of texts those that are of the buffer of this name, if the first of them is of the buffer before it
abbrev pub texts_from : (before name : List ℕ) → List (List ℕ) → List (List ℕ)
texts_from before name [] = []
texts_from before name (text ∷ texts) =
    if bytes_eq (buffer_from before text) name then text ∷ texts_from (buffer_from before text) name texts
    else texts_from (buffer_from before text) name texts

-- Of the texts in a file those that are of the buffer of this name: the first ones are of the main buffer, whose name
-- is empty.
abbrev pub texts_of : (name : List ℕ) → List (List ℕ) → List (List ℕ)
texts_of name texts = texts_from [] name texts
