-- What a file of trace-cmd holds, as contracts see it.
use Rattle.std.specs.Prelude.{ℕ, List, map, Option}
use Rattle.std.specs.Option.{option_map}
use Rattle.trace_dat.specs.declared.fault.Fault.{Fault}
use Rattle.trace_dat.specs.declared.contents.Format.{Format}
use Rattle.trace_dat.specs.declared.contents.CpuPages.{CpuPages}
use Rattle.trace_dat.specs.declared.contents.Buffer.{Buffer}
use Rattle.trace_dat.specs.declared.contents.TraceDat.{TraceDat}

-- the text of an event's format, and the name of its system
pub record EventFormat : Type 0 where
  pub system : List ℕ
  pub text : List ℕ

-- the pages of a CPU, one after the other: those of their bytes that the file has, and the fault if it ends before they
-- do
pub record Recorded : Type 0 where
  pub cpu : ℕ
  pub pages : List ℕ
  pub fault : Option Fault

-- a trace buffer: the main one, without a name, or an instance
pub record TraceBuffer : Type 0 where
  pub name : List ℕ
  pub page_size : ℕ
  pub cpus : List Recorded

-- what a file holds
pub record Contents : Type 0 where
  pub formats : List EventFormat
  pub buffers : List TraceBuffer
  pub counters : List (List ℕ)
  pub symbols : List (List ℕ)
  pub tasks : List (List ℕ)
  pub machine : Option (List ℕ)

-- a format without its place in memory
abbrev pub format_seen : Format → EventFormat
format_seen format = record { system = format.system.now; text = format.text.now }

abbrev pub recorded_seen : CpuPages → Recorded
recorded_seen pages = record { cpu = pages.cpu; pages = pages.pages.now; fault = pages.fault }

abbrev pub buffer_seen : Buffer → TraceBuffer
buffer_seen buffer = record {
  name = buffer.name.now;
  page_size = buffer.page_size;
  cpus = map recorded_seen buffer.cpus.items;
}

abbrev pub contents_seen : TraceDat → Contents
contents_seen dat = record {
  formats = map format_seen dat.formats.items;
  buffers = map buffer_seen dat.buffers.items;
  counters = map (λ text. text.now) dat.counters.items;
  symbols = map (λ text. text.now) dat.symbols.items;
  tasks = map (λ text. text.now) dat.tasks.items;
  machine = option_map (λ text. text.now) dat.machine;
}
