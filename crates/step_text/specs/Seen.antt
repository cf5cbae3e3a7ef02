-- What is kept of a ring, in the words of the models.
use Rattle.std.specs.Prelude.{◌≡◌, length, Option, Some, None}
use Rattle.trace_model.specs.History.{last_moment, reserved_records}
use Rattle.trace_model.specs.Frames as model
use Rattle.trace_model.specs.Ring.{Core}
use Rattle.link_marks.specs.ModelLinks.{link_of}
use Rattle.nested_writer.specs.Stack.{kind_of}
use Rattle.ring_frames.specs.Value.{phase_of}
use Rattle.ring_frames.specs.ReaderPhases.{reader_phase_of}
use Rattle.ring_frames.specs.declared.reader.TakeState.{TakeState}
use Rattle.step_model.specs.Seen.{ReaderSeen, CountsSeen, reader_seen, counts_seen}
use Rattle.step_model.specs.StepCounts.{records_in}
use Rattle.script_replay.specs.Known.{top_frame}
use Rattle.step_text.specs.declared.seen.FrameState.{FrameState}
use Rattle.step_text.specs.declared.seen.FrameState.TheVariants.{Waiting, Reserved, Left}
use Rattle.step_text.specs.declared.seen.FrameSeen.{FrameSeen}
use Rattle.step_text.specs.declared.seen.Counts.{Counts}
use Rattle.step_text.specs.declared.seen.Parts.{Parts}

abbrev pub state_in : FrameState → model.Progress
state_in Waiting = model.waiting
state_in (Reserved number) = model.reserved number
state_in Left = model.left

abbrev pub frame_in : FrameSeen → model.Frame
frame_in f = record { kind = kind_of f.purpose; state = state_in f.state; phase = phase_of f.phase }

abbrev pub top_in : Option FrameSeen → Option model.Frame
top_in None = None
top_in (Some f) = Some (frame_in f)

abbrev pub counts_in : Counts → CountsSeen
counts_in k = record {
  spare = k.spare;
  done = k.done;
  opened = k.opened;
  wish = k.wish;
  head = k.head;
  committed = k.committed;
}

abbrev pub reader_in : TakeState → ReaderSeen
reader_in r = record { phase = reader_phase_of r.phase; hint = r.hint; seen = r.seen; expected = r.expected }

-- the parts are those of a ring in this state
pub record ArePartsOf (p : Parts) (c : Core) : Type 0 where
  pub spare_link : link_of p.spare_link ≡ c.spare_link
  pub counts : counts_in p.counts ≡ counts_seen c
  pub depth : p.depth ≡ length c.frames
  pub top : top_in p.top ≡ top_frame c.frames
  pub reader : reader_in p.reader ≡ reader_seen c
  pub records : p.records ≡ records_in c
  pub moment : p.last_moment ≡ last_moment (reserved_records c.history)
