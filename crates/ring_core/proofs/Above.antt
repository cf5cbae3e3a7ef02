-- A record above other frames that is written at once: the private steps of its frame.
use Rattle.std.proofs.Common.{◌≡◌, ◌≢◌, ℕ, List, [], ◌∷◌, sym, ◌∙◌}
use Rattle.trace_model.specs.Frames.{Frame}
use Rattle.trace_model.specs.Ring.{Core}
use Rattle.nested_writer.specs.Stack.{next_number}
use Rattle.ring_frames.specs.Value.{FramesValue}
use Rattle.ring_frames.specs.Above.{WritesAboveAtOnce}
use Rattle.ring_frames.specs.Above as frames_above
use Rattle.ring_frames.proofs.Tops.{topped}
use Rattle.ring_core.specs.Value.{CoreValue, frames_of, with_frames}
use Rattle.ring_core.specs.IsCore.{IsCore}
use Rattle.ring_core.specs.Above.{IsWriteAbove, WritesAbove}
use Rattle.ring_core.proofs.AtOnce.{is_core_after}

module _ (v : CoreValue) (new : FramesValue) (moment : ℕ) (payload : List ℕ) (some : v.stack.frames ≢ [])
    (wrote : WritesAboveAtOnce (frames_of v) moment payload new) where
  module _ (n size start : ℕ) (c : Core) (core : IsCore n size start v c) where
    abbrev h : frames_above.IsWriteAboveAtOnce n size start c moment payload (next_number v.stack) new
    h = wrote n size start c core.reached core.shows.frames

    has_some : c.frames ≢ []
    has_some none =
        let top = topped n size start (frames_of v) c core.shows.frames some in
        not_empty top.frame top.below (sym top.is_top ∙ none)
      where
        not_empty : (f : Frame) (below : List Frame) → f ∷ below ≡ [] → ⊥
        not_empty f below e = cc

    written : IsWriteAbove n size start c moment payload (with_frames v new)
    written = record {
      some = has_some;
      pushed = h.pushed;
      push = h.push;
      waits = h.waits;
      number = next_number v.stack;
      next = h.next;
      reserved = h.reserved;
      reserve = h.reserve;
      has_slot = h.has_slot;
      after = h.after;
      end = h.end;
      are_left = h.are_left;
      is_core =
          is_core_after n size start v new c h.pushed h.reserved h.after _ _ _ _ _ _ core h.push_private h.push
          h.reserve_private h.reserve h.end_private h.end h.are;
    }

pub written_above : (v : CoreValue) (new : FramesValue) (moment : ℕ) (payload : List ℕ) → v.stack.frames ≢ []
    → WritesAboveAtOnce (frames_of v) moment payload new → WritesAbove v moment payload (with_frames v new)
written_above v new moment payload some wrote = written v new moment payload some wrote
