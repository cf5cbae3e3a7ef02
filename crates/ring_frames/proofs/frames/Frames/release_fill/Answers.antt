use Rattle.std.proofs.Common.{◌≢◌, [], refl, sym, ap, ◌∙◌, subst}
use Rattle.ring_frames.specs.Value.{FramesValue}
use Rattle.ring_frames.specs.Inside.{frames_in}
use Rattle.ring_frames.specs.AreFrames.{AreFrames, HasFrames}
use Rattle.ring_frames.specs.Phases.{closing_phase}
use Rattle.ring_frames.specs.Steps.{IsFrames}
use Rattle.ring_frames.proofs.Releasing.{is_bottom, may_let_go, released}
use Rattle.ring_frames.proofs.Payloads.{bottom_held}
use Rattle.ring_frames.proofs.frames.Frames.release_fill.Goals as goal

pub drop_front-page-requires : goal.drop_front-page-requires
drop_front-page-requires c =
    let may =
    may_let_go (frames_in c.self.inside) (subst IsFrames (sym c.self.view_is) c.requires.frames)
    (subst (λ (x : FramesValue). x.stack.frames ≢ []) (sym c.self.view_is) c.requires.top)
    (ap (λ (x : FramesValue). x.phase) c.self.view_is ∙ c.requires.phase) in
    record { more = may.0; bottom = may.1 }

pub returns-clause-releases : goal.returns-clause-releases
returns-clause-releases c = λ n size start m reached now.
    let v : FramesValue = frames_in c.self.inside in
    let core : HasFrames n size start v m =
    record {
      reached = reached;
      are = subst (λ (x : FramesValue). AreFrames n size start x m) (sym c.self.view_is) now;
    } in
    let some = subst (λ (x : FramesValue). x.stack.frames ≢ []) (sym c.self.view_is) c.requires.top in
    rw c.start_closing.ensures
    (released n size start v m core some (ap (λ (x : FramesValue). x.phase) c.self.view_is ∙ c.requires.phase)
    c.drop_front-page.new.self c.drop_front-page.result
    record {
      oldest = c.drop_front-page.ensures.oldest;
      released = c.drop_front-page.ensures.released;
      has_events = c.drop_front-page.ensures.stack;
      written = c.drop_front-page.ensures.written;
    }
    (closing_phase c.drop_front-page.new.self) refl)

pub returns-clause-payloads : goal.returns-clause-payloads
returns-clause-payloads c =
    let (n, size, start, m, core) = c.requires.frames in
    rw c.start_closing.ensures
    (bottom_held c.args.self.now.stack c.drop_front-page.new.self
    (is_bottom n size start c.args.self.now m core c.requires.top c.requires.phase))
