use Rattle.std.proofs.Common.{◌≡◌, ◌-◌, false, [], length}
use Rattle.parcel_streams.specs.declared.limits.TheConstants.{MAX_PIECE}
use Rattle.parcel_streams.specs.source.Held.{held_unread, held_given}
use Rattle.parcel_streams.specs.source.Reading.{ReadsOn}
use Rattle.parcel_streams.proofs.source.fill.fill.Given as goal

abbrev pub invariant-loop-window : goal.invariant-loop-window
invariant-loop-window g l = record {
  given : held_given l.window ≡ [];
  read : ReadsOn (held_unread l.fn.window) (held_unread l.window) (g.R.Source.remaining l.fn.source)
      (g.R.Source.remaining l.source);
  sound : g.R.Source.failed l.source ≡ false;
}

abbrev pub decreases-loop-window : goal.decreases-loop-window
decreases-loop-window g l = MAX_PIECE - length (held_unread l.window)
