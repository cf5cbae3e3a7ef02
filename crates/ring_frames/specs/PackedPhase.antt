-- How far the frame on top has got, as the fields state it.
use Rattle.std.specs.Prelude.{ℕ}
use Rattle.ring_frames.specs.declared.phase.Role.{Role}
use Rattle.ring_frames.specs.declared.phase.Phase.{Phase}
use Rattle.ring_frames.specs.declared.phase.Phase.TheVariants.{Idle, Looking, Claiming, LookingNext, Marking, Clearing}
use Rattle.ring_frames.specs.declared.phase.Phase.TheVariants.{Opening, Releasing, Wishing}
use Rattle.ring_frames.specs.declared.packed_phase.Tag.{Tag}
use Rattle.ring_frames.specs.declared.packed_phase.Tag.TheVariants as tag
use Rattle.ring_frames.specs.declared.packed_phase.PackedPhase.TheInside.{Inside}

abbrev pub phase_by_tag : Tag → Role → (noted page next : ℕ) → Phase
phase_by_tag tag.Idle role noted page next = Idle
phase_by_tag tag.Looking role noted page next = Looking noted
phase_by_tag tag.Claiming role noted page next = Claiming noted page
phase_by_tag tag.LookingNext role noted page next = LookingNext role noted page
phase_by_tag tag.Marking role noted page next = Marking role noted page next
phase_by_tag tag.Clearing role noted page next = Clearing noted page
phase_by_tag tag.Opening role noted page next = Opening noted page
phase_by_tag tag.Releasing role noted page next = Releasing
phase_by_tag tag.Wishing role noted page next = Wishing

abbrev pub phase_in : Inside → Phase
phase_in s = phase_by_tag s.tag s.role s.noted s.page s.next
