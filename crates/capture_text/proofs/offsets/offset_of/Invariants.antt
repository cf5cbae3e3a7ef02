use Rattle.std.proofs.Common.{◌≡◌, ◌+◌, ◌*◌, ◌-◌, ◌^◌, ◌≤◌, drop}
use Rattle.capture_text.specs.Printing.{offset_of}
use Rattle.capture_text.proofs.offsets.offset_of.Given as goal

abbrev pub invariant-loop-part : goal.invariant-loop-part
invariant-loop-part l = record {
  place : l.before + offset_of (drop l.part-index l.parts) l.left ≡ offset_of l.parts l.index;
  small : l.before ≤ l.part-index * (2 ^ 64 - 1);
}
