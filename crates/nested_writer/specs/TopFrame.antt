-- What the frame on top is: in which fill its record is may be left out, if that is the tail.
use Rattle.std.specs.Prelude.{ℕ, Option, Some}
use Rattle.record_words.specs.declared.put.Place.{Place}
use Rattle.nested_writer.specs.declared.frame.Frame.{Frame}
use Rattle.nested_writer.specs.declared.frame.Purpose.TheVariants.{Record}
use Rattle.nested_writer.specs.declared.frame.Progress.TheVariants.{Reserved}

-- This frame, or none; or a record frame, whose record has this number and this place in the tail.
pub data TopFrame : Type 0 where
  whole : Option Frame → TopFrame
  in_tail : (moment len number : ℕ) → Place → TopFrame

-- the frame, if the tail is this fill
abbrev pub frame_in : TopFrame → ℕ → Option Frame
frame_in (whole frame) fill = frame
frame_in (in_tail moment len number place) fill = Some record {
  purpose = Record moment len;
  progress = Reserved record { number = number; fill = fill; place = place };
}
