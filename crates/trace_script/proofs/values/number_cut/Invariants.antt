use Rattle.std.proofs.Common.{◌≡◌, take, true}
use Rattle.std.specs.Str.{all_ascii_digits}
use Rattle.std.specs.Str.Parse.{digits_value}
use Rattle.trace_script.proofs.values.number_cut.Given as goal

abbrev pub invariant-loop-at : goal.invariant-loop-at
invariant-loop-at l = record {
  digits : all_ascii_digits (take l.at l.text) ≡ true;
  value : l.number ≡ digits_value 10 (take l.at l.text);
}
