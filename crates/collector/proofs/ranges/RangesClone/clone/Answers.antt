use Rattle.std.proofs.lemmas.Map.Entries.{entries_from_clone}
use Rattle.collector.proofs.ranges.RangesClone.clone.Goals as goal

pub returns : goal.returns
returns c = record {
  cases = entries_from_clone _ _ (λ x y h. h) (λ v w h. h)
      c.args.self.now.spans.entries c.in_ok-clone.field-0.entries c.in_ok-clone.ensures.cases;
}
