use Rattle.std.proofs.Common.{ap, subst, arith}
use Rattle.collector.proofs.RunLists.{same_runs}
use Rattle.stream_collector.specs.Stream.{Stream, IsUnknownYet, HaveNoRecord}
use Rattle.stream_collector.specs.declared.marks.Marks.{Marks}
use Rattle.stream_collector.specs.Kinds.{IsOfKindWithin}
use Rattle.stream_collector.specs.declared.kinds.Kind.TheVariants.{Open}
use Rattle.stream_collector.proofs.stream.StreamCollector.unknown.Goals as goal

pub returns : goal.returns
returns c =
    let s = c.args.self.now in
    let own = ap (λ (m : Marks). m.bound) c.marks.ensures in
    let cpu = c.args.cpu.0 in
    let none = subst (λ (s : Stream). HaveNoRecord s.given_up) c.self.view_is c.self.invariant.no_record in
    same_runs {P = IsOfKindWithin Open s cpu c.marks.result.bound c.expected_end.result} {Q = IsUnknownYet s cpu}
    c.runs.result
    (λ n h. record {
      is_open = record {
        from = let a = h.from in omega arith;
        not_given_up = h.of_kind.0.not_missing;
        unknown = h.of_kind.1;
      };
      expected = (c.expected_end.ensures n h.of_kind.1).0 h.below;
    })
    (λ n h. record {
      from = let a = h.is_open.from in omega arith;
      below = (c.expected_end.ensures n h.is_open.unknown).1 h.expected;
      of_kind = (
        record { no_record = λ r there. none cpu n r there; not_missing = h.is_open.not_given_up },
        h.is_open.unknown,
      );
    })
    c.runs.ensures
