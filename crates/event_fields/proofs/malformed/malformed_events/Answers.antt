use Rattle.std.proofs.Common.{rules, ◌<◌, map, sym, ap, ◌∙◌, arith}
use Rattle.trace_dat.specs.kernel_texts.Names.{event_seen, events_of}
use Rattle.event_fields.specs.Malformed.{malformed_seen}
use Rattle.event_fields.proofs.NoneBetween.{none_malformed, none_below, one_more}
use Rattle.event_fields.proofs.malformed.malformed_events.Goals as goal

pub loop-id-init : goal.loop-id-init
loop-id-init c = record {
  bound = omega arith;
  listed = ap (map malformed_seen) c.new-events.ensures.items ∙ sym (none_below (events_of c.args.names.now));
}

pub loop-id-preserved : goal.loop-id-preserved
loop-id-preserved c =
    let small : c.in-Some.id < 65536 = search rules in
    record {
      bound = omega (arith, small);
      listed =
          one_more (events_of c.args.names.now) c.loop-id.from c.in-Some.id _ (event_seen c.in-Some.event) _ _ _
          c.in_ok-put_malformed.ensures c.loop-id.invariant.listed c.in-Some.ensures.above c.in-Some.ensures.least
          c.in-Some.ensures.there (c.of_event.ensures ∙ c.requires c.in-Some.id small) (omega arith);
    }

pub returns : goal.returns
returns c =
    c.loop-id.invariant.listed
    ∙ sym (none_malformed (events_of c.args.names.now) c.loop-id.from 65536 c.loop-id.invariant.bound
    c.in_default.ensures.none)
