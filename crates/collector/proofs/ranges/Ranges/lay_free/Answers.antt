use Rattle.collector.proofs.Spans.{free_behind, undone, both_laid}
use Rattle.collector.proofs.ranges.Ranges.lay_free.Goals as goal

pub put-requires-2-clause-free : goal.put-requires-2-clause-free
put-requires-2-clause-free c = free_behind c.args.self.now c.put.new.self c.args.low c.args.first c.args.end
    c.requires.may.missing c.requires.may.forward c.requires.free c.put.ensures.others c.put.ensures.ends

pub returns-in-Ok-clause-laid : goal.returns-in-Ok-clause-laid
returns-in-Ok-clause-laid c =
    both_laid c.args.self.now c.args.self.now c.put.new.self c.put-2.new.self c.args.low c.args.first c.args.end
    c.args.parcel
    c.requires.may.missing c.requires.may.forward (λ number content. ((λ t. t), (λ t. t)))
    record {
      inside = c.in_ok-put.ensures.inside;
      alone = c.in_ok-put.ensures.alone;
      in_front = c.put.ensures.in_front;
      behind = c.put.ensures.behind;
    }
    record {
      inside = c.in-Ok.ensures.inside;
      alone = c.in-Ok.ensures.alone;
      in_front = c.put-2.ensures.in_front;
      behind = c.put-2.ensures.behind;
    }

pub returns-in-Err-clause-refused : goal.returns-in-Err-clause-refused
returns-in-Err-clause-refused c = undone c.args.self.now c.put.new.self c.args.low c.args.first c.args.end
    c.requires.may.missing c.requires.may.forward c.requires.free c.put.ensures.others c.put-2.new.self
    record { spans = c.remove.new.self }
    c.in-Err.ensures.nothing c.in-Err.ensures.refused c.remove.ensures.updates
