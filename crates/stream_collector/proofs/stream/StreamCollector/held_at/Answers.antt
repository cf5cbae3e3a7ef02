use Rattle.std.proofs.Common.{refl, sym, ap, ◌∙◌, arith}
use Rattle.std.proofs.lemmas.Bool.{false≢true}
use Rattle.page_borrow.specs.Entries.{numbered_record}
use Rattle.stream_collector.specs.declared.marks.Marks.{Marks}
use Rattle.stream_collector.specs.Frontier.{by_last, by_none}
use Rattle.stream_collector.proofs.stream.StreamCollector.held_at.Goals as goal

pub returns-in-Some-clause-held : goal.returns-in-Some-clause-held
returns-in-Some-clause-held c =
    let own = ap (λ (m : Marks). m.bound) c.marks-marks.ensures in
    let low = c.in-Some.ensures.from in
    record {
      watermark = c.watermark-watermark.result.0;
      is_watermark = record {
        is_open = c.watermark-watermark.ensures.open;
        accounted = c.watermark-watermark.ensures.accounted;
      };
      not_complete = λ e. false≢true (sym c.if-is_end.false
          ∙ c.is_end.ensures.1 (ap (λ (m : Marks). m.end) c.marks-marks.ensures ∙ e));
      last = by_last c.in-Some.entry.number.0 (numbered_record c.in-Some.entry).1
          record {
            has = record { from = omega arith; has = c.in-Some.ensures.there };
            below = c.in-Some.ensures.below;
            last = λ later other lt below h. c.in-Some.ensures.last later other lt below h.has;
          }
          refl;
    }

pub returns-in-None-clause-held : goal.returns-in-None-clause-held
returns-in-None-clause-held c =
    let own = ap (λ (m : Marks). m.bound) c.marks-marks.ensures in
    record {
      watermark = c.watermark-watermark.result.0;
      is_watermark = record {
        is_open = c.watermark-watermark.ensures.open;
        accounted = c.watermark-watermark.ensures.accounted;
      };
      not_complete = λ e. false≢true (sym c.if-is_end.false
          ∙ c.is_end.ensures.1 (ap (λ (m : Marks). m.end) c.marks-marks.ensures ∙ e));
      last = by_none (λ n r below h. c.in-None.ensures.none n r (let from = h.from in omega arith) below h.has) refl;
    }
