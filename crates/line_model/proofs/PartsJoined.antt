-- One more line, one more call, and the start.
use Rattle.std.proofs.Common.{◌≡◌, ℕ, zero, suc, List, length, [], ◌∷◌, ◌++◌, refl, sym, ap, ◌∙◌, subst, arith}
use Rattle.std.proofs.Common.{append_assoc, append-nil}
use Rattle.trace_model.specs.Steps.{Exchange}
use Rattle.trace_model.specs.Window.{RingEvent}
use Rattle.world_model.specs.Lanes.{event_on_top, payloads_left}
use Rattle.line_model.specs.Lines.{LineState, LinePart}
use Rattle.line_model.specs.WriterCalls.{LineWriting, IsWriterCall, FinishCalls, LineCalls}
use Rattle.line_model.specs.LineParts.{PartsGoOn, StartIsBetweenLines, TopCallsGoOn, LinesCallsGoOn, RestCallsGoOn}

pub parts_go_on : PartsGoOn
parts_go_on n size [] line p q t events more (none, same) part = (
  more,
  [],
  t,
  ap (λ (l : List RingEvent). l ++ more) none ∙ sym (append-nil more),
  subst (λ (v : LineState). LinePart n size line v more t) (sym same) part,
  (refl, refl),
)
parts_go_on n size (first ∷ lines) line p q t events more (front, behind, between, cut, one, rest) part = (
  front,
  behind ++ more,
  between,
  ap (λ (l : List RingEvent). l ++ more) cut ∙ append_assoc front behind more,
  one,
  parts_go_on n size lines line between q t behind more rest part,
)

pub start_between : StartIsBetweenLines
start_between n start some = record {
  agrees = record {
    history = refl;
    done = refl;
    opened = refl;
    window = record { head_le = omega arith; done_lt = omega arith; opened_le = omega arith };
    frames = (refl, refl, refl);
  };
  for_records = tt;
}

-- ---- calls

pub top_calls_go_on : TopCallsGoOn
top_calls_go_on n size start depth s payloads [] t lefts x u (same, all) count e call = (
  subst (λ (v : LineWriting). length v.frames ≡ suc depth) (sym same) count,
  subst (λ (v : LineWriting). x.event ≡ event_on_top v.frames payloads) (sym same)
      (subst (λ (l : List (List ℕ)). x.event ≡ event_on_top t.frames l) (sym all) e),
  u,
  subst (λ (v : LineWriting). IsWriterCall n size start v x u) (sym same) call,
  (refl, ap (payloads_left u.frames) all),
)
top_calls_go_on n size start depth s payloads (y ∷ calls) t lefts x u (some, is, between, one, rest) count e call = (
  some,
  is,
  between,
  one,
  top_calls_go_on n size start depth between
      (payloads_left between.frames payloads) calls t lefts x u rest count e call,
)

pub lines_calls_go_on : LinesCallsGoOn
lines_calls_go_on n size start [] line s payloads made t lefts more u others (none, same, all) calls = (
  more,
  [],
  ap (λ (l : List Exchange). l ++ more) none ∙ sym (append-nil more),
  u,
  others,
  subst (λ (v : LineWriting). LineCalls n size start line v payloads more u others) same
      (subst (λ (l : List (List ℕ)). LineCalls n size start line t l more u others) all calls),
  (refl, refl, refl),
)
lines_calls_go_on n size start (first ∷ lines) line s payloads made t lefts more u others
    (own, behind, cut, between, middle, one, rest) calls = (
      own,
      behind ++ more,
      ap (λ (l : List Exchange). l ++ more) cut ∙ append_assoc own behind more,
      between,
      middle,
      one,
      lines_calls_go_on n size start lines line between middle behind t lefts more u others rest calls,
    )

pub rest_calls_go_on : RestCallsGoOn
rest_calls_go_on n size start zero s payloads made t lefts more u others (none, same, all) calls = (
  more,
  [],
  ap (λ (l : List Exchange). l ++ more) none ∙ sym (append-nil more),
  u,
  others,
  subst (λ (v : LineWriting). FinishCalls n size start v payloads more u others) same
      (subst (λ (l : List (List ℕ)). FinishCalls n size start t l more u others) all calls),
  (refl, refl, refl),
)
rest_calls_go_on n size start (suc count) s payloads made t lefts more u others
    (own, behind, cut, between, middle, one, rest) calls = (
      own,
      behind ++ more,
      ap (λ (l : List Exchange). l ++ more) cut ∙ append_assoc own behind more,
      between,
      middle,
      one,
      rest_calls_go_on n size start count between middle behind t lefts more u others rest calls,
    )
