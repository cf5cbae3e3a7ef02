use Rattle.std.proofs.Common.{◌≡◌, ℕ, Bool, Option, ◌++◌, ◌∙◌, inl, inr, List, [], ap, sym, subst}
use Rattle.text_values.specs.Putting.{start_of, writer_of, contents_of, has_failed, HasWriter}
use Rattle.parcel_streams.specs.Answers.{pieces_seen}
use Rattle.parcel_streams.specs.declared.piece.Piece.{Piece}
use Rattle.fleet_text.specs.Hidden.{given_by_all}
use Rattle.fleet_text.specs.Runs.{Run as NumbersRun}
use Rattle.collect_command.specs.declared.streams.gather.Gatherer.{Gatherer}
use Rattle.collect_command.specs.streams.Reading.{placed}
use Rattle.collect_command.specs.streams.Gathering.{HasGathered, IsGathered, pieces_in}
use Rattle.collect_command.specs.streams.Runs.{IsStreamRun}
use Rattle.collect_command.proofs.StreamsGathered.{none_gathered, all_gathered, all_given, GathersTo, TakesTo}
use Rattle.collect_command.proofs.Endings.{gathered, stops_gathered, stops_adding, stops_seen, takes_seen, by_read}
use Rattle.collect_command.proofs.Endings.{RefusesTo}
use Rattle.collect_command.proofs.streams.collect.collect_streams.Goals as goal

pub returns : goal.returns
returns g c =
    let fleet_of = λ (gatherer : Gatherer). gatherer.fleet in
    let gatherer = c.new-gatherer.result in
    let keeping = c.new-keeping.result in
    let taker = c.read_inputs-read.new.taker in
    let kept = c.read_inputs-read.new.writer in
    let after = c.finish.new.self in
    let start = start_of keeping in
    let has : HasGathered start keeping gatherer.fleet [] =
    none_gathered start keeping gatherer.fleet c.new-gatherer.ensures.fleet c.new-keeping.ensures.empty in
    let first = g.W.Sink.contents c.args.writer.now in
    let last = c.end_run-ending.new.writer in
    let done : (pieces : List Piece) → HasGathered start kept taker.fleet pieces → HasWriter start after
    × IsGathered start.contents (contents_of after) (has_failed after) pieces taker.fleet c.is_ok-is_kept.result =
    λ pieces h. (
      c.finish.ensures.writer start _ h.put,
      subst (IsGathered start.contents (contents_of after) (has_failed after) pieces taker.fleet)
          (sym c.is_ok-is_kept.ensures.value)
          (gathered c.finish.result start (contents_of after) (has_failed after) kept pieces taker.fleet h
          (c.finish.ensures.all start) (c.finish.ensures.prefix start) c.finish.ensures.fault),
    ) in
    let Run : Option (List ℕ) → Option (List ℕ) → Bool → Type 0 = λ before now failed.
    IsStreamRun g.R.Source.remaining g.R.Source.failed c.args.form c.args.inputs.now c.read_inputs-read.new.inputs
    before now failed first (g.W.Sink.contents last) (g.W.Sink.failed last)
    record { ending = c.end_run-ending.result; is_kept = c.is_ok-is_kept.result } in
    let run : HasWriter start after × Run start.contents (contents_of after) (has_failed after) =
    by_read c.read_inputs-read.result c.read_inputs-read.ensures.taken c.read_inputs-read.ensures.stopped
    c.end_run-ending.ensures.listed c.end_run-ending.ensures.told
    (λ t listed.
    let taken = takes_seen (λ z. z) TakesTo (GathersTo fleet_of) (λ p x q one. one.0) (gatherer, keeping) t.pieces
    (taker, kept) t.taken in
    let both = done (pieces_in t.pieces)
    (all_gathered fleet_of start [] t.pieces (gatherer, keeping) (taker, kept) has taken) in
    let given = all_given t.pieces (gatherer, keeping) (taker, kept) t.taken in (
      both.0,
      inl record {
        pieces = t.pieces;
        are_whole = t.are_whole;
        fleet = taker.fleet;
        gathered = both.1;
        told = listed (pieces_seen (pieces_in t.pieces)) record {
          given_are = given
              ∙ ap (λ (runs : List NumbersRun). runs ++ given_by_all (pieces_seen (pieces_in t.pieces)))
              c.new-gatherer.ensures.given;
          told = both.1.told;
        };
      },
    ))
    (λ stopped stops told.
    let s = stops_seen (λ z. z) TakesTo (GathersTo fleet_of) (λ p x q one. one.0) g.R.Source.remaining
    g.R.Source.failed (RefusesTo fleet_of) (RefusesTo fleet_of) (λ p x r q refused. refused) c.args.inputs.now
    c.read_inputs-read.new.inputs (gatherer, keeping) (taker, kept) stopped stops in
    let both = done (pieces_in (s.pieces ++ placed stopped.input 0 s.here.pieces))
    (stops_gathered fleet_of g.R.Source.remaining g.R.Source.failed start c.args.inputs.now
    c.read_inputs-read.new.inputs (gatherer, keeping) (taker, kept) stopped s has) in (
      both.0,
      inr (inl record {
        stopped = stopped;
        fleet = taker.fleet;
        stops = stops_adding fleet_of g.R.Source.remaining g.R.Source.failed c.args.inputs.now
            c.read_inputs-read.new.inputs (gatherer, keeping) (taker, kept) stopped c.new-gatherer.ensures.fleet s;
        gathered = both.1;
        told = told;
      }),
    )) in
    let kept_name = sym (run.0 ∙ c.new-keeping.ensures.same_writer) in
    let begins : start.contents ≡ g.K.Sink.contents c.args.keep.now =
    ap g.K.Sink.contents c.new-keeping.ensures.writer in
    let is_run : (keep : g.row.K.Denot) → keep ≡ writer_of after
    → Run (g.K.Sink.contents c.args.keep.now) (g.K.Sink.contents keep) (g.K.Sink.failed keep) =
    λ keep same.
    subst (λ (k : g.row.K.Denot). Run (g.K.Sink.contents c.args.keep.now) (g.K.Sink.contents k) (g.K.Sink.failed k))
    (sym same)
    (subst (λ (s : Option (List ℕ)). Run s (contents_of after) (has_failed after)) begins run.1) in
    is_run c.keep-1.given.0 (c.keep-1.given.1 kept_name)
