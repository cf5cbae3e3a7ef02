use Rattle.std.proofs.Common.{◌≡◌, ℕ, Bool, Option, ◌<◌, ◌⊎◌, ◌++◌, ◌∙◌, inl, inr, All, List, [], ap, sym, subst}
use Rattle.trace_model.specs.declared.limits.TheConstants.{MAX_CPUS}
use Rattle.text_values.specs.Putting.{start_of, writer_of, contents_of, has_failed, HasWriter}
use Rattle.parcel_streams.specs.declared.piece.Piece.{Piece}
use Rattle.collect_command.specs.streams.Gathering.{IsGathered}
use Rattle.collect_command.proofs.Endings.{gathered, by_read}
use Rattle.collect_command.proofs.StreamsGathered.{none_gathered}
use Rattle.ring_region.specs.declared.regions.Region.{Region}
use Rattle.collect_command.specs.recovery.Telling.{AreToldBy}
use Rattle.collect_command.specs.recovery.Gathering.{Has, gathering_of}
use Rattle.collect_command.specs.Runs.{IsMemoryLine}
use Rattle.collect_command.specs.recovery.Runs.{IsListed, IsRecoverRun}
use Rattle.collect_command.proofs.AllRead.{all_known}
use Rattle.collect_command.proofs.recovery.recover.recover_to.Goals as goal

pub add_regions-added-requires : goal.add_regions-added-requires
add_regions-added-requires g c =
    subst (λ (rs : List Region). All (λ region. region.header.cpu.0 < MAX_CPUS) rs) (sym c.deref.ensures.value)
    (all_known g.R.Source.remaining g.R.Source.count g.R.Source.failed c.args.inputs.now c.read_inputs.new.inputs
    c.in-Ok-read_inputs.regions.items c.in-Ok-read_inputs.ensures.read)

pub returns : goal.returns
returns g c =
    let taker = c.add_regions-added.new.fleet in
    let keep = c.add_regions-added.new.out in
    let after = c.finish.new.self in
    let last = c.end_run-ending.new.writer in
    let start = start_of c.new-keeping.result in
    let first = g.W.Sink.contents c.args.writer.now in
    let regions = c.in-Ok-read_inputs.regions.items in
    let has : Has start (gathering_of c.new-fleet.result c.new-keeping.result) [] =
    none_gathered start c.new-keeping.result c.new-fleet.result c.new-fleet.ensures.empty c.new-keeping.ensures.empty in
    let done : (pieces : List Piece) → Has start (gathering_of taker keep) pieces → HasWriter start after
    × IsGathered start.contents (contents_of after) (has_failed after) pieces taker c.is_ok-is_kept.result =
    λ pieces h. (
      c.finish.ensures.writer start _ h.put,
      subst (IsGathered start.contents (contents_of after) (has_failed after) pieces taker)
          (sym c.is_ok-is_kept.ensures.value)
          (gathered c.finish.result start (contents_of after) (has_failed after) keep pieces taker h
          (c.finish.ensures.all start) (c.finish.ensures.prefix start) c.finish.ensures.fault),
    ) in
    let Run : Option (List ℕ) → Option (List ℕ) → Bool → Type 0 = λ before now failed.
    IsRecoverRun g.R.Source.remaining g.R.Source.count g.R.Source.failed c.args.form c.args.inputs.now
    c.read_inputs.new.inputs before now failed first (g.W.Sink.contents last) (g.W.Sink.failed last)
    record { ending = c.end_run-ending.result; is_kept = c.is_ok-is_kept.result } in
    let run : HasWriter start after × Run start.contents (contents_of after) (has_failed after) =
    by_read c.add_regions-added.result c.add_regions-added.ensures.added c.add_regions-added.ensures.stopped
    c.end_run-ending.ensures.listed c.end_run-ending.ensures.told
    (λ a listed. let both = done a.pieces (a.adds.adds start [] has) in (
      both.0,
      inl record {
        regions = regions;
        are_read = c.in-Ok-read_inputs.ensures.read;
        pieces = a.pieces;
        are_told = subst (λ (rs : List Region). AreToldBy rs a.pieces) c.deref.ensures.value a.told;
        sound = a.adds.sound;
        fleet = taker;
        gathered = both.1;
        told = subst (λ (rs : List Region).
            IsListed c.args.form rs taker first (g.W.Sink.contents last) (g.W.Sink.failed last) c.end_run-ending.result
            ⊎ IsMemoryLine first (g.W.Sink.contents last) (g.W.Sink.failed last) c.end_run-ending.result)
            c.deref-2.ensures.value listed;
      },
    ))
    (λ stopped s told. let both = done (s.before ++ s.own) (s.adds.adds start [] has) in (
      both.0,
      inr (inl record {
        regions = regions;
        are_read = c.in-Ok-read_inputs.ensures.read;
        front = s.front;
        this = s.this;
        behind = s.behind;
        regions_are = sym c.deref.ensures.value ∙ s.regions_are;
        before = s.before;
        are_told = s.told;
        own = s.own;
        sound = s.adds.sound;
        fleet = taker;
        stopped = stopped;
        input_is = s.input_is;
        why = s.why;
        gathered = both.1;
        told = told;
      }),
    )) in
    let kept_name = sym (run.0 ∙ c.new-keeping.ensures.same_writer) in
    let begins : start.contents ≡ g.K.Sink.contents c.args.keep.now =
    ap g.K.Sink.contents c.new-keeping.ensures.writer in
    let is_run : (keep : g.row.K.Denot) → keep ≡ writer_of after
    → Run (g.K.Sink.contents c.args.keep.now) (g.K.Sink.contents keep) (g.K.Sink.failed keep) =
    λ keep same.
    subst (λ (k : g.row.K.Denot). Run (g.K.Sink.contents c.args.keep.now) (g.K.Sink.contents k) (g.K.Sink.failed k))
    (sym same) (subst (λ (s : Option (List ℕ)). Run s (contents_of after) (has_failed after)) begins run.1) in
    is_run c.keep-1.given.0 (c.keep-1.given.1 kept_name)
