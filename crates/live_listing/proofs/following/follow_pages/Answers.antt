use Rattle.std.proofs.Common.{◌≡◌, ◌∙◌, ◌++◌, None, refl, sym, ap, subst, inl, inr, List, Option}
use Rattle.line_follower.specs.declared.lines.Said.{Said}
use Rattle.live_listing.specs.declared.pages.Content.{Content}
use Rattle.live_listing.specs.declared.following.Happening.TheVariants.{Ended}
use Rattle.capture_text.specs.Printed.{bounds_of}
use Rattle.live_listing.specs.Pages.{Reached, reached}
use Rattle.live_listing.specs.Live.{GivesRest}
use Rattle.std.specs.Option.{option_or}
use Rattle.trace_model.specs.declared.numbers.CpuId.{CpuId}
use Rattle.live_listing.specs.Following.{are_intact, last_gaps, IsWritten}
use Rattle.live_listing.proofs.OneMore.{one_more, begun, all_followed, all_seen}
use Rattle.live_listing.proofs.Cut.{on_err_too, none_of, nothing_part, one_cut, rest_cut, gaps_cut}
use Rattle.live_listing.proofs.following.follow_pages.Goals as goal

pub loop-cpu-init : goal.loop-cpu-init
loop-cpu-init g c = (
  c.requires.naming,
  c.requires.printed,
  c.requires.sound,
  refl,
  begun g.S.Happenings.gives c.args.cpus.now c.args.size c.args.happenings.now c.args.printer.now _ _ c.in_ok-live.live
      c.requires.sound c.in_ok-live.ensures,
)

pub loop-cpu-preserved : goal.loop-cpu-preserved
loop-cpu-preserved g c =
    let l = c.loop-cpu in
    let f = c.in_ok-more.ensures in
    let source = c.args.happenings.now in (
      f.naming,
      f.printed,
      f.sound,
      refl,
      one_more g.S.Happenings.gives c.args.cpus.now c.args.size source source source c.args.printer.now l.printer
          c.follow_one.new.printer _ _ _ _ _ l.live c.follow_one.new.live l.late c.in_ok-more.more
          c.saturating_add-late.result None None (Ended (record { 0 = l.cpu })) f.followed.0 l.invariant.2
          l.invariant.4 (inr (sym c.has_cpu.ensures ∙ c.if-has_cpu.false, refl)) f.followed.1 f.followed.3
          f.followed.2 c.saturating_add-late.ensures refl,
    )

pub loop-preserved : goal.loop-preserved
loop-preserved g c =
    let l = c.loop in
    let f = c.in_ok-more-2.ensures in (
      f.naming,
      f.printed,
      f.sound,
      one_more g.S.Happenings.gives c.args.cpus.now c.args.size c.args.happenings.now l.happenings c.next.new.self
          c.args.printer.now l.printer c.follow_one-in-loop.new.printer _ _ _ _ _ l.live c.follow_one-in-loop.new.live
          l.late c.in_ok-more-2.more c.saturating_add-late-in-loop.result l.not_read c.or-not_read.result
          c.in_ok-happening.happening f.followed.0 l.invariant.2 l.invariant.3 (inl c.in_ok-happening.ensures.given)
          f.followed.1 f.followed.3 f.followed.2 c.saturating_add-late-in-loop.ensures
          (c.or-not_read.ensures ∙ ap (λ (cpu : Option CpuId). option_or l.not_read cpu) c.failed_cpu.ensures),
    )

pub returns-clause-listed : goal.returns-clause-listed
returns-clause-listed g c =
    let l = c.loop in
    let given = c.in_ok-rest.ensures in
    let end = c.rest.new.self in
    let last = c.write_given.new.printer in
    let written = c.in_ok-more-3.ensures in
    let gaps = c.in_ok-write_gaps.ensures in
    let all : given.0 ≡ c.deref.result.now =
    sym (c.deref.ensures.value ∙ given.1
    ∙ ap (λ (front : List (Said Content)). front ++ given.0) c.new-given.ensures.items) in
    let rest : GivesRest l.live c.deref.result.now end =
    subst (λ (said : List (Said Content)). GivesRest l.live said end) all given.2 in
    let lost : IsWritten (g.W.Sink.contents c.write_given.new.writer) (g.W.Sink.contents c.write_gaps.new.writer)
    (g.W.Sink.failed c.write_gaps.new.writer) (last_gaps last.form (bounds_of last) c.args.size 0 end.cpus) =
    subst
    (λ (cpus : List Reached).
    IsWritten (g.W.Sink.contents c.write_given.new.writer) (g.W.Sink.contents c.write_gaps.new.writer)
    (g.W.Sink.failed c.write_gaps.new.writer) (last_gaps last.form (bounds_of last) c.args.size 0 cpus))
    c.cpus.ensures.reached gaps.written in
    let ended = c.awaited-2.ensures.none (none_of c.awaited-2.result (sym c.is_some.ensures ∙ c.if-is_some.false)) in
    all_followed g.S.Happenings.gives c.args.cpus.now c.args.size c.args.happenings.now l.happenings c.args.printer.now
    l.printer last _ _ _ _ _ _ _ l.live end l.late c.in_ok-more-3.more l.not_read c.deref.result.now
    (record { late = c.saturating_add.result; is_intact = c.are_intact.result; not_read = l.not_read })
    l.invariant.2 written.sound gaps.sound l.invariant.3 ended rest written.written written.late lost
    c.saturating_add.ensures
    (c.are_intact.ensures
    ∙ all_seen reached (λ (r : Reached). r.is_intact) c.cpus-2.result.now
    ∙ ap are_intact c.cpus-2.ensures.reached)
    refl

pub returns-in_err-live-clause-stopped : goal.returns-in_err-live-clause-stopped
returns-in_err-live-clause-stopped g c =
    on_err_too c.from_residual.result
    (nothing_part g.S.Happenings.gives c.args.cpus.now c.args.size c.args.happenings.now c.args.printer.now _ _
    c.requires.sound)

pub returns-in_err-buffer-clause-stopped : goal.returns-in_err-buffer-clause-stopped
returns-in_err-buffer-clause-stopped g c =
    on_err_too c.from_residual-in_err-buffer.result
    (nothing_part g.S.Happenings.gives c.args.cpus.now c.args.size c.args.happenings.now c.args.printer.now _ _
    c.requires.sound)

pub returns-in_err-more-clause-stopped : goal.returns-in_err-more-clause-stopped
returns-in_err-more-clause-stopped g c =
    let l = c.loop-cpu in
    let source = c.args.happenings.now in
    on_err_too c.from_residual-in_err-more.result
    (one_cut g.S.Happenings.gives c.args.cpus.now c.args.size source source source c.args.printer.now l.printer
    c.follow_one.new.printer _ _ _ _ _ l.live l.late None (Ended (record { 0 = l.cpu })) l.invariant.2 l.invariant.4
    (inr (sym c.has_cpu.ensures ∙ c.if-has_cpu.false, refl)) c.in_err-more.ensures.cut)

pub returns-in_err-more-2-clause-stopped : goal.returns-in_err-more-2-clause-stopped
returns-in_err-more-2-clause-stopped g c =
    let l = c.loop in
    on_err_too c.from_residual-in_err-more-2.result
    (one_cut g.S.Happenings.gives c.args.cpus.now c.args.size c.args.happenings.now l.happenings c.next.new.self
    c.args.printer.now l.printer c.follow_one-in-loop.new.printer _ _ _ _ _ l.live l.late l.not_read
    c.in_ok-happening.happening l.invariant.2 l.invariant.3 (inl c.in_ok-happening.ensures.given)
    c.in_err-more-2.ensures.cut)

pub returns-in_err-more-3-clause-stopped : goal.returns-in_err-more-3-clause-stopped
returns-in_err-more-3-clause-stopped g c =
    let l = c.loop in
    let given = c.in_ok-rest.ensures in
    let end = c.rest.new.self in
    let written = c.in_err-more-3.ensures in
    let all : given.0 ≡ c.deref.result.now =
    sym (c.deref.ensures.value ∙ given.1
    ∙ ap (λ (front : List (Said Content)). front ++ given.0) c.new-given.ensures.items) in
    let rest : GivesRest l.live c.deref.result.now end =
    subst (λ (said : List (Said Content)). GivesRest l.live said end) all given.2 in
    let ended = c.awaited-2.ensures.none (none_of c.awaited-2.result (sym c.is_some.ensures ∙ c.if-is_some.false)) in
    on_err_too c.from_residual-in_err-more-3.result
    (rest_cut g.S.Happenings.gives c.args.cpus.now c.args.size c.args.happenings.now l.happenings c.args.printer.now
    l.printer c.write_given.new.printer _ _ _ _ _ l.live end l.late l.not_read c.deref.result.now l.invariant.2
    written.fault l.invariant.3 ended rest written.written)

pub returns-in_err-write_gaps-clause-stopped : goal.returns-in_err-write_gaps-clause-stopped
returns-in_err-write_gaps-clause-stopped g c =
    let l = c.loop in
    let given = c.in_ok-rest.ensures in
    let end = c.rest.new.self in
    let last = c.write_given.new.printer in
    let written = c.in_ok-more-3.ensures in
    let gaps = c.in_err-write_gaps.ensures in
    let all : given.0 ≡ c.deref.result.now =
    sym (c.deref.ensures.value ∙ given.1
    ∙ ap (λ (front : List (Said Content)). front ++ given.0) c.new-given.ensures.items) in
    let rest : GivesRest l.live c.deref.result.now end =
    subst (λ (said : List (Said Content)). GivesRest l.live said end) all given.2 in
    let lost : IsWritten (g.W.Sink.contents c.write_given.new.writer) (g.W.Sink.contents c.write_gaps.new.writer)
    (g.W.Sink.failed c.write_gaps.new.writer) (last_gaps last.form (bounds_of last) c.args.size 0 end.cpus) =
    subst
    (λ (cpus : List Reached).
    IsWritten (g.W.Sink.contents c.write_given.new.writer) (g.W.Sink.contents c.write_gaps.new.writer)
    (g.W.Sink.failed c.write_gaps.new.writer) (last_gaps last.form (bounds_of last) c.args.size 0 cpus))
    c.cpus.ensures.reached gaps.written in
    let ended = c.awaited-2.ensures.none (none_of c.awaited-2.result (sym c.is_some.ensures ∙ c.if-is_some.false)) in
    on_err_too c.from_residual-in_err-write_gaps.result
    (gaps_cut g.S.Happenings.gives c.args.cpus.now c.args.size c.args.happenings.now l.happenings c.args.printer.now
    l.printer last _ _ _ _ _ _ _ l.live end l.late l.not_read c.deref.result.now l.invariant.2 written.sound
    gaps.fault l.invariant.3 ended rest written.written lost)
