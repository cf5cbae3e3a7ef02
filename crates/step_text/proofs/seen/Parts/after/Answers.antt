-- The parts after a step are those of the state after it, by the law of the counts and what the ring shows.
use Rattle.std.proofs.Common.{◌≡◌, length, sym, ap, ◌∙◌}
use Rattle.trace_model.specs.History.{last_moment, reserved_records}
use Rattle.trace_model.specs.HistoryLaws.{committed_count}
use Rattle.step_model.specs.Seen.{CountsSeen}
use Rattle.step_model.specs.StepCounts.{gives_next, records_in, top_claims}
use Rattle.step_model.proofs.CountsFollowing.{counts_follow_steps}
use Rattle.script_replay.specs.Known.{top_frame}
use Rattle.step_text.specs.Seen.{top_in}
use Rattle.step_text.specs.Counting.{top_claims_in}
use Rattle.step_text.proofs.Counted.{head_fits, records_fit, depth_is, claims_in, left_in, moment_in, gives, head_is}
use Rattle.step_text.proofs.Counted.{counts_are, reader_is}
use Rattle.step_text.proofs.seen.Parts.after.Goals as goal

pub records_after-records-requires : goal.records_after-records-requires
records_after-records-requires c = records_fit _ _ c.requires.1

pub head_after-requires : goal.head_after-requires
head_after-requires c = head_fits _ _ c.requires.1

pub returns : goal.returns
returns c n size start before after event reported reached parts step answers core =
    let follow = counts_follow_steps n size start before after event reported reached step in
    let shows = core.shows in
    let frames = shows.frames in
    let depth : c.depth-depth.result ≡ length after.frames =
    cc (c.depth-depth.ensures, depth_is n size start _ after frames) in
    let top : top_in c.top_of-top.result ≡ top_frame after.frames = c.top_of-top.ensures n size start after core in
    let counts = parts.counts in
    let head_was : c.args.self.now.counts.head ≡ before.head = ap (λ (s : CountsSeen). s.head) counts in
    let committed_was : c.args.self.now.counts.committed ≡ committed_count before.history =
    ap (λ (s : CountsSeen). s.committed) counts in
    let claims : top_claims_in c.args.self.now c.depth-depth.result c.top_of-top.result
    ≡ top_claims before.frames after.frames =
    claims_in before.frames after.frames _ _ _ _ parts.depth depth parts.top top in
    let head : c.head_after.result ≡ after.head =
    c.head_after.ensures ∙ rw head_was (head_is size before c.args.answer.now reported after _ answers claims)
    ∙ sym follow.head in
    let gave : c.gives_next-reserves.result ≡ gives_next (records_in before) reported =
    c.gives_next-reserves.ensures
    ∙ rw parts.records (gives size (records_in before) c.args.answer.now reported answers) in
    let records : c.records_after-records.result ≡ records_in after =
    c.records_after-records.ensures ∙ rw (gave, parts.records) (sym follow.records) in
    let moments = moment_in before.frames c.args.self.now.top parts.top in
    let moment : c.moment_after.result ≡ last_moment (reserved_records after.history) =
    c.moment_after.ensures ∙ rw (gave, moments, parts.moment) (sym follow.moment) in
    let committed : c.committed_after.result ≡ committed_count after.history =
    c.committed_after.ensures
    ∙ rw (left_in after.frames _ _ depth top, records, committed_was) (sym follow.committed) in
    record {
      spare_link = cc (c.spare_link.ensures, shows.spare_link_is);
      counts = counts_are _ after (cc (c.spare.ensures, shows.spare_is)) (cc (c.done.ensures, frames.done_is))
          (cc (c.opened.ensures, frames.opened_is)) (cc (c.wish.ensures, shows.wish_is)) head committed;
      depth = depth;
      top = top;
      reader =
          rw c.reader.ensures
          (reader_is _ after (sym shows.reader_phase_is) (sym shows.hint_is) (sym shows.seen_is)
          (sym shows.expected_is));
      records = records;
      moment = moment;
    }
