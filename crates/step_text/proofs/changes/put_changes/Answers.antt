use Rattle.std.proofs.Common.{◌≡◌, ◌∙◌, ◌++◌, map, flat_map, sym, ap}
use Rattle.std.proofs.lemmas.Result.{on_ok_weaker}
use Rattle.trace_model.specs.Links.{same_link}
use Rattle.link_marks.specs.ModelLinks.{link_of}
use Rattle.step_model.specs.Seen.{spare_link_is, reader_is}
use Rattle.step_model.specs.Changes.{count_changes, link_changes, page_changes, same_reader, unless_same}
use Rattle.step_model.specs.StepTexts.{change_text}
use Rattle.step_text.specs.Seen.{counts_in, reader_in, top_in}
use Rattle.step_text.specs.FrameChanges.{frame_changes_in}
use Rattle.step_text.specs.Known.{known_in}
use Rattle.step_text.proofs.OneAfterOne.{written_both}
use Rattle.step_text.proofs.ChangesKnown.{changes_known}
use Rattle.step_text.proofs.changes.put_changes.Goals as goal

pub returns : goal.returns
returns c =
    let out = c.args.out.now.items in
    let known = c.args.known.now in
    let now = c.args.now.now in
    let news = map link_of c.links.result.now in
    let order = c.order.result.now in
    let linked : c.put_link_changes.new.out.items
    ≡ out ++ flat_map change_text (link_changes 0 (map link_of known.links.items) news) =
    c.in_ok-put_link_changes.ensures
    ∙ ap (λ olds. out ++ flat_map change_text (link_changes 0 (map link_of olds) news)) c.as_slice.ensures.value in
    let paged : c.put_page_changes.new.out.items
    ≡ c.put_spare_link_change.new.out.items ++ flat_map change_text (page_changes 0 known.order.items order) =
    c.in_ok-put_page_changes.ensures
    ∙ ap (λ olds. c.put_spare_link_change.new.out.items ++ flat_map change_text (page_changes 0 olds order))
    c.as_slice-2.ensures.value in
    let spare =
    unless_same (same_link (link_of known.parts.spare_link) (link_of now.spare_link))
    (spare_link_is (link_of now.spare_link)) in
    let counts = count_changes (counts_in known.parts.counts) (counts_in now.counts) in
    let frames = frame_changes_in known.parts.depth (top_in known.parts.top) now.depth (top_in now.top) in
    let reader =
    unless_same (same_reader (reader_in known.parts.reader) (reader_in now.reader))
    (reader_is (reader_in now.reader)) in
    let before_pages =
    written_both change_text out _ _ (link_changes 0 (map link_of known.links.items) news) spare linked
    c.in_ok-put_spare_link_change.ensures in
    let before_counts =
    written_both change_text out _ _ _ (page_changes 0 known.order.items order) before_pages paged in
    let before_frames = written_both change_text out _ _ _ counts before_counts c.in_ok-put_count_changes.ensures in
    let before_reader = written_both change_text out _ _ _ frames before_frames c.in_ok-put_frame_changes.ensures in
    on_ok_weaker c.put_reader_change.result
    (λ (read : c.put_reader_change.new.out.items ≡ c.put_frame_changes.new.out.items ++ flat_map change_text reader) n
    size start before after is_known core parts.
    written_both change_text out _ _ _ reader before_reader read
    ∙ ap (λ changes. out ++ flat_map change_text changes)
    (changes_known (known_in known) news order now before after is_known
    (c.links.ensures.links ∙ sym core.shows.links_are) (c.order.ensures.order ∙ sym core.shows.order_is) parts))
    c.put_reader_change.ensures
