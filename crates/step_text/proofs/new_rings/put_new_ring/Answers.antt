use Rattle.std.proofs.Common.{arith, ◌≡◌, ◌∙◌, ◌%◌, ◌++◌, [], ◌∷◌, codes, map, length, flat_map, sym, ap, append-nil}
use Rattle.std.specs.Fmt.{decimal}
use Rattle.std.proofs.lemmas.Result.{on_ok_weaker}
use Rattle.link_marks.specs.ModelLinks.{link_of}
use Rattle.step_model.specs.Changes.{all_counts, all_links, all_pages}
use Rattle.step_model.specs.Seen.{reader_is, spare_link_is}
use Rattle.step_model.specs.StepTexts.{change_text, key_line, spaced}
use Rattle.step_text.specs.Seen.{counts_in, reader_in}
use Rattle.step_text.specs.Known.{known_in}
use Rattle.step_text.proofs.OneAfterOne.{written_both, written_one}
use Rattle.step_text.proofs.NewRingWritten.{ring_written}
use Rattle.step_text.proofs.new_rings.put_new_ring.Goals as goal

pub returns : goal.returns
returns c =
    let known = c.args.known.now in
    let named = c.put_new_line.new.out.items in
    let linked : c.put_links.new.out.items
    ≡ named ++ flat_map change_text (all_links 0 (map link_of known.links.items)) =
    c.in_ok-put_links.ensures
    ∙ ap (λ links. named ++ flat_map change_text (all_links 0 (map link_of links))) c.as_slice.ensures.value in
    let spare = spare_link_is (link_of known.parts.spare_link) in
    let spared : c.put_spare_link_line.new.out.items ≡ c.put_links.new.out.items ++ flat_map change_text (spare ∷ []) =
    c.in_ok-put_spare_link_line.ensures
    ∙ ap (λ line. c.put_links.new.out.items ++ line) (sym (append-nil (change_text spare))) in
    let paged : c.put_pages.new.out.items
    ≡ c.put_spare_link_line.new.out.items ++ flat_map change_text (all_pages 0 known.order.items) =
    c.in_ok-put_pages.ensures
    ∙ ap (λ order. c.put_spare_link_line.new.out.items ++ flat_map change_text (all_pages 0 order))
    c.as_slice-2.ensures.value in
    let spare_and_pages =
    written_both change_text c.put_links.new.out.items _ _ (spare ∷ []) (all_pages 0 known.order.items) spared
    paged in
    let before_counts =
    written_both change_text named _ _ (all_links 0 (map link_of known.links.items))
    (spare ∷ all_pages 0 known.order.items) linked spare_and_pages in
    let before_reader =
    written_both change_text named _ _
    (all_links 0 (map link_of known.links.items) ++ spare ∷ all_pages 0 known.order.items)
    (all_counts (counts_in known.parts.counts)) before_counts c.in_ok-put_counts.ensures in
    let before = all_links 0 (map link_of known.links.items) ++ spare ∷ all_pages 0 known.order.items in
    let keyed =
    written_one named _ _ (before ++ all_counts (counts_in known.parts.counts))
    (reader_is (reader_in known.parts.reader)) before_reader c.in_ok-put_reader_line.ensures in
    let pages : c.len.result ≡ length known.order.items = omega (arith, c.len.ensures, known.order.ok) in
    on_ok_weaker c.put_first_fill.result
    (λ (filled : c.put_first_fill.new.out.items
    ≡ c.put_reader_line.new.out.items
    ++ key_line (codes "fill" ++ spaced known.parts.counts.head)
    (decimal (known.parts.counts.head % c.len.result) ++ spaced 0)) n start core is_start is_known.
    ring_written c.args.cpu (known_in known) core c.args.out.now.items named c.put_reader_line.new.out.items
    c.put_first_fill.new.out.items is_known
    c.in_ok-put_new_line.ensures
    keyed
    (filled
    ∙ ap
    (λ count.
    c.put_reader_line.new.out.items
    ++ key_line (codes "fill" ++ spaced known.parts.counts.head)
    (decimal (known.parts.counts.head % count) ++ spaced 0)) pages))
    c.put_first_fill.ensures
