use Rattle.std.proofs.Common.{◌≡◌, ◌∙◌, ◌++◌, [], ◌∷◌, codes, refl, sym, ap, append-nil}
use Rattle.std.proofs.lemmas.Result.{on_ok_weaker}
use Rattle.step_model.specs.Seen.{CountKey, count_is, spare_key, done_key, opened_key, wish_key, head_key}
use Rattle.step_model.specs.Seen.{committed_key}
use Rattle.step_model.specs.StepTexts.{change_text, count_text}
use Rattle.step_text.proofs.OneAfterOne.{written_one}
use Rattle.step_text.proofs.new_rings.put_counts.Goals as goal

pub returns : goal.returns
returns c =
    let out = c.args.out.now.items in
    let counts = c.args.counts.now in
    let first = count_is spare_key counts.spare ∷ [] in
    let second = first ++ count_is done_key counts.done ∷ [] in
    let third = second ++ count_is opened_key counts.opened ∷ [] in
    let fourth = third ++ count_is wish_key counts.wish ∷ [] in
    let fifth = fourth ++ count_is head_key counts.head ∷ [] in
    let spare : c.put_count.new.out.items ≡ out ++ change_text (count_is spare_key counts.spare) =
    c.in_ok-put_count.ensures spare_key refl
    ∙ ap (λ value. out ++ change_text (count_is spare_key value)) c.from.ensures in
    let one = written_one out out _ [] (count_is spare_key counts.spare) (sym (append-nil out)) spare in
    let two =
    written_one out _ _ first (count_is done_key counts.done) one (c.in_ok-put_count-2.ensures done_key refl) in
    let three =
    written_one out _ _ second (count_is opened_key counts.opened) two
    (c.in_ok-put_count-3.ensures opened_key refl) in
    let four =
    written_one out _ _ third (count_is wish_key counts.wish) three (c.in_ok-put_count-4.ensures wish_key refl) in
    let five =
    written_one out _ _ fourth (count_is head_key counts.head) four (c.in_ok-put_count-5.ensures head_key refl) in
    on_ok_weaker c.put_count-6.result
    (λ (last : (named : CountKey) → codes "committed" ≡ count_text named
    → c.put_count-6.new.out.items ≡ c.put_count-5.new.out.items ++ change_text (count_is named counts.committed)).
    written_one out _ _ fifth (count_is committed_key counts.committed) five (last committed_key refl))
    c.put_count-6.ensures
