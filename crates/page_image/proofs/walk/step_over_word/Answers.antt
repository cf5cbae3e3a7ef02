use Rattle.std.proofs.Common.{◌+◌, arith, refl, subst}
use Rattle.std.proofs.lemmas.Result.{err_from_is_err_and}
use Rattle.trace_model.specs.Words.{time_extend}
use Rattle.record_words.specs.Next.{DataAt, StandsAt, EndingAt, IsWordRead}
use Rattle.record_words.specs.declared.next.Word.{Word as WordAnswer}
use Rattle.page_image.proofs.Counting.{passed-data, passed-extend, passed-stamp, passed-padding, whole-ending}
use Rattle.page_image.proofs.Counting.{overflow-first, few_more, IsData-moves}
use Rattle.page_image.proofs.Left.{left-data, left-extend, left-stamp, left-padding, left-none, left-fault}
use Rattle.page_image.proofs.Left.{left-late_data, left-late_extend}
use Rattle.trace_model.proofs.words.Appended.{IsData-not_stamp}
use Rattle.page_image.proofs.walk.step_over_word.Goals as goal

pub returns-in_err-later_moment-in-Data-clause-fault : goal.returns-in_err-later_moment-in-Data-clause-fault
returns-in_err-later_moment-in-Data-clause-fault c = λ time words is.
    let p =
    err_from_is_err_and c.from_residual-in_err-later_moment-in-Data.result
    c.from_residual-in_err-later_moment-in-Data.ensures.1 in
    let here : DataAt c.args.data.now c.args.reached.at c.in-Data.delta c.in-Data.place c.in-Data.next =
    subst (λ (w : WordAnswer). IsWordRead c.args.data.now c.args.reached.at w) c.in-Data.is
    c.in_ok-delta.ensures.word in
    rw (p.1, p.2)
    (overflow-first c.args.data.now time words c.args.reached here.word c.in-Data.next _ is c.requires.inside
    here.at_offset (IsData-moves here.word here.is_data) (IsData-not_stamp here.word here.is_data)
    c.in_err-later_moment-in-Data.ensures.fault
    (let delta = here.delta_is in let past = c.in_err-later_moment-in-Data.ensures.past in omega arith))

pub returns-in_err-later_moment-in-Extend-clause-fault : goal.returns-in_err-later_moment-in-Extend-clause-fault
returns-in_err-later_moment-in-Extend-clause-fault c = λ time words is.
    let p =
    err_from_is_err_and c.from_residual-in_err-later_moment-in-Extend.result
    c.from_residual-in_err-later_moment-in-Extend.ensures.1 in
    let here : StandsAt c.args.data.now c.args.reached.at c.in-Extend.next (time_extend c.in-Extend.delta) =
    subst (λ (w : WordAnswer). IsWordRead c.args.data.now c.args.reached.at w) c.in-Extend.is
    c.in_ok-delta.ensures.word in
    rw (p.1, p.2)
    (overflow-first c.args.data.now time words c.args.reached (time_extend c.in-Extend.delta) c.in-Extend.next _ is
    c.requires.inside here tt refl
    c.in_err-later_moment-in-Extend.ensures.fault c.in_err-later_moment-in-Extend.ensures.past)

pub returns-in_ok-later_moment-in-Data-clause-few : goal.returns-in_ok-later_moment-in-Data-clause-few
returns-in_ok-later_moment-in-Data-clause-few c =
    let here : DataAt c.args.data.now c.args.reached.at c.in-Data.delta c.in-Data.place c.in-Data.next =
    subst (λ (w : WordAnswer). IsWordRead c.args.data.now c.args.reached.at w) c.in-Data.is
    c.in_ok-delta.ensures.word in
    few_more c.args.data.now c.args.reached.at c.in-Data.next c.args.reached.count here.word here.at_offset
    c.requires.few

pub returns-in_ok-later_moment-in-Data-clause-read : goal.returns-in_ok-later_moment-in-Data-clause-read
returns-in_ok-later_moment-in-Data-clause-read c = λ time words is.
    let here : DataAt c.args.data.now c.args.reached.at c.in-Data.delta c.in-Data.place c.in-Data.next =
    subst (λ (w : WordAnswer). IsWordRead c.args.data.now c.args.reached.at w) c.in-Data.is
    c.in_ok-delta.ensures.word in
    let later = c.in_ok-later_moment-in-Data.ensures.ok in
    let fits = c.in_ok-later_moment-in-Data.ensures.fits in
    passed-data c.args.data.now time words c.args.reached c.in-Data.delta c.in-Data.place c.in-Data.next _ is here
    (omega arith) later

pub returns-in_ok-later_moment-in-Extend-clause-read : goal.returns-in_ok-later_moment-in-Extend-clause-read
returns-in_ok-later_moment-in-Extend-clause-read c = λ time words is.
    let here : StandsAt c.args.data.now c.args.reached.at c.in-Extend.next (time_extend c.in-Extend.delta) =
    subst (λ (w : WordAnswer). IsWordRead c.args.data.now c.args.reached.at w) c.in-Extend.is
    c.in_ok-delta.ensures.word in
    let later = c.in_ok-later_moment-in-Extend.ensures.ok in
    let fits = c.in_ok-later_moment-in-Extend.ensures.fits in
    passed-extend c.args.data.now time words c.args.reached c.in-Extend.delta c.in-Extend.next _ is here (omega arith)
    later

pub returns-in-Stamp-clause-read : goal.returns-in-Stamp-clause-read
returns-in-Stamp-clause-read c = λ time words is.
    passed-stamp c.args.data.now time words c.args.reached c.in-Stamp.stamp c.in-Stamp.next is
    (subst (λ (w : WordAnswer). IsWordRead c.args.data.now c.args.reached.at w) c.in-Stamp.is
    c.in_ok-delta.ensures.word)

pub returns-in-Pad-clause-read : goal.returns-in-Pad-clause-read
returns-in-Pad-clause-read c = λ time words is.
    passed-padding c.args.data.now time words c.args.reached c.in-Pad.next is
    (subst (λ (w : WordAnswer). IsWordRead c.args.data.now c.args.reached.at w) c.in-Pad.is
    c.in_ok-delta.ensures.word)

pub returns-in-End-clause-read : goal.returns-in-End-clause-read
returns-in-End-clause-read c =
    λ time words is.
    whole-ending c.args.data.now time words c.args.reached is
    (subst (λ (w : WordAnswer). IsWordRead c.args.data.now c.args.reached.at w) c.in-End.is
    c.in_ok-delta.ensures.word)

pub returns-in_err-delta-clause-none_left : goal.returns-in_err-delta-clause-none_left
returns-in_err-delta-clause-none_left c =
    let p = err_from_is_err_and c.from_residual.result c.from_residual.ensures.1 in
    rw p.1 (left-fault c.args.data.now c.args.reached c.in_err-delta.field-0.0 c.in_err-delta.ensures.fault)

pub returns-in_err-later_moment-in-Data-clause-none_left : goal.returns-in_err-later_moment-in-Data-clause-none_left
returns-in_err-later_moment-in-Data-clause-none_left c =
    let p =
    err_from_is_err_and c.from_residual-in_err-later_moment-in-Data.result
    c.from_residual-in_err-later_moment-in-Data.ensures.1 in
    let here : DataAt c.args.data.now c.args.reached.at c.in-Data.delta c.in-Data.place c.in-Data.next =
    subst (λ (w : WordAnswer). IsWordRead c.args.data.now c.args.reached.at w) c.in-Data.is
    c.in_ok-delta.ensures.word in
    rw p.1
    (left-late_data c.args.data.now c.args.reached c.in-Data.delta c.in-Data.place c.in-Data.next here
    c.in_err-later_moment-in-Data.ensures.past)

pub returns-in_err-later_moment-in-Extend-clause-none_left : goal.returns-in_err-later_moment-in-Extend-clause-none_left
returns-in_err-later_moment-in-Extend-clause-none_left c =
    let p =
    err_from_is_err_and c.from_residual-in_err-later_moment-in-Extend.result
    c.from_residual-in_err-later_moment-in-Extend.ensures.1 in
    let here : StandsAt c.args.data.now c.args.reached.at c.in-Extend.next (time_extend c.in-Extend.delta) =
    subst (λ (w : WordAnswer). IsWordRead c.args.data.now c.args.reached.at w) c.in-Extend.is
    c.in_ok-delta.ensures.word in
    rw p.1
    (left-late_extend c.args.data.now c.args.reached c.in-Extend.delta c.in-Extend.next here
    c.in_err-later_moment-in-Extend.ensures.past)

pub returns-in-End-clause-left : goal.returns-in-End-clause-left
returns-in-End-clause-left c =
    let ends : EndingAt c.args.data.now c.args.reached.at =
    subst (λ (w : WordAnswer). IsWordRead c.args.data.now c.args.reached.at w) c.in-End.is
    c.in_ok-delta.ensures.word in
    left-none c.args.data.now c.args.reached ends.none_found

pub returns-in_ok-later_moment-in-Data-clause-left : goal.returns-in_ok-later_moment-in-Data-clause-left
returns-in_ok-later_moment-in-Data-clause-left c =
    let here : DataAt c.args.data.now c.args.reached.at c.in-Data.delta c.in-Data.place c.in-Data.next =
    subst (λ (w : WordAnswer). IsWordRead c.args.data.now c.args.reached.at w) c.in-Data.is
    c.in_ok-delta.ensures.word in
    let later = c.in_ok-later_moment-in-Data.ensures.ok in
    let fits = c.in_ok-later_moment-in-Data.ensures.fits in
    left-data c.args.data.now c.args.reached
    (record {
      at = c.in-Data.next;
      moment = c.in_ok-later_moment-in-Data.field-0;
      count = c.args.reached.count + 1;
    })
    c.in-Data.delta c.in-Data.place here later (omega arith)

pub returns-in_ok-later_moment-in-Extend-clause-left : goal.returns-in_ok-later_moment-in-Extend-clause-left
returns-in_ok-later_moment-in-Extend-clause-left c =
    let here : StandsAt c.args.data.now c.args.reached.at c.in-Extend.next (time_extend c.in-Extend.delta) =
    subst (λ (w : WordAnswer). IsWordRead c.args.data.now c.args.reached.at w) c.in-Extend.is
    c.in_ok-delta.ensures.word in
    let later = c.in_ok-later_moment-in-Extend.ensures.ok in
    let fits = c.in_ok-later_moment-in-Extend.ensures.fits in
    left-extend c.args.data.now c.args.reached
    (record {
      at = c.in-Extend.next;
      moment = c.in_ok-later_moment-in-Extend.field-0;
      count = c.args.reached.count;
    })
    c.in-Extend.delta here later (omega arith)

pub returns-in-Stamp-clause-left : goal.returns-in-Stamp-clause-left
returns-in-Stamp-clause-left c =
    left-stamp c.args.data.now c.args.reached
    (record { at = c.in-Stamp.next; moment = c.in-Stamp.stamp; count = c.args.reached.count })
    (subst (λ (w : WordAnswer). IsWordRead c.args.data.now c.args.reached.at w) c.in-Stamp.is
    c.in_ok-delta.ensures.word)

pub returns-in-Pad-clause-left : goal.returns-in-Pad-clause-left
returns-in-Pad-clause-left c =
    left-padding c.args.data.now c.args.reached
    (record { at = c.in-Pad.next; moment = c.args.reached.moment; count = c.args.reached.count })
    (subst (λ (w : WordAnswer). IsWordRead c.args.data.now c.args.reached.at w) c.in-Pad.is
    c.in_ok-delta.ensures.word) refl (omega arith)
