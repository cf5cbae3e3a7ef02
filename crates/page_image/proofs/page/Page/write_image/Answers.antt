use Rattle.std.specs.Prelude.{Vec}
use Rattle.std.specs.declared.alloc.Global.{Global}
use Rattle.std.proofs.Common.{◌≡◌, ℕ, ◌+◌, ◌-◌, Bool, true, false, cond, List, [], ◌++◌, length, take, drop, replicate}
use Rattle.std.proofs.Common.{sym, ap, ◌∙◌, subst, arith, length-take-le, append-nil}
use Rattle.std.specs.Int.{to_le_bytes, w64}
use Rattle.trace_model.specs.Image.{le64, Commit, commit_word, commit_of, stores_count, stored_count, DecodesImage}
use Rattle.trace_model.specs.Image.{missed_reported}
use Rattle.trace_model.proofs.images.Images.{DecodesImage-image_of}
use Rattle.page_image.specs.Contents.{Contents, records_of_page}
use Rattle.page_image.proofs.ImageWrites.{written-image_of, behind-image_of}
use Rattle.page_image.proofs.page.Page.write_image.Goals.{then-stores_count+in_ok-extend_from_slice-4}
use Rattle.page_image.proofs.page.Page.write_image.Goals.{else-stores_count}
use Rattle.page_image.proofs.page.Page.write_image.Goals as goal

-- a count that is stored, and none
counted : (items four : List ℕ) (contents : List ℕ) (missed size : ℕ) → four ≡ items ++ to_le_bytes w64 missed
    → stores_count contents missed size ≡ true → four ≡ items ++ stored_count contents missed size
unfolding le64
counted items four contents missed size is stores =
    is ∙ ap (λ (b : Bool). items ++ cond b (le64 missed) []) (sym stores)

uncounted : (items four : List ℕ) (contents : List ℕ) (missed size : ℕ) → four ≡ items
    → stores_count contents missed size ≡ false → four ≡ items ++ stored_count contents missed size
uncounted items four contents missed size is stores =
    is ∙ sym (append-nil items) ∙ ap (λ (b : Bool). items ++ cond b (le64 missed) []) (sym stores)

pub returns-clause-image : goal.returns-clause-image
returns-clause-image c =
    let v = c.self.inside in
    let page = c.args.self.now in
    let missed = c.args.missed in
    let time_is : v.time ≡ page.time = ap (λ (p : Contents). p.time) c.self.view_is in
    let size_is : length v.body ≡ page.size = ap (λ (p : Contents). p.size) c.self.view_is in
    let bytes_is : take v.end v.body ≡ page.bytes = ap (λ (p : Contents). p.bytes) c.self.view_is in
    let end_is : length page.bytes ≡ v.end =
    sym (ap length bytes_is) ∙ length-take-le v.end v.body c.self.invariant.0 in
    let whole : c.size-size.result ≡ page.size = c.size-size.ensures.size ∙ size_is in
    let sized : c.size.result ≡ page.size = c.size.ensures.size ∙ size_is in
    let reach = c.self.invariant.0 in
    let commit = c.written-commit.ensures.commit page.bytes end_is ∙ ap (commit_of page.bytes missed) sized in
    let stores : c.stores_count.result ≡ stores_count page.bytes missed page.size =
    c.stores_count.ensures ∙ ap (λ (k : Commit). k.is_stored) commit in
    let first : c.extend_from_slice.new.self.items ≡ c.in_ok-image.image.items ++ to_le_bytes w64 page.time =
    c.in_ok-extend_from_slice.ensures.items
    ∙ ap (λ (b : List ℕ). c.in_ok-image.image.items ++ b) (c.to_le_bytes.ensures ∙ ap (to_le_bytes w64) time_is) in
    let second : c.extend_from_slice-2.new.self.items
    ≡ c.extend_from_slice.new.self.items ++ to_le_bytes w64 (commit_word (commit_of page.bytes missed page.size)) =
    c.in_ok-extend_from_slice-2.ensures.items
    ∙ ap (λ (b : List ℕ). c.extend_from_slice.new.self.items ++ b)
    (c.to_le_bytes-2.ensures ∙ ap (to_le_bytes w64) (c.word.ensures ∙ ap commit_word commit)) in
    let third : c.extend_from_slice-3.new.self.items ≡ c.extend_from_slice-2.new.self.items ++ page.bytes =
    c.in_ok-extend_from_slice-3.ensures.items
    ∙ ap (λ (b : List ℕ). c.extend_from_slice-2.new.self.items ++ b) c.data.ensures in
    let fourth : c.if-stores_count.image.items
    ≡ c.extend_from_slice-3.new.self.items ++ stored_count page.bytes missed page.size =
    elim c.if-stores_count.branch [
      | then-stores_count+in_ok-extend_from_slice-4 w ↦ counted c.extend_from_slice-3.new.self.items _ page.bytes missed
          page.size
          (ap (λ (x : Vec ℕ Global). x.items) w.image-is ∙ w.in_ok-extend_from_slice-4.ensures.items
          ∙ ap (λ (b : List ℕ). c.extend_from_slice-3.new.self.items ++ b) w.to_le_bytes-then-stores_count.ensures)
          (sym stores ∙ w.if-stores_count.true)
      | else-stores_count w ↦ uncounted c.extend_from_slice-3.new.self.items _ page.bytes missed page.size
          (ap (λ (x : Vec ℕ Global). x.items) w.image-is) (sym stores ∙ w.if-stores_count.false)
    ] in
    written-image_of page.time missed page.size _ page.bytes c.in_ok-image.image.items
    c.extend_from_slice.new.self.items c.extend_from_slice-2.new.self.items c.extend_from_slice-3.new.self.items
    c.if-stores_count.image.items c.resize.new.self.items
    c.in_ok-image.ensures.items first second third fourth c.if-stores_count.image.ok.0
    (c.in_ok-resize.ensures.items
    ∙ ap (λ (n : ℕ). take (16 + n) c.if-stores_count.image.items ++ replicate (16 + n - c.if-stores_count.image.len) 0)
    whole) (omega arith)

pub returns-clause-behind : goal.returns-clause-behind
returns-clause-behind c =
    let page = c.args.self.now in
    ap (drop (16 + length page.bytes)) (returns-clause-image c)
    ∙ behind-image_of page.time page.bytes c.args.missed page.size

pub returns-clause-reads : goal.returns-clause-reads
returns-clause-reads c = λ is.
    let v = c.self.inside in
    let page = c.args.self.now in
    let size_is : length v.body ≡ page.size = ap (λ (p : Contents). p.size) c.self.view_is in
    let bytes_is : take v.end v.body ≡ page.bytes = ap (λ (p : Contents). p.bytes) c.self.view_is in
    let end_is : v.end ≡ length page.bytes =
    sym (length-take-le v.end v.body c.self.invariant.0) ∙ ap length bytes_is in
    let reach = c.self.invariant.0 in
    let limit = c.self.invariant.1 in
    subst
    (λ (b : List ℕ).
    DecodesImage b page.time (length page.bytes) (missed_reported page.bytes c.args.missed page.size)
    (records_of_page page)) (sym (returns-clause-image c))
    (DecodesImage-image_of page.time page.bytes c.args.missed page.size (records_of_page page) is.in_time
    c.ranges.missed.fits (omega arith) (omega arith) is.reads)
