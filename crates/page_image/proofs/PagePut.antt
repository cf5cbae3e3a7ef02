-- A record put into the body of a page, as the page sees it.
use Rattle.std.proofs.Common.{◌≡◌, ℕ, ◌+◌, ◌-◌, ◌≤◌, ◌^◌, Bool, cond, List, ◌++◌, length, take, refl, sym, ap, ◌∙◌}
use Rattle.std.proofs.Common.{arith, length-take-le}
use Rattle.trace_model.specs.declared.limits.TheConstants.{MAX_SIZE}
use Rattle.trace_model.specs.Words.{encoding, encoded_len, slot_len}
use Rattle.trace_model.proofs.words.Lengths.{slot_len_ge}
use Rattle.record_words.specs.declared.put.Place.{Place}
use Rattle.page_image.specs.Contents.{Contents, is_blank}
use Rattle.page_image.specs.Putting.{CanPut, HasPut, PutsBehind}
use Rattle.page_image.proofs.Putting.{has_put}

-- the page of this body whose data ends there
abbrev pub page_of : (body : List ℕ) (time end first count fill : ℕ) → Contents
page_of body time end first count fill =
    record { time = time; first = first; count = count; fill = fill; size = length body; bytes = take end body }

module _ (body new : List ℕ) (old_time time end end' first count fill prev moment len : ℕ) (blank : Bool)
    (slot : List ℕ) (at : Place)
    (reach : end ≤ length body) (limit : length body ≤ MAX_SIZE)
    (can : CanPut (page_of body old_time end first count fill) prev moment len)
    (blank_is : blank ≡ is_blank (take end body))
    (put : PutsBehind body new end (moment - prev) blank len slot at)
    (same_size : length new ≡ length body)
    (slot_is : length slot ≡ slot_len len)
    (end_is : end' ≡ at.start + at.len)
    (time_is : time ≡ cond blank moment old_time) where
  pub page_has_put : HasPut (page_of body old_time end first count fill) (page_of new time end' first (count + 1) fill)
      prev moment len slot at
  page_has_put =
      let delta : ℕ = moment - prev in
      let end_len : length (take end body) ≡ end = length-take-le end body reach in
      let room = can.room in
      let longer : at.start + at.len ≡ length (take end body) + encoded_len len delta (is_blank (take end body)) =
      put.ends_at ∙ (λ i. sym end_len i + encoded_len len delta (blank_is i)) in
      let short : len ≤ 2 ^ 30 = omega (arith, slot_len_ge len) in
      let bytes : take end' new ≡ take end body ++ encoding delta (is_blank (take end body)) slot =
      ap (λ (n : ℕ). take n new) end_is ∙ put.bytes
      ∙ ap (λ (b : Bool). take end body ++ encoding delta b slot) blank_is in
      let long : length (take end' new) ≡ at.start + at.len = length-take-le end' new (omega arith) ∙ end_is in
      has_put (page_of body old_time end first count fill) (page_of new time end' first (count + 1) fill) prev moment
      len slot at
      can.ends can.last can.order can.in_time short slot_is bytes (long ∙ longer)
      (time_is ∙ ap (λ (b : Bool). cond b moment old_time) blank_is) refl refl refl same_size (sym long) put.len_is
