-- The page of a settled ring that no take has answered.
use Rattle.std.proofs.Common.{◌≡◌, Bool, true, false, cond, nat_eq, Option, Some, None, refl, sym, ap, ◌∙◌}
use Rattle.page_image.specs.Contents.{Contents}
use Rattle.ring_shared.specs.Settling.{unread_page}
use Rattle.ring_shared.specs.declared.settling.Settled.{Settled}

abbrev value_or : Contents → Option Contents → Contents
value_or page None = page
value_or page (Some other) = other

same_either : (b : Bool) (page : Contents) → value_or page (cond b None (Some page)) ≡ page
same_either true page = refl
same_either false page = refl

-- it is the tail
pub unread_is : (settled : Settled) (page : Contents) → unread_page settled ≡ Some page → page ≡ settled.tail
unread_is settled page is = sym (ap (value_or settled.tail) is) ∙ same_either (nat_eq settled.tail.count 0) settled.tail
