-- The word of a link determines the link.
use Rattle.std.proofs.Common.{◌≡◌, ◌≢◌, ℕ, ◌%◌, ◌^◌, ◌<◌, refl, arith}
use Rattle.trace_model.specs.Links.{Mark, normal, header, update, Link, mark_code, word_of, FitsWord}

pub mark_of : (a b : Mark) → mark_code a ≡ mark_code b → a ≡ b
mark_of normal normal e = refl
mark_of header header e = refl
mark_of update update e = refl
mark_of normal header e = absurd (omega arith)
mark_of normal update e = absurd (omega arith)
mark_of header normal e = absurd (omega arith)
mark_of header update e = absurd (omega arith)
mark_of update normal e = absurd (omega arith)
mark_of update header e = absurd (omega arith)

code_below : (m : Mark) → mark_code m < 3
code_below normal = omega arith
code_below header = omega arith
code_below update = omega arith

link_from_parts : (a b : Mark) (page page' fill fill' : ℕ) → a ≡ b → page ≡ page' → fill ≡ fill'
    → (let l : Link = record { mark = a; page = page; fill = fill } in l)
    ≡ record { mark = b; page = page'; fill = fill' }
link_from_parts a b page page' fill fill' e f g = cc

pub word_reports : (l other : Link) → FitsWord l → FitsWord other → word_of l ≡ word_of other → l ≡ other
word_reports l other fits others same =
    let a = code_below l.mark in let b = code_below other.mark in
    let p = fits.page_fits in let q = others.page_fits in
    let codes : mark_code l.mark ≡ mark_code other.mark = omega arith in
    link_from_parts l.mark other.mark l.page other.page l.fill other.fill (mark_of l.mark other.mark codes)
    (omega arith) (omega arith)

pub no_mark : (l : Link) → word_of l % 4 ≢ 3
no_mark l three = let a = code_below l.mark in absurd (omega arith)

pub word_bits : (l : Link) → FitsWord l → word_of l < 2 ^ 64
word_bits l fits = let a = code_below l.mark in let p = fits.page_fits in let q = fits.fill_fits in omega arith
