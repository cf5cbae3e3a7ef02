use Rattle.std.proofs.Common.{ℕ, ◌-◌, ◌<◌, List, length, length-append, Some, refl, sym, ap, ◌∙◌, arith}
use Rattle.std.specs.List.{slice_get}
use Rattle.std.proofs.lemmas.Option.{slice_get_read}
use Rattle.trace_script.specs.Kept.{Kept}
use Rattle.trace_script.proofs.KeptLemmas.{front_at, behind_at}
use Rattle.trace_script.proofs.kept_lines.KeptLines.line.Goals as goal

pub returns-then-index-len : goal.returns-then-index-len
returns-then-index-len c =
    let narrow = c.self.inside.narrow in
    let low = c.if-index-len.true in
    let at = slice_get_read narrow.items (length narrow.items) c.args.index c.index.result.now refl
    (omega (arith, low, c.len.ensures, narrow.ok.0)) c.index.ensures in
    ap (λ (l : List Kept). slice_get l c.args.index) (sym c.self.view_is)
    ∙ front_at narrow.items c.self.inside.wide.items c.args.index c.index.result.now at
    ∙ ap (λ (l : Kept). Some l) (sym c.widened.ensures)

pub index-requires-2 : goal.index-requires-2
index-requires-2 c =
    let narrow = c.self.inside.narrow in
    let wide = c.self.inside.wide in
    let all = length-append narrow.items wide.items in
    let seen = ap (λ (l : List Kept). length l) c.self.view_is in
    omega (arith, c.requires, c.if-index-len.false, c.len.ensures, c.len-2.ensures, narrow.ok.0, wide.ok.0, all, seen)

pub returns : goal.returns
returns c =
    let narrow = c.self.inside.narrow in
    let wide = c.self.inside.wide in
    let all = length-append narrow.items wide.items in
    let seen = ap (λ (l : List Kept). length l) c.self.view_is in
    let behind : ℕ = c.args.index - c.len-2.result in
    let low : behind < length wide.items =
    omega
    (arith, c.requires, c.if-index-len.false, c.len.ensures, c.len-2.ensures, narrow.ok.0, wide.ok.0, all, seen) in
    let at = slice_get_read wide.items (length wide.items) behind c.index-2.result.now refl low c.index-2.ensures in
    ap (λ (l : List Kept). slice_get l c.args.index) (sym c.self.view_is)
    ∙ behind_at narrow.items wide.items c.args.index behind c.index-2.result.now
    (omega (arith, c.if-index-len.false, c.len.ensures, c.len-2.ensures, narrow.ok.0)) at
