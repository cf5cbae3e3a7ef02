use Rattle.std.proofs.Common.{◌≡◌, ◌+◌, ◌++◌, List, length, length-append, ap, ◌∙◌, arith}
use Rattle.trace_script.specs.Kept.{Kept}
use Rattle.trace_script.proofs.kept_lines.KeptLines.len.Goals as goal

pub returns : goal.returns
returns c =
    let narrow = c.self.inside.narrow in
    let wide = c.self.inside.wide in
    let all = length-append narrow.items wide.items in
    let both : c.len.result + c.len-2.result ≡ length (narrow.items ++ wide.items) =
    omega (arith, c.len.ensures, c.len-2.ensures, narrow.ok.0, wide.ok.0, all) in
    both ∙ ap (λ (l : List Kept). length l) c.self.view_is
