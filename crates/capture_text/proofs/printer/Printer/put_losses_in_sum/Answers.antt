use Rattle.std.proofs.Common.{◌≡◌, ◌∙◌, ℕ, length, ap, sym}
use Rattle.std.proofs.lemmas.List.{length-map}
use Rattle.capture.specs.Pages.{unknown_from}
use Rattle.text_values.proofs.Chains.{put_same}
use Rattle.capture_text.specs.LossSums.{listed_sum, missing_count}
use Rattle.capture_text.specs.Selection.{selection_seen}
use Rattle.capture_text.proofs.printer.Printer.put_losses_in_sum.Goals as goal

pub returns : goal.returns
returns g c = λ pages runs is are.
    let printer = c.args.self.now in
    let unknown = c.args.capture.now.unknown in
    let count : c.len-unknown.result ≡ length (unknown_from 0 pages) =
    c.len-unknown.ensures ∙ unknown.ok.0 ∙ sym (length-map unknown.items (λ n. n.0)) ∙ ap length is.unknown_are in
    put_same _ _
    (ap (λ (n : ℕ). listed_sum printer.form (selection_seen printer.selection) c.args.capture.now.cpu.0
    (missing_count runs) n c.args.ring) count)
    (c.put_listed_sum.ensures runs are)
