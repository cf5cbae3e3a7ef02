use Rattle.std.proofs.Common.{◌≡◌, ◌∙◌, ℕ, ◌+◌, ◌∷◌, ◌++◌, List, length, map, refl, [], sym, ap, subst, arith}
use Rattle.std.proofs.lemmas.Grind.{common_steps}
use Rattle.std.proofs.lemmas.Iterator.Consumers.{YieldsList-from_first, YieldsList-end}
use Rattle.std.specs.List.{enumerate_from}
use Rattle.trace_model.specs.Record.{Record}
use Rattle.page_borrow.specs.Entries.{numbered_record}
use Rattle.page_numbers.specs.Parcels.{as_parcel, entries_of_parcel}
use Rattle.time_merge.specs.LineOrder.{line_of}
use Rattle.page_lines.specs.declared.at_hand.Place.{Place}
use Rattle.page_lines.proofs.Values.{values, without_numbers}
use Rattle.page_lines.proofs.Placed.{HavePut, put_more}
use Rattle.page_lines.proofs.at_hand.put_records.Goals as goal

pub loop-entry-preserved : goal.loop-entry-preserved
loop-entry-preserved c =
    let l = c.loop-entry in
    let entry = c.in-Some.entry in
    let put = c.in_ok-put_record.ensures in
    let place : Place = record {
      moment = entry.moment;
      number = record { 0 = l.number };
      start = length l.bytes.items;
      end = length c.put_record.new.bytes.items;
    } in
    let next : l.number + 1 ≡ c.in_ok-number.number = grind (arith, common_steps) in
    let more =
    put_more c.args.first.0 l.number l.yielded l.places.items l.bytes.items entry place l.invariant refl refl refl
    (ap length put.bytes) in
    subst (λ (n : ℕ). HavePut c.args.first.0 (l.yielded ++ entry ∷ []) c.put_record.new.places.items
    c.put_record.new.bytes.items n) next
    (subst (λ (ps : List Place). HavePut c.args.first.0 (l.yielded ++ entry ∷ []) ps c.put_record.new.bytes.items
    (l.number + 1)) (sym put.place)
    (subst (λ (bs : List ℕ). HavePut c.args.first.0 (l.yielded ++ entry ∷ []) (l.places.items ++ place ∷ []) bs
    (l.number + 1)) (sym put.bytes) more))

pub returns-clause-lines : goal.returns-clause-lines
returns-clause-lines c cpu =
    let l = c.loop-entry in
    let parcel = as_parcel c.args.parcel.now in
    let all =
    YieldsList-end
    (YieldsList-from_first numbered_record (λ left. left) (entries_of_parcel parcel)
    (c.into_iter-entry-iterator.ensures.into_iter_gives ∙ c.records-entry-items.ensures.entries)) l.yielded _
    l.yielded_by _ _ c.in-None.is c.next.ensures.steps in
    let same : values l.yielded ≡ parcel.records =
    ap (map (λ (pair : ℕ × Record). pair.1)) all.0 ∙ without_numbers parcel.first parcel.records in
    l.invariant.lines cpu
    ∙ ap (λ (rs : List Record). map (line_of cpu) (enumerate_from c.args.first.0 rs)) same
