-- What the reader hears with a fill that it takes.
use Rattle.std.proofs.Common.{◌≡◌, ℕ, suc, ◌+◌, ◌-◌, ◌<◌, ◌≤◌, List, [], ◌∷◌, ◌++◌, length, get_or, take, map, sym, ap}
use Rattle.std.proofs.Common.{◌∙◌, arith, length-append, length-take-le, append_assoc}
use Rattle.std.proofs.lemmas.List.{map-append, length-map}
use Rattle.trace_model.specs.Record.{Record}
use Rattle.trace_model.specs.History.{HistoryEvent, Reservation, reserved_records, as_record}
use Rattle.trace_model.specs.Packing.{opens_of, fills_of, first_of_fill}
use Rattle.trace_model.specs.Fitting.{IsRising}
use Rattle.trace_model.specs.Ring.{PageRecords, fill_of}
use Rattle.trace_model.proofs.packing.FillFirsts.{first_below, fill_behind}
use Rattle.ring_model.proofs.partition.PartitionLemmas.{take_split, take_map}
use Rattle.ring_steps.proofs.Observed.{first_records}

-- The records up to the end of a fill: those before a number, those from there to the fill, and its own.
pub observed_with : (start : ℕ) (h : List HistoryEvent) (f expected : ℕ) (held : PageRecords)
    → f - start < length (opens_of h)
    → IsRising 0 (opens_of h) (length (reserved_records h))
    → expected ≤ first_of_fill h start f
    → held ≡ fill_of h start f
    → (lost : List Record)
    × (length lost ≡ held.first - expected)
    × (held.first + length held.records ≤ length (reserved_records h))
    × (first_records (held.first + length held.records) h
    ≡ first_records expected h ++ (lost ++ map as_record held.records))
observed_with start h f expected held low r le is =
    let xs : List Reservation = reserved_records h in
    let rs : List Record = map as_record xs in
    let first : ℕ = first_of_fill h start f in
    let fill : List Reservation = get_or (fills_of h) (f - start) [] in
    let first_is : held.first ≡ first = ap (λ (x : PageRecords). x.first) is in
    let records_is : held.records ≡ fill = ap (λ (x : PageRecords). x.records) is in
    let next : ℕ = get_or (0 ∷ opens_of h) (suc (f - start)) 0 in
    let up : take next xs ≡ take first xs ++ fill = fill_behind 0 (opens_of h) xs (f - start) low r in
    let within : next ≤ length xs = first_below 0 (opens_of h) (length xs) (suc (f - start)) low r in
    let short : first ≤ length xs = first_below 0 (opens_of h) (length xs) (f - start) (omega arith) r in
    let len : held.first + length held.records ≡ next =
    let a = ap (length {A = Reservation}) up in
    let b = length-take-le next xs within in
    let d = length-take-le first xs short in
    let e = length-append (take first xs) fill in let g = ap (length {A = Reservation}) records_is in omega arith in
    let (lost, size, split) = take_split expected first rs le (let same = length-map xs as_record in omega arith) in (
      lost,
      omega arith,
      omega arith,
      ap (λ (m : ℕ). take m rs) len
          ∙ (take_map as_record next xs
          ∙ (ap (map as_record) up
          ∙ (map-append as_record (take first xs) fill
          ∙ (ap (λ (l : List Record). l ++ map as_record fill) (sym (take_map as_record first xs) ∙ split)
          ∙ (append_assoc (take expected rs) lost (map as_record fill)
          ∙ ap (λ (l : List Reservation). take expected rs ++ (lost ++ map as_record l)) (sym records_is)))))),
    )
