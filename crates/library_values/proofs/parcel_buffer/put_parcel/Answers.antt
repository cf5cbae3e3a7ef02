use Rattle.std.proofs.Common.{◌≡◌, ◌+◌, ◌-◌, ◌≤◌, ℕ, List, ◌++◌, take, drop, length, replicate, sym, ap, ◌∙◌, arith}
use Rattle.std.specs.Int.{to_le_bytes, w64}
use Rattle.trace_model.specs.Image.{stores_count, stored_count, commit_of, commit_word}
use Rattle.trace_model.proofs.images.Parcels.{length-bytes_of_parcel, DecodesParcel-bytes_of_parcel}
use Rattle.page_numbers.specs.Parcels.{parcel_of_page}
use Rattle.page_numbers.specs.Written.{bytes_of_page}
use Rattle.library_values.specs.Used.{used_size, used_page}
use Rattle.library_values.proofs.Fronts.{stays_after, whole_is, stored_fits, parts_are}
use Rattle.library_values.proofs.Used.{zeros_follow, front_is}
use Rattle.library_values.proofs.parcel_buffer.put_parcel.Goals as goal

pub put_zeros-requires-clause-order : goal.put_zeros-requires-clause-order
put_zeros-requires-clause-order c =
    let page = c.args.page.now in
    let end = c.end.ensures in
    let last = c.end-end.ensures in
    let room = c.room.ensures.room in
    let size_is : c.end.result + c.room.result ≡ page.size = omega arith in
    let stored : c.stores_count-stored.result ≡ stores_count page.bytes c.args.missed page.size =
    c.stores_count-stored.ensures page.bytes (sym c.end-2.ensures)
    ∙ ap (stores_count page.bytes c.args.missed) size_is in
    let behind = c.put_count-used.ensures.end page.bytes page.size stored in
    let fits = stored_fits page.bytes c.args.missed page.size (omega arith) in
    omega arith

pub returns-clause-size : goal.returns-clause-size
returns-clause-size c =
    let page = c.args.page.now in
    let room = c.room.ensures.room in
    length-bytes_of_parcel (parcel_of_page c.args.cpu.0 page c.args.missed) page.time page.bytes page.size (omega arith)

pub returns-clause-len : goal.returns-clause-len
returns-clause-len c =
    let page = c.args.page.now in
    let end = c.end.ensures in
    let last = c.end-end.ensures in
    let room = c.room.ensures.room in
    let size_is : c.end.result + c.room.result ≡ page.size = omega arith in
    let stored : c.stores_count-stored.result ≡ stores_count page.bytes c.args.missed page.size =
    c.stores_count-stored.ensures page.bytes (sym c.end-2.ensures)
    ∙ ap (stores_count page.bytes c.args.missed) size_is in
    let behind = c.put_count-used.ensures.end page.bytes page.size stored in
    omega arith

pub returns-clause-reads : goal.returns-clause-reads
returns-clause-reads c = λ is sound.
    let page = c.args.page.now in
    let room = c.room.ensures.room in
    let limit = c.room.ensures.limit in
    let fill = c.fill.ensures in
    DecodesParcel-bytes_of_parcel (parcel_of_page c.args.cpu.0 page c.args.missed) page.time page.bytes page.size sound
    (omega arith) is.in_time (omega arith) (omega arith) is.reads

pub returns-clause-bytes : goal.returns-clause-bytes
returns-clause-bytes c =
    let page = c.args.page.now in
    let missed = c.args.missed in
    let end = c.end.ensures in
    let room = c.room.ensures.room in
    let size_is : c.end.result + c.room.result ≡ page.size = omega arith in
    let stored : c.stores_count-stored.result ≡ stores_count page.bytes missed page.size =
    c.stores_count-stored.ensures page.bytes (sym c.end-2.ensures) ∙ ap (stores_count page.bytes missed) size_is in
    let word =
    c.commit_number.ensures page.bytes (sym c.end-3.ensures)
    ∙ ap (λ (k : ℕ). commit_word (commit_of page.bytes missed k)) size_is in
    let last = c.end-end.ensures in
    let behind_is = c.put_count-used.ensures.end page.bytes page.size stored in
    let fits = stored_fits page.bytes missed page.size (omega arith) in
    let n : ℕ = 48 + (c.end.result + c.room.result) in
    let behind : ℕ = c.put_count-used.result in
    let bytes_are = c.data.ensures in
    let zeros_are : n - behind ≡ page.size - length page.bytes - length (stored_count page.bytes missed page.size) =
    omega arith in
    let front =
    parts_are c.args.cpu.0 page.fill page.first missed page.time
    (commit_word (commit_of page.bytes missed page.size)) page.bytes (stored_count page.bytes missed page.size)
    (replicate (page.size - length page.bytes - length (stored_count page.bytes missed page.size)) 0)
    c.args.out.now c.put_number.new.out c.put_number-2.new.out c.put_number-3.new.out c.put_number-4.new.out
    c.put_number-5.new.out c.put_number-6.new.out c.put.new.out c.put_count-used.new.out c.put_zeros.new.out
    (48 + c.end-end.result) behind n
    (c.put_number.ensures.put ∙ ap (λ (k : ℕ). take 0 c.args.out.now ++ to_le_bytes w64 k) c.from.ensures)
    (c.put_number-2.ensures.put ∙ ap (λ (k : ℕ). take 8 c.put_number.new.out ++ to_le_bytes w64 k) c.fill.ensures)
    (c.put_number-3.ensures.put ∙ ap (λ (k : ℕ). take 16 c.put_number-2.new.out ++ to_le_bytes w64 k) c.first.ensures)
    c.put_number-4.ensures.put
    (c.put_number-5.ensures.put ∙ ap (λ (k : ℕ). take 32 c.put_number-4.new.out ++ to_le_bytes w64 k) c.time.ensures)
    (c.put_number-6.ensures.put ∙ ap (λ (k : ℕ). take 40 c.put_number-5.new.out ++ to_le_bytes w64 k) word)
    (ap (λ (k : ℕ). take (48 + k) c.put.new.out) (last ∙ ap length (sym bytes_are)) ∙ c.put.ensures.put
    ∙ ap (λ (l : List ℕ). take 48 c.put_number-6.new.out ++ l) bytes_are)
    (c.put_count-used.ensures.put page.bytes page.size stored)
    (c.put_zeros.ensures.put ∙ ap (λ (k : ℕ). take behind c.put_count-used.new.out ++ replicate k 0) zeros_are) in
    let data_len : length c.data.result.now ≡ length page.bytes = ap length bytes_are in
    let rest : drop n c.put_zeros.new.out ≡ drop n c.args.out.now =
    c.put_zeros.ensures.behind
    ∙ stays_after behind n c.put_count-used.new.out c.put.new.out (omega arith) c.put_count-used.ensures.behind
    ∙ stays_after (48 + length c.data.result.now) n c.put.new.out c.put_number-6.new.out (omega arith)
    c.put.ensures.behind
    ∙ stays_after 48 n c.put_number-6.new.out c.put_number-5.new.out (omega arith) c.put_number-6.ensures.behind
    ∙ stays_after 40 n c.put_number-5.new.out c.put_number-4.new.out (omega arith) c.put_number-5.ensures.behind
    ∙ stays_after 32 n c.put_number-4.new.out c.put_number-3.new.out (omega arith) c.put_number-4.ensures.behind
    ∙ stays_after 24 n c.put_number-3.new.out c.put_number-2.new.out (omega arith) c.put_number-3.ensures.behind
    ∙ stays_after 16 n c.put_number-2.new.out c.put_number.new.out (omega arith) c.put_number-2.ensures.behind
    ∙ stays_after 8 n c.put_number.new.out c.args.out.now (omega arith) c.put_number.ensures.behind in
    let len = returns-clause-size c in
    whole_is n c.put_zeros.new.out c.args.out.now _ front rest (omega arith)

pub returns-clause-used : goal.returns-clause-used
returns-clause-used c =
    let page = c.args.page.now in
    let missed = c.args.missed in
    let room = c.room.ensures.room in
    let fits : length page.bytes ≤ page.size = omega arith in
    let used : List ℕ = bytes_of_page c.args.cpu.0 (used_page page missed) missed in
    let len : length used ≡ 48 + used_size page missed =
    length-bytes_of_parcel (parcel_of_page c.args.cpu.0 page missed) page.time page.bytes (used_size page missed)
    (omega arith) in
    let whole = returns-clause-bytes c in
    front_is used (replicate (page.size - used_size page missed) 0)
    (drop (length (bytes_of_page c.args.cpu.0 page missed)) c.args.out.now) c.put_count-used.result
    c.put_zeros.new.out
    (whole
    ∙ ap (λ (l : List ℕ). l ++ drop (length (bytes_of_page c.args.cpu.0 page missed)) c.args.out.now)
    (sym (zeros_follow c.args.cpu.0 page missed fits)))
    (returns-clause-len c ∙ sym len)

pub returns-clause-used_reads : goal.returns-clause-used_reads
returns-clause-used_reads c = λ is sound.
    let page = c.args.page.now in
    let room = c.room.ensures.room in
    let limit = c.room.ensures.limit in
    let fill = c.fill.ensures in
    let fits : length page.bytes ≤ page.size = omega arith in
    let stored = stored_fits page.bytes c.args.missed page.size fits in
    DecodesParcel-bytes_of_parcel (parcel_of_page c.args.cpu.0 page c.args.missed) page.time page.bytes
    (used_size page c.args.missed) sound (omega arith) is.in_time (omega arith) (omega arith) is.reads
