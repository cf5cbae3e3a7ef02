use Rattle.std.proofs.Common.{rules, ◌≡◌, List, [], ◌∷◌, ◌++◌, length, map, ap, sym, subst, ◌∙◌, Option, arith}
use Rattle.std.specs.List.{slice_get}
use Rattle.event_fields.specs.Lines.{field_seen}
use Rattle.kernel_names.specs.FieldTables.{Table}
use Rattle.kernel_names.specs.EventTables.{AreTablesOf, list_or_none, tables_seen}
use Rattle.kernel_names.proofs.TableLists.{all_tables, no_tables, nothing, past_end, last_is, before_last}
use Rattle.kernel_names.proofs.event_tables.EventTables.put.Goals as goal

pub returns-then-is_empty-clause-known : goal.returns-then-is_empty-clause-known
returns-then-is_empty-clause-known c =
    let lists = c.args.self.now.lists.items in
    let len : length c.call_text-calls.result.now ≡ 0 = search rules in
    let none = nothing c.call_text-calls.result.now len in
    no_tables c.call_text-calls.result.now c.args.format.now (map field_seen c.args.fields.now)
    (list_or_none (slice_get lists c.args.id)) c.call_text-calls.ensures none
    (ap list_or_none (past_end lists c.args.id c.requires))

pub returns-clause-known : goal.returns-clause-known
returns-clause-known c =
    let filled = c.fill.new.self.lists.items in
    let tables = c.in_ok-tables.tables in
    let fields = map field_seen c.args.fields.now in
    let pushed : c.push.new.self.items ≡ filled ++ tables ∷ [] = search rules in
    let len : length filled ≡ c.args.id = search rules in
    let here : list_or_none (slice_get c.push.new.self.items c.args.id) ≡ tables_seen tables.items =
    ap (λ ls. list_or_none (slice_get ls c.args.id)) pushed
    ∙ ap list_or_none (last_is filled tables c.args.id len) in
    subst (λ (ts : List (Option Table)). AreTablesOf ts c.args.format.now fields) (sym here)
    (all_tables c.call_text-calls.result.now c.args.format.now fields (tables_seen tables.items)
    c.call_text-calls.ensures c.in_ok-tables.ensures)

pub returns-clause-kept : goal.returns-clause-kept
returns-clause-kept c n below =
    let filled = c.fill.new.self.lists.items in
    let tables = c.in_ok-tables.tables in
    let pushed : c.push.new.self.items ≡ filled ++ tables ∷ [] = search rules in
    let len : length filled ≡ c.args.id = search rules in
    ap (λ ls. list_or_none (slice_get ls n)) pushed
    ∙ ap list_or_none (before_last filled tables n (omega (arith, len, below)))
    ∙ c.in_ok-fill.ensures.kept n
