use Rattle.std.proofs.Common.{List, ◌≡◌, ◌++◌, length, sym, ap, ◌∙◌, arith}
use Rattle.f_tree.specs.declared.refusals.Refusal.{Refusal}
use Rattle.name_facts.specs.declaration_rows.UnitRows.{crossing_rows}
use Rattle.loop_ranges.specs.OpenRanges.{ranges_at}
use Rattle.loop_entries.proofs.CrossingLemmas.{none_by_length, contained_where_none}
use Rattle.loop_entries.proofs.LineLemmas.{lines_count}
use Rattle.loop_entries.proofs.nested.are_contained.Goals as goal

pub returns : goal.returns
returns c = λ p names reads ends.
    let ss = c.args.statements.now in
    let found = c.add_range_rows.new.found in
    let count : found.len ≡ length found.items = omega (arith, found.ok.0) in
    none_by_length found.items c.is_empty.result found.len count c.is_empty.ensures
    ∙ contained_where_none p ss c.args.ends.now found.items (sym (lines_count p names ss reads)) ends
    (c.in_ok-add_range_rows.ensures ∙ ap (λ (rs : List Refusal). rs ++ crossing_rows (ranges_at 0 c.args.ends.now) 0 ss) c.new-crossing.ensures.items)
