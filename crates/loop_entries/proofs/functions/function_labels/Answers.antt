use Rattle.std.proofs.Common.{[], List, refl, ap, ◌∙◌, arith}
use Rattle.std.proofs.lemmas.List.{drop_all}
use Rattle.loop_ranges.proofs.found_rows.Walks.{comes_on}
use Rattle.f_tree.specs.declared.statements.Stmt.{Stmt}
use Rattle.f_tree.specs.Attributes.{Expansion, from_all, arrays_of, definitions_in, expansions_from}
use Rattle.name_facts.specs.declaration_rows.NameRows.{own_attributes}
use Rattle.loop_entries.proofs.FunctionLaws.{expansions_step, expansions_end, none_told, all_told}
use Rattle.loop_entries.proofs.UseLemmas.{statement_of}
use Rattle.loop_entries.proofs.functions.function_labels.Goals as goal

pub loop-statement-init : goal.loop-statement-init
loop-statement-init c = record { before = []; told = none_told c.args.unit.now c.new-functions.result c.new-functions.ensures; rest = refl }

pub loop-statement-preserved : goal.loop-statement-preserved
loop-statement-preserved c =
    let u = c.args.unit.now in
    let ss = c.as_slice-statement-items.result.now in
    let i = c.loop-statement.statement-index in
    let inv = c.loop-statement.invariant in
    let s = c.statement-item.result in
    let notes = c.in_ok-note_statement.ensures u c.requires c.in_ok-arrays.ensures.names (statement_of u ss i s s c.as_slice-statement-items.ensures c.loop-statement-test.true c.statement-item.is) in
    record {
      before = expansions_from (own_attributes u) inv.before (definitions_in (arrays_of u) s.body);
      told = notes.noted inv.before inv.told;
      rest = comes_on (λ (es : List Expansion) (ts : List Stmt). expansions_from (own_attributes u) es (from_all (definitions_in (arrays_of u)) ts))
          (λ (es : List Expansion) (t : Stmt). expansions_from (own_attributes u) es (definitions_in (arrays_of u) t.body)) (expansions_step u) ss i s _ inv.before _ _ c.loop-statement-test.true
          c.statement-item.is inv.rest refl;
    }

pub returns : goal.returns
returns c =
    let u = c.args.unit.now in
    let ss = c.as_slice-statement-items.result.now in
    let inv = c.loop-statement.invariant in
    all_told u ss c.loop-statement.functions inv.before c.as_slice-statement-items.ensures
    (inv.rest ∙ ap (λ (ts : List Stmt). expansions_from (own_attributes u) inv.before (from_all (definitions_in (arrays_of u)) ts)) (drop_all c.loop-statement.statement-index ss (omega arith))
    ∙ expansions_end u inv.before) inv.told
