use Rattle.std.proofs.Common.{◌++◌, map, true, false, refl, ap, ◌∙◌, append_assoc, arith}
use Rattle.found_rows.proofs.Walks.{each_more, each_end}
use Rattle.f_tree.specs.Attributes.{entry_names_in}
use Rattle.f_tree.specs.Lines.{common_in}
use Rattle.declaration_rows.specs.GlobalRows.{global_at, block_names, globals_of_statements}
use Rattle.set_judge.specs.GlobalSteps.{globals_in}
use Rattle.set_judge.proofs.NameLemmas.{statements_step, names_of_statement}
use Rattle.set_judge.proofs.globals.add_statement_names.Goals as goal

pub loop-statement-preserved : goal.loop-statement-preserved
loop-statement-preserved c =
    let s = c.statement-item.result in
    let earlier = globals_in c.loop-statement.names.items in
    let entries = map (global_at s false) (entry_names_in s.body) in
    let blocks = map (global_at s true) (block_names (common_in s.body)) in
    each_more globals_of_statements names_of_statement statements_step c.args.statements.now c.loop-statement.statement-index s _ _ _ _ c.loop-statement-test.true
    c.statement-item.is c.loop-statement.invariant
    (c.in_ok-add_block_names.ensures ∙ ap (λ gs. gs ++ blocks) c.in_ok-add_entry_name.ensures ∙ append_assoc earlier entries blocks)

pub returns : goal.returns
unfolding globals_of_statements
returns c =
    each_end globals_of_statements names_of_statement refl c.args.statements.now c.loop-statement.statement-index _ _ (omega arith) c.loop-statement.invariant
