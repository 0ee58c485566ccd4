use Rattle.std.proofs.Common.{[], List, refl, sym, ap, ◌∙◌, arith}
use Rattle.std.proofs.lemmas.List.{drop_all}
use Rattle.found_rows.proofs.Walks.{comes_on}
use Rattle.f_tree.specs.declared.statements.Stmt.{Stmt}
use Rattle.f_tree.specs.Attributes.{from_all, definitions_in}
use Rattle.declaration_rows.specs.ExpansionRows.{Sized, sized_from}
use Rattle.name_table.specs.Named.{names_in}
use Rattle.expansion_judge.proofs.FunctionLaws.{sized_step, sized_end, nothing_sized, sized_as}
use Rattle.expansion_judge.proofs.functions.function_table.Goals as goal

pub loop-statement-init : goal.loop-statement-init
loop-statement-init c = record { before = []; are_sized = nothing_sized c.new-functions.result c.new-functions.ensures; rest = refl }

pub loop-statement-preserved : goal.loop-statement-preserved
loop-statement-preserved c =
    let arrays = names_in c.args.arrays.now in
    let inv = c.loop-statement.invariant in
    let s = c.statement-item.result in
    record {
      before = sized_from inv.before (definitions_in arrays s.body);
      are_sized = c.in_ok-note_statement.ensures.sized inv.before inv.are_sized;
      rest = comes_on (λ (fs : List Sized) (ss : List Stmt). sized_from fs (from_all (definitions_in arrays) ss)) (λ (fs : List Sized) (s : Stmt). sized_from fs (definitions_in arrays s.body))
          (sized_step arrays) c.args.statements.now c.loop-statement.statement-index s _ inv.before _ _ c.loop-statement-test.true c.statement-item.is inv.rest refl;
    }

pub returns : goal.returns
returns c =
    let arrays = names_in c.args.arrays.now in
    let inv = c.loop-statement.invariant in
    sized_as c.loop-statement.functions inv.before (sized_from [] (from_all (definitions_in arrays) c.args.statements.now))
    (sym (inv.rest ∙ ap (λ (ss : List Stmt). sized_from inv.before (from_all (definitions_in arrays) ss)) (drop_all c.loop-statement.statement-index c.args.statements.now (omega arith))
    ∙ sized_end arrays inv.before)) inv.are_sized
