use Rattle.std.proofs.Common.{[], reverse, refl, sym, ap, ◌∙◌, ◌++◌, arith}
use Rattle.std.proofs.lemmas.List.{drop_all}
use Rattle.found_rows.proofs.Walks.{walk_more, then_ok}
use Rattle.declaration_rows.specs.UnitRows.{nest_rows}
use Rattle.order_judge.proofs.NestLemmas.{row_of, behind_of, nest_step, nest_left}
use Rattle.order_judge.proofs.nest.add_nest_rows.Goals as goal

pub loop-statement-init : goal.loop-statement-init
loop-statement-init c = record { around = []; are_open = record { is = ap reverse c.new-open_blocks.ensures.items }; rows = refl }

pub loop-statement-preserved : goal.loop-statement-preserved
loop-statement-preserved c =
    let s = c.statement-item.result in
    let inv = c.loop-statement.invariant in
    record {
      around = behind_of inv.around s;
      are_open = c.in_ok-add_nest_row.ensures.around inv.around inv.are_open;
      rows = walk_more nest_rows row_of behind_of nest_step c.args.statements.now c.loop-statement.statement-index s _ inv.around _ _ _ _
          c.loop-statement-test.true c.statement-item.is inv.rows (c.in_ok-add_nest_row.ensures.rows inv.around inv.are_open) refl;
    }

pub returns : goal.returns
returns c =
    let inv = c.loop-statement.invariant in
    let earlier = c.loop-statement.found.items in
    then_ok _ _ c.add_unended_rows.result
    (λ put.
    put ∙ ap (λ rs. earlier ++ reverse rs) c.as_slice.ensures.value
    ∙ ap (λ rs. earlier ++ rs)
    (sym (ap (nest_rows inv.around) (drop_all c.loop-statement.statement-index c.args.statements.now (omega arith))
    ∙ nest_left c.loop-statement.open_blocks.items inv.around inv.are_open))
    ∙ sym inv.rows)
    c.add_unended_rows.ensures
