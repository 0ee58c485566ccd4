use Rattle.std.proofs.Common.{◌++◌, ap, ◌∙◌}
use Rattle.found_rows.proofs.Walks.{then_ok}
use Rattle.f_tree.specs.Attributes.{option_list}
use Rattle.declaration_rows.specs.NameRows.{stood}
use Rattle.declaration_rows.specs.OrderRows.{order_rows}
use Rattle.statement_order.specs.OrderSteps.{rank_in, stage_in}
use Rattle.statement_order.proofs.OrderLemmas.{five_rows, rows_are}
use Rattle.statement_order.proofs.order.add_statement_rows.Goals as goal

pub returns : goal.returns
returns c =
    let s = c.args.statement.now in
    then_ok _ _ c.add_option-2.result
    (λ last arrays ss before ranked.
    five_rows s c.args.found.now.items _ _ _ _ _ (order_rows (stage_in c.args.stage) (rank_in c.args.rank)) _ _ _ (option_list c.kind_row.result)
    (c.in_ok-add_option.ensures ∙ ap (λ ks. c.args.found.now.items ++ stood s ks) c.order_row.ensures) c.in_ok-add_unless.ensures c.in_ok-add_unless-2.ensures
    c.in_ok-add_unless-3.ensures last
    ∙ ap (λ rs. c.args.found.now.items ++ rs)
    (rows_are c.args.kind.now arrays (stage_in c.args.stage) (rank_in c.args.rank) c.args.before.now ss s _ _ _ _ before ranked c.is_second_implicit-first_implicit.ensures
    c.types_constant-untyped.ensures c.defines_used-unused.ensures c.kind_row.ensures))
    c.add_option-2.ensures
