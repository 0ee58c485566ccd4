use Rattle.std.proofs.Common.{[], ◌∷◌, ◌<◌, ◌≤◌, List, length, get_or, refl, ap, subst, ◌∙◌}
use Rattle.found_rows.proofs.Walks.{walk_more, walk_end}
use Rattle.f_tree.specs.declared.statements.Stmt.{Stmt}
use Rattle.f_tree.specs.Attributes.{arrays_of}
use Rattle.declaration_rows.specs.OrderRows.{rank_of, stage_behind, unit_order_rows}
use Rattle.statement_order.specs.BeforeSteps.{Notes}
use Rattle.statement_order.specs.OrderSteps.{stage_in}
use Rattle.statement_order.proofs.OrderLemmas.{Walked, rows_on, row_on, walked_on, order_step, order_none, known_behind, walked_as}
use Rattle.statement_order.proofs.order.add_order_rows.Goals as goal

pub loop-statement-init : goal.loop-statement-init
unfolding stage_in
loop-statement-init c = record { seen = []; known = c.nothing_before-before.ensures (arrays_of c.args.unit.now); rows = refl }

pub loop-statement-preserved : goal.loop-statement-preserved
loop-statement-preserved c =
    let u = c.args.unit.now in
    let s = c.statement-item.result in
    let inv = c.loop-statement.invariant in
    let here : Walked = record { stage = stage_in c.loop-statement.stage; seen = inv.seen } in
    let ranked = c.rank_of-rank.ensures ∙ ap (λ arrays. rank_of arrays s.body) c.requires.arrays in
    record {
      seen = s ∷ inv.seen;
      known = known_behind (arrays_of u) c.loop-statement.before c.note_statement.new.before inv.seen s inv.known
          (subst (λ arrays. Notes arrays c.loop-statement.before c.note_statement.new.before s) c.requires.arrays c.in_ok-note_statement.ensures);
      rows = walk_more (rows_on u) (row_on u) (walked_on u) (order_step u) u.statements c.loop-statement.statement-index s s here
          (let w : Walked = record { stage = stage_in c.stage_behind-stage.result; seen = s ∷ inv.seen } in w) _ _ _
          (subst (λ (ss : List Stmt). c.loop-statement.statement-index < length ss) c.as_slice-statement-items.ensures c.loop-statement-test.true)
          (c.statement-item.is ∙ ap (λ (ss : List Stmt). get_or ss c.loop-statement.statement-index s) c.as_slice-statement-items.ensures) inv.rows (c.in_ok-add_statement_rows.ensures (arrays_of u) inv.seen inv.known ranked)
          (walked_as (stage_in c.stage_behind-stage.result) (stage_behind here.stage (rank_of (arrays_of u) s.body)) (s ∷ inv.seen)
          (c.stage_behind-stage.ensures ∙ ap (stage_behind here.stage) ranked));
    }

pub returns : goal.returns
unfolding unit_order_rows
returns c =
    let u = c.args.unit.now in
    let here : Walked = record { stage = stage_in c.loop-statement.stage; seen = c.loop-statement.invariant.seen } in
    walk_end (rows_on u) (row_on u) (walked_on u) (order_none u) u.statements c.loop-statement.statement-index here _ _
    (subst (λ (ss : List Stmt). length ss ≤ c.loop-statement.statement-index) c.as_slice-statement-items.ensures c.loop-statement-test.false) c.loop-statement.invariant.rows
