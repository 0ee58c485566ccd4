use Rattle.std.proofs.Common.{List, sym, arith, ◌∙◌}
use Rattle.f_tree.specs.Attributes.{from_all}
use Rattle.f_tree.specs.Facts as facts
use Rattle.f_tree.specs.Lines.{blocks_from, common_in}
use Rattle.f_tree.specs.declared.statements.Stmt.{Stmt}
use Rattle.unit_equations.specs.BlocksTold.{naming_by}
use Rattle.unit_equations.proofs.BlockForms.{comes_on, comes_to_end, statements_step, statements_none}
use Rattle.unit_equations.proofs.blocks.blocks_among.Goals as goal

pub loop-statement-preserved : goal.loop-statement-preserved
loop-statement-preserved c =
    let names = naming_by c.args.facts.now in
    comes_on (λ (bs : List facts.Block) (ss : List Stmt). blocks_from names bs (from_all common_in ss)) (λ bs s. blocks_from names bs (common_in s.body)) (statements_step names)
    c.args.statements.now c.loop-statement.statement-index c.statement-item.result _ _ _ _ c.loop-statement-test.true c.statement-item.is c.loop-statement.invariant
    c.in_ok-add_body.ensures

pub returns : goal.returns
returns c =
    let names = naming_by c.args.facts.now in
    sym (comes_to_end (λ (bs : List facts.Block) (ss : List Stmt). blocks_from names bs (from_all common_in ss)) c.args.statements.now c.loop-statement.statement-index _ _
    (omega arith) c.loop-statement.invariant ∙ statements_none names _)
