use Rattle.std.proofs.Common.{List, ◌++◌, sym, ap, arith}
use Rattle.name_uses.proofs.found_rows.Walks.{each_more, each_end}
use Rattle.f_tree.specs.declared.statements.Stmt.{Stmt}
use Rattle.f_tree.specs.declared.statements.ImplicitGroup.{ImplicitGroup}
use Rattle.std.specs.Borrow.{Bor}
use Rattle.f_tree.specs.Attributes.{from_all, implicit_in}
use Rattle.declared_types.specs.TypeTables.{groups_in}
use Rattle.declared_types.proofs.TypeForms.{from_step, from_none}
use Rattle.declared_types.proofs.implied.implicit_groups.Goals as goal

pub loop-statement-init : goal.loop-statement-init
loop-statement-init c = ap (λ (gs : List (Bor ImplicitGroup)). groups_in gs ++ from_all implicit_in c.args.statements.now) (sym c.new-groups.ensures.items)

pub loop-statement-preserved : goal.loop-statement-preserved
loop-statement-preserved c =
    each_more (from_all implicit_in) (λ (s : Stmt). implicit_in s.body) (from_step implicit_in) c.args.statements.now c.loop-statement.statement-index c.statement-item.result _ _ _ _
    c.loop-statement-test.true c.statement-item.is c.loop-statement.invariant c.in_ok-add_groups_in.ensures

pub returns : goal.returns
returns c =
    each_end (from_all implicit_in) (λ (s : Stmt). implicit_in s.body) (from_none implicit_in) c.args.statements.now c.loop-statement.statement-index _ _ (omega arith) c.loop-statement.invariant
