use Rattle.std.proofs.Common.{◌≡◌, ℕ, ◌+◌, ◌-◌, List, length, take, drop, ap, sym, subst, ◌∙◌}
use Rattle.std.proofs.lemmas.Grind.{common_steps}
use Rattle.std.proofs.Common.{arith}
use Rattle.f_tree.specs.declared.statements.Control.{Control}
use Rattle.f_tree.specs.Terms.{any_refers, terms}
use Rattle.f_tree.specs.Lines.{way_of}
use Rattle.lowered_tree.specs.l_core.Pures as core
use Rattle.lowering.specs.Expressions as low
use Rattle.lowered_tree.specs.declared.pures.Pure.{Pure}
use Rattle.expression_lowering.specs.Purposes.{purpose_of}
use Rattle.expression_lowering.proofs.Walks.{IsOnward, onward-start}
use Rattle.statement_lowering.specs.TransferForms.{operands_in}
use Rattle.statement_lowering.specs.LoweredTransfers.{controls_lower}
use Rattle.statement_lowering.proofs.ControlWalks.{covered-control, covered-later, walk-control, walk-done}
use Rattle.statement_lowering.proofs.controls.lower_controls.Goals as goal

later-read : (cs : List Control) (at : ℕ) → take (length cs - (at + 1)) (drop (at + 1) cs) ≡ drop (at + 1) cs
later-read cs at = grind (arith, common_steps)

pub any_refers-requires : goal.any_refers-requires
any_refers-requires c =
    ap (controls_lower c.args.table.now) (later-read c.args.controls.now c.loop-at.at)
    ∙ covered-later c.args.table.now c.args.controls.now c.loop-at.at c.index-controls-at.result c.loop-at-test.true c.index-controls-at.is c.loop-at.invariant.covered

pub lower_operand-requires : goal.lower_operand-requires
lower_operand-requires c =
    covered-control c.args.table.now c.args.controls.now c.loop-at.at c.index-controls-at.result c.loop-at-test.true c.index-controls-at.is c.loop-at.invariant.covered

pub loop-at-init : goal.loop-at-init
loop-at-init c = record {
  covered = c.requires;
  onward = λ names told.
      let whole = low.lower_all core.NoPure low.ForUse c.args.first (terms (operands_in (way_of c.args.way) c.args.controls.now names)) in
      subst (λ (vs : List Pure). IsOnward whole whole c.args.steps.now.items c.args.steps.now.items vs) (sym c.new-values.ensures) (onward-start whole c.args.steps.now.items);
}

pub loop-at-preserved : goal.loop-at-preserved
loop-at-preserved c = record {
  covered = covered-later c.args.table.now c.args.controls.now c.loop-at.at c.index-controls-at.result c.loop-at-test.true c.index-controls-at.is c.loop-at.invariant.covered;
  onward = λ names told.
      walk-control (way_of c.args.way) names (purpose_of c.ahead-wanted.result) c.loop-at.free c.in_ok-behind.behind c.args.controls.now c.loop-at.at c.index-controls-at.result _
      (low.lower_all core.NoPure low.ForUse c.args.first (terms (operands_in (way_of c.args.way) c.args.controls.now names))) c.args.steps.now.items c.loop-at.steps.items
      c.lower_operand.new.steps.items c.loop-at.values c.add_value.new.values c.in_ok-one.one c.loop-at-test.true c.index-controls-at.is
      (later-read c.args.controls.now c.loop-at.at) (c.ahead-wanted.ensures ∙ ap (low.ahead low.ForUse) (c.any_refers.ensures c.args.way names told))
      (c.loop-at.invariant.onward names told) (c.in_ok-one.ensures names told) c.in_ok-behind.ensures;
}

pub returns : goal.returns
returns c = record {
  are = λ names told.
      walk-done (way_of c.args.way) names c.loop-at.free c.args.controls.now c.loop-at.at
      (low.lower_all core.NoPure low.ForUse c.args.first (terms (operands_in (way_of c.args.way) c.args.controls.now names))) c.args.steps.now.items c.loop-at.steps.items
      c.loop-at.values c.loop-at-test.false (c.loop-at.invariant.onward names told);
}
