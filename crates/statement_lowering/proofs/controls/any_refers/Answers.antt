use Rattle.std.proofs.Common.{refl, sym, ◌∙◌}
use Rattle.f_tree.specs.Lines.{way_of}
use Rattle.statement_lowering.proofs.ControlWalks.{covered-control, covered-later, refers-found, refers-skip, refers-ended}
use Rattle.statement_lowering.proofs.controls.any_refers.Goals as goal

pub operand_refers-requires : goal.operand_refers-requires
operand_refers-requires c =
    covered-control c.args.table.now c.args.controls.now c.loop-control.control-index c.control-item.result c.loop-control-test.true c.control-item.is c.loop-control.invariant.covered

pub loop-control-init : goal.loop-control-init
loop-control-init c = record { covered = c.requires; same = λ way names told. refl }

pub loop-control-preserved : goal.loop-control-preserved
loop-control-preserved c = record {
  covered =
      covered-later c.args.table.now c.args.controls.now c.loop-control.control-index c.control-item.result c.loop-control-test.true c.control-item.is c.loop-control.invariant.covered;
  same = λ way names told.
      sym (refers-skip (way_of way) names c.args.controls.now c.loop-control.control-index c.control-item.result c.operand_refers.result c.loop-control-test.true c.control-item.is
      (c.operand_refers.ensures way names told) c.if-operand_refers.false)
      ∙ c.loop-control.invariant.same way names told;
}

pub returns-then-operand_refers : goal.returns-then-operand_refers
returns-then-operand_refers c = λ way names told.
    sym (refers-found (way_of way) names c.args.controls.now c.loop-control.control-index c.control-item.result c.operand_refers.result c.loop-control-test.true c.control-item.is
    (c.operand_refers.ensures way names told) c.if-operand_refers.true)
    ∙ c.loop-control.invariant.same way names told

pub returns : goal.returns
returns c = λ way names told.
    sym (refers-ended (way_of way) names c.args.controls.now c.loop-control.control-index c.loop-control-test.false) ∙ c.loop-control.invariant.same way names told
