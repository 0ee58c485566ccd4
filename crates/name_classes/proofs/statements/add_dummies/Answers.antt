use Rattle.std.proofs.Common.{refl, arith}
use Rattle.name_uses.proofs.found_rows.Walks.{each_more, each_end}
use Rattle.f_tree.specs.Attributes.{named_dummies}
use Rattle.name_classes.specs.StatedNames.{dummy_name}
use Rattle.name_classes.proofs.StatementForms.{dummies_step, dummies_none}
use Rattle.name_classes.proofs.statements.add_dummies.Goals as goal

pub loop-dummy-preserved : goal.loop-dummy-preserved
loop-dummy-preserved c = record {
  is_set = c.in_ok-add_dummy.ensures.is_set;
  put = each_more named_dummies dummy_name dummies_step c.args.dummies.now c.loop-dummy.dummy-index c.dummy-item.result _ _ _ _ c.loop-dummy-test.true c.dummy-item.is c.loop-dummy.invariant.put
      c.in_ok-add_dummy.ensures.put;
}

pub returns : goal.returns
returns c = record {
  put = each_end named_dummies dummy_name dummies_none c.args.dummies.now c.loop-dummy.dummy-index _ _ (omega arith) c.loop-dummy.invariant.put;
  is_set = c.loop-dummy.invariant.is_set;
}
