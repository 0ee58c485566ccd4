use Rattle.std.proofs.Common.{List, ◌∷◌, [], get_or, refl, arith}
use Rattle.f_tree.specs.Values.{Bytes}
use Rattle.f_tree.specs.Attributes.{named_dummies}
use Rattle.name_places.specs.SeenNames.{dummy_name}
use Rattle.name_places.proofs.SeenLemmas.{seen_on, seen_end, dummies_step, dummies_none}
use Rattle.name_places.proofs.names.see_dummies.Goals as goal

pub loop-dummy-preserved : goal.loop-dummy-preserved
loop-dummy-preserved c = record {
  names = seen_on named_dummies dummy_name dummies_step c.args.dummies.now c.loop-dummy.dummy-index c.dummy-item.result _ _ _ _ c.loop-dummy-test.true c.dummy-item.is c.loop-dummy.invariant.names c.in_ok-see_dummy.ensures.names;
  seen = c.in_ok-see_dummy.ensures.seen;
}

pub returns-clause-names : goal.returns-clause-names
returns-clause-names c = seen_end named_dummies dummy_name dummies_none c.args.dummies.now c.loop-dummy.dummy-index _ _ (omega arith) c.loop-dummy.invariant.names
