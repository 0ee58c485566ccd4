use Rattle.unit_library.proofs.ArgumentLaws.{four-given}
use Rattle.unit_library.proofs.ItemLaws.{items-put}
use Rattle.unit_library.proofs.listed.put_listed.Goals as goal

pub returns : goal.returns
returns g c =
    items-put _ _ c.args.run.now c.args.output c.do_lio-passage.new.output _ _ c.do_lio-passage.result _ c.behind_items.result c.passed.result
    (four-given c.args.values.now c.argument-kind.result c.argument-count.result c.argument-first.result c.argument-size.result c.argument-kind.ensures c.argument-count.ensures
    c.argument-first.ensures c.argument-size.ensures) c.requires c.behind_items.ensures c.passed.ensures c.do_lio-passage.ensures
