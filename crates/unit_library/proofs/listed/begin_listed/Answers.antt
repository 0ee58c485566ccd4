use Rattle.unit_library.proofs.ArgumentLaws.{one-given}
use Rattle.unit_library.proofs.TransferLaws.{start-listed}
use Rattle.unit_library.proofs.listed.begin_listed.Goals as goal

pub returns : goal.returns
returns g c =
    start-listed _ c.args.run.now c.argument-pointer.result _ c.s_wsle-start.result _ c.behind_start.result c.started.result
    (one-given c.args.values.now c.argument-pointer.result c.argument-pointer.ensures) c.requires c.behind_start.ensures c.started.ensures c.s_wsle-start.ensures
