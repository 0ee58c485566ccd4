use Rattle.unit_library.proofs.ArgumentLaws.{one-given}
use Rattle.unit_library.proofs.InputLaws.{start-input}
use Rattle.unit_library.proofs.input.begin_input.Goals as goal

pub returns : goal.returns
returns g c =
    start-input _ c.args.run.now c.argument-pointer.result _ _ c.s_rsle-start.result _ c.behind_start.result c.started.result
    (one-given c.args.values.now c.argument-pointer.result c.argument-pointer.ensures) c.requires c.behind_start.ensures c.started.ensures c.s_rsle-start.ensures
