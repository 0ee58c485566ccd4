use Rattle.run_bytes.specs.Accesses.{access_of}
use Rattle.call_frames.proofs.BindingLaws.{argument-stored, argument-not-refused}
use Rattle.call_frames.proofs.parameters.bind_one.Goals as goal

pub returns-clause-bound : goal.returns-clause-bound
returns-clause-bound c =
    argument-stored c.args.run.now c.store.new.self c.args.object c.args.of (access_of c.access.result) c.args.value c.access.ensures c.requires.fits c.requires.anew c.in-Ok.ensures

pub unreachable-requires : goal.unreachable-requires
unreachable-requires c =
    argument-not-refused c.args.run.now c.args.object c.args.of (access_of c.access.result) c.args.value _ c.access.ensures c.requires.fits c.requires.anew c.in-Err.ensures.0
