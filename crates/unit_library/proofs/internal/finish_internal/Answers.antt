use Rattle.unit_library.proofs.InternalLaws.{finish-internal}
use Rattle.unit_library.proofs.internal.finish_internal.Goals as goal

pub returns : goal.returns
returns c = finish-internal c.args.output c.args.run.now c.e_wsli.new.run c.e_wsli.result _ c.ended.result c.requires c.ended.ensures c.e_wsli.ensures
