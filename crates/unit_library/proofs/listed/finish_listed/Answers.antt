use Rattle.unit_library.proofs.TransferLaws.{finish-listed}
use Rattle.unit_library.proofs.listed.finish_listed.Goals as goal

pub returns : goal.returns
returns g c = finish-listed c.args.output _ _ c.e_wsle.result _ c.ended.result c.requires c.ended.ensures c.e_wsle.ensures
