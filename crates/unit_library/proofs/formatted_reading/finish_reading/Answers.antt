use Rattle.unit_library.proofs.ReadingLaws.{finish-reading}
use Rattle.unit_library.proofs.formatted_reading.finish_reading.Goals as goal

pub returns : goal.returns
returns g c = finish-reading c.args.held _ _ c.e_rsfe.result _ c.ended.result c.requires c.ended.ensures c.e_rsfe.ensures
