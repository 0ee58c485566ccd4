use Rattle.unit_library.proofs.FormattedLaws.{finish-formatted}
use Rattle.unit_library.proofs.formatted.finish_formatted.Goals as goal

pub returns : goal.returns
returns g c = finish-formatted c.args.held _ _ c.e_wsfe.result _ c.ended.result c.requires c.ended.ensures c.e_wsfe.ensures
