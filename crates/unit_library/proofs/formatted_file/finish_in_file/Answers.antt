use Rattle.unit_library.proofs.FileLaws.{finish-file}
use Rattle.unit_library.proofs.formatted_file.finish_in_file.Goals as goal

pub returns : goal.returns
returns c = finish-file c.args.held c.args.run.now c.e_wsfi.new.run c.e_wsfi.result _ c.ended.result c.requires c.ended.ensures c.e_wsfi.ensures
