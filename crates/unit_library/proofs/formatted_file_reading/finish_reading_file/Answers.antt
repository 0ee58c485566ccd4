use Rattle.unit_library.proofs.FileReadingLaws.{finish-reading-file}
use Rattle.unit_library.proofs.formatted_file_reading.finish_reading_file.Goals as goal

pub returns : goal.returns
returns c = finish-reading-file c.args.held c.args.run.now c.e_rsfi.result _ c.ended.result c.requires c.ended.ensures c.e_rsfi.ensures
