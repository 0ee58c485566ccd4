use Rattle.std.proofs.Common.{rules, w32, to_z, of_z}
use Rattle.std.proofs.Math.Facts.{to_z-of_z}
use mir.Val.{SFits}
use Rattle.unit_library.proofs.FileInputLaws.{finish-from-file}
use Rattle.unit_library.proofs.file_reading.finish_from_file.Goals as goal

pub returns : goal.returns
returns c =
    let fits : SFits w32 c.e_rsli.result = search rules in
    finish-from-file c.args.input c.e_rsli.result (to_z w32 (of_z w32 c.e_rsli.result)) _ c.requires (to_z-of_z fits) c.e_rsli.ensures
