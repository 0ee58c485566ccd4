use Rattle.std.proofs.Common.{rules, w32, to_z, of_z}
use Rattle.std.proofs.Math.Facts.{to_z-of_z}
use mir.Val.{SFits}
use Rattle.unit_library.proofs.InputLaws.{finish-input}
use Rattle.unit_library.proofs.input.finish_input.Goals as goal

pub returns : goal.returns
returns c =
    let fits : SFits w32 c.e_rsle.result = search rules in
    finish-input c.args.input c.e_rsle.result (to_z w32 (of_z w32 c.e_rsle.result)) _ c.requires (to_z-of_z fits) c.e_rsle.ensures
