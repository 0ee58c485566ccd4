use Rattle.std.proofs.Common.{rules, w32, to_z, of_z}
use Rattle.std.proofs.Math.Facts.{to_z-of_z}
use mir.Val.{SFits}
use Rattle.listed_output.proofs.WriteLaws.{writes-one}
use Rattle.formatted_output.proofs.acts.write_record.Goals as goal

pub returns : goal.returns
returns g c =
    let unit : SFits w32 c.args.unit = search rules in
    writes-one c.args.unit (to_z w32 (of_z w32 c.args.unit)) c.args.record.now _ _ c.write_to.result (to_z-of_z unit) c.write_to.ensures.did c.write_to.ensures.means
