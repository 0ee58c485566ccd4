use Rattle.std.proofs.Common.{rules, arith, w32, to_z, of_z}
use Rattle.std.proofs.Math.Facts.{to_z-of_z}
use mir.Val.{SFits}
use Rattle.listed_input.proofs.FetchLaws.{fetches}
use Rattle.listed_input.proofs.records.fetch.Goals as goal

pub returns : goal.returns
returns g c =
    let unit : SFits w32 c.args.unit = search rules in
    fetches c.args.unit (to_z w32 (of_z w32 c.args.unit)) _ _ c.args.line.now c.read_from-answer.new.into c.read_from-answer.result c.fetched.result (to_z-of_z unit) c.told-line (omega (arith, c.told-line, c.read_from-answer.auto.into)) c.fetched.ensures
    c.read_from-answer.ensures.did c.read_from-answer.ensures.means
