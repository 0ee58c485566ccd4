use Rattle.std.proofs.Common.{arith, sym}
use Rattle.f2c_outside.specs.Shown.{holds_name}
use Rattle.f2c_outside.proofs.TableLaws.{first-here}
use Rattle.f2c_outside.proofs.unit_table.offer_of.Goals as goal

pub returns-then-has_name : goal.returns-then-has_name
returns-then-has_name g c =
    first-here (holds_name c.args.name.now) c.args.rows.now c.loop-number.number c.index-rows-number.result (omega arith)
    c.index-rows-number.is (sym c.if-has_name.ensures) c.loop-number.invariant
