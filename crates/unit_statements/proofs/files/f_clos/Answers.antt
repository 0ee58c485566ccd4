use Rattle.std.proofs.Common.{rules, w32, to_z, of_z}
use Rattle.std.proofs.Math.Facts.{to_z-of_z}
use mir.Val.{SFits}
use Rattle.control_lists.specs.Files.{close_shown}
use Rattle.unit_statements.proofs.CloseLaws.{close-answered, close-faulty}
use Rattle.unit_statements.proofs.files.f_clos.Goals as goal

pub returns-in-Ok-clause-answers : goal.returns-in-Ok-clause-answers
returns-in-Ok-clause-answers g c =
    let unit : SFits w32 c.in-Ok.list.unit = search rules in
    let on_error : SFits w32 c.in-Ok.list.on_error = search rules in
    close-answered c.args.run.now c.args.pointer (close_shown c.in-Ok.list) (to_z w32 (of_z w32 c.in-Ok.list.unit)) (to_z w32 (of_z w32 c.in-Ok.list.on_error)) _ _
    c.close_unit.result c.close_answer.result c.close_answer.ensures c.in-Ok.ensures (to_z-of_z unit) (to_z-of_z on_error) c.close_unit.ensures.did
    c.close_unit.ensures.means

pub returns-in-Err-clause-answers : goal.returns-in-Err-clause-answers
returns-in-Err-clause-answers g c = close-faulty c.args.run.now c.args.pointer c.in-Err.fault _ c.in-Err.ensures
