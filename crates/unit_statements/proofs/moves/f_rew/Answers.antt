use Rattle.std.proofs.Common.{rules, w32, to_z, of_z}
use Rattle.std.proofs.Math.Facts.{to_z-of_z}
use mir.Val.{SFits}
use Rattle.run_state.specs.Units.{rewind_unit}
use Rattle.c_tree.specs.Builtins.{f_rew}
use Rattle.f2c_outside.specs.Table.{RewoundOn}
use Rattle.control_lists.specs.Files.{position_shown}
use Rattle.unit_answers.proofs.CallLaws.{fair-rewind}
use Rattle.unit_statements.proofs.StatementLaws.{position-answered, position-faulty, rewind-positions}
use Rattle.unit_statements.proofs.moves.f_rew.Goals as goal

pub returns-in-Ok-clause-answers : goal.returns-in-Ok-clause-answers
returns-in-Ok-clause-answers g c =
    let unit : SFits w32 c.in-Ok.list.unit = search rules in
    let on_error : SFits w32 c.in-Ok.list.on_error = search rules in
    position-answered f_rew rewind_unit c.args.run.now c.args.pointer (position_shown c.in-Ok.list) (to_z w32 (of_z w32 c.in-Ok.list.unit))
    (to_z w32 (of_z w32 c.in-Ok.list.on_error)) _ _ c.rewind_unit.result (λ d m d' m'. RewoundOn d m d' m' c.rewind_unit.result) c.answer.result c.answer.ensures rewind-positions
    c.in-Ok.ensures (to_z-of_z unit) (to_z-of_z on_error) (fair-rewind c.rewind_unit.result) c.rewind_unit.ensures.did c.rewind_unit.ensures.means

pub returns-in-Err-clause-answers : goal.returns-in-Err-clause-answers
returns-in-Err-clause-answers g c = position-faulty f_rew rewind_unit c.args.run.now c.args.pointer c.in-Err.fault _ rewind-positions c.in-Err.ensures
