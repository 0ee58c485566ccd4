use Rattle.std.proofs.Common.{rules, w32, refl, ap}
use Rattle.std.proofs.Math.Facts.{to_z-of_z}
use Rattle.std.specs.Prelude.{option_map}
use mir.Val.{SFits}
use Rattle.control_lists.specs.Files.{name_shown}
use Rattle.unit_statements.proofs.OpenLaws.{open-answered, open-faulty, open-called-none}
use Rattle.unit_statements.proofs.files.f_open.Goals as goal

pub returns-in-Ok-clause-answers : goal.returns-in-Ok-clause-answers
returns-in-Ok-clause-answers g c =
    let unit : SFits w32 c.in-Ok.list.unit = search rules in
    let on_error : SFits w32 c.in-Ok.list.on_error = search rules in
    open-answered c.args.run.now c.args.pointer _ _ _ _ _ _ _ c.open_file-done.result c.answer.result c.answer.ensures c.in-Ok.ensures
    (to_z-of_z unit) (to_z-of_z on_error) (ap (λ number. name_shown number (option_map (λ name. name.now) c.in-Ok.list.name)) (to_z-of_z unit)) refl c.open_file-done.ensures.did c.open_file-done.ensures.means

pub returns-in-Err-clause-answers : goal.returns-in-Err-clause-answers
returns-in-Err-clause-answers g c = open-faulty c.args.run.now c.args.pointer c.in-Err.fault _ c.in-Err.ensures

pub returns-in-Ok-clause-unit : goal.returns-in-Ok-clause-unit
returns-in-Ok-clause-unit g c = open-called-none _ _ _ _ _ _ c.open_file-done.result c.answer.result c.answer.ensures c.open_file-done.ensures.did
