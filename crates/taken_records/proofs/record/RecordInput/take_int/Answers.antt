use Rattle.std.proofs.Common.{◌∙◌, ◌++◌, ◌∷◌, [], ℤ, ap, sym, rules, w32}
use Rattle.std.proofs.Math.Facts.{to_z-of_z}
use Rattle.taken_records.specs.Records.{shown}
use mir.Val.{SFits}
use Rattle.edit_rules.specs.edit_meaning.ListItems.{IntValue}
use Rattle.taken_records.proofs.FieldLaws.{value-moved, value-halted}
use Rattle.taken_records.proofs.record.RecordInput.take_int.Goals as goal

pub returns-in-Ok-right_by-clause-takes : goal.returns-in-Ok-right_by-clause-takes
returns-in-Ok-right_by-clause-takes c least later values =
    let fits : SFits w32 c.in-Ok.number = search rules in
    c.in-Ok.ensures later values
    ∙ value-moved (IntValue c.in-Ok.number) c.args.self.now c.right_by.new.self c.args.width later values (c.in-Ok-right_by.ensures later values)
    ∙ ap (λ (number : ℤ). shown c.right_by.new.self later (values ++ IntValue number ∷ [])) (sym (to_z-of_z fits))

pub returns-in-Err-right_by-clause-takes : goal.returns-in-Err-right_by-clause-takes
returns-in-Err-right_by-clause-takes c least later values = (
  (c.in-Err-right_by.ensures later values).0,
  c.in-Ok.ensures later values ∙ value-halted _ c.args.self.now c.in-Err-right_by.halt c.args.width later values (c.in-Err-right_by.ensures later values).1,
)
