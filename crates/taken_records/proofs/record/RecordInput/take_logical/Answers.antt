use Rattle.std.proofs.Common.{Bool, ap, sym, ◌∙◌}
use Rattle.std.specs.Prelude.{Result, ℕ}
use Rattle.edit_rules.specs.edit_meaning.TakenRecords.{with_logical}
use Rattle.taken_records.specs.Records.{shown}
use Rattle.taken_records.proofs.FieldLaws.{value-moved, value-halted}
use Rattle.taken_records.proofs.record.RecordInput.take_logical.Goals as goal

pub returns-in-Ok-right_by-clause-takes : goal.returns-in-Ok-right_by-clause-takes
returns-in-Ok-right_by-clause-takes c later values =
    ap (λ (found : Result Bool ℕ). with_logical c.args.width found (shown c.args.self.now later values)) (sym c.in-Ok.ensures)
    ∙ value-moved _ c.args.self.now c.right_by.new.self c.args.width later values (c.in-Ok-right_by.ensures later values)

pub returns-in-Err-right_by-clause-takes : goal.returns-in-Err-right_by-clause-takes
returns-in-Err-right_by-clause-takes c later values = (
  (c.in-Err-right_by.ensures later values).0,
  ap (λ (found : Result Bool ℕ). with_logical c.args.width found (shown c.args.self.now later values)) (sym c.in-Ok.ensures)
      ∙ value-halted _ c.args.self.now c.in-Err-right_by.halt c.args.width later values (c.in-Err-right_by.ensures later values).1,
)
