use Rattle.std.proofs.Common.{ℕ, ap, sym}
use Rattle.edit_rules.specs.edit_meaning.Formats.{ToColumn}
use Rattle.edit_rules.specs.edit_meaning.TakenRecords.{moved_to, with_control}
use Rattle.taken_records.specs.Records.{shown}
use Rattle.taken_records.proofs.FieldLaws.{acts-as}
use Rattle.taken_records.proofs.record.RecordInput.to_column.Goals as goal

pub returns : goal.returns
returns c later values =
    acts-as (with_control (ToColumn c.args.column)) (moved_to c.saturating_sub.result) later values c.args.self.now c.move_behind.new.self c.move_behind.result
    (ap (λ (n : ℕ). moved_to n (shown c.args.self.now later values)) (sym c.saturating_sub.ensures)) (c.move_behind.ensures later values)
