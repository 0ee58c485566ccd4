use Rattle.std.proofs.Common.{◌+◌, ap, ℕ}
use Rattle.taken_records.proofs.FieldLaws.{text-takes}
use Rattle.taken_records.proofs.record.RecordInput.take_text.Goals as goal

pub returns-clause-takes : goal.returns-clause-takes
returns-clause-takes c later values =
    text-takes c.args.self.now c.args.width c.args.size (c.args.self.now.before + c.saturating_sub.result) c.saturating_sub-2.result later values c.if-width-self.false
    (ap (λ (n : ℕ). c.args.self.now.before + n) c.saturating_sub.ensures) c.saturating_sub-2.ensures
