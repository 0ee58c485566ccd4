use Rattle.taken_records.proofs.FieldLaws.{takes-as, text-as}
use Rattle.taken_records.proofs.record.RecordInput.take.Goals as goal

pub returns-in-Int-Int-clause-takes : goal.returns-in-Int-Int-clause-takes
returns-in-Int-Int-clause-takes c =
    takes-as c.args.field _ c.args.want _ c.args.self.now c.take_int.new.self c.take_int.result c.in-Int-Int.is-0 c.in-Int-Int.is-1 (c.take_int.ensures.takes c.in-Int-Int.least-0)

pub returns-in-Logical-Logical-clause-takes : goal.returns-in-Logical-Logical-clause-takes
returns-in-Logical-Logical-clause-takes c =
    takes-as c.args.field _ c.args.want _ c.args.self.now c.take_logical.new.self c.take_logical.result c.in-Logical-Logical.is-0 c.in-Logical-Logical.is-1 c.take_logical.ensures.takes

pub returns-in-Text-Text-clause-takes : goal.returns-in-Text-Text-clause-takes
returns-in-Text-Text-clause-takes c =
    takes-as c.args.field _ c.args.want _ c.args.self.now c.take_text.new.self c.take_text.result c.in-Text-Text.is-0 c.in-Text-Text.is-1
    (text-as c.in-Text-Text.width c.unwrap_or.result c.in-Text-Text.size c.args.self.now c.take_text.new.self c.take_text.result c.unwrap_or.ensures c.take_text.ensures.takes)
