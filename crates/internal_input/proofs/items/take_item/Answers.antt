use Rattle.std.proofs.Common.{rules, ◌∙◌, w32, to_z, of_z}
use Rattle.std.proofs.Math.Facts.{to_z-of_z}
use mir.Val.{SFits}
use Rattle.internal_input.proofs.ItemSteps.{at-int, at-truth, at-text, at-null, at-slash, at-bad, at-line}
use Rattle.internal_input.proofs.items.take_item.Goals as goal

pub returns-in-Int-clause-steps : goal.returns-in-Int-clause-steps
returns-in-Int-clause-steps c from before item at gives seeking =
    let number : SFits w32 c.in-Int.number = search rules in
    at-int from before c.args.reading.now _ c.args.run.now c.take_number.new.run c.args.buffer.now c.args.done c.args.item c.args.given c.in-Int.number (to_z w32 (of_z w32 c.in-Int.number))
    c.take_number.result item at c.in-Int.is (to_z-of_z number) gives seeking c.take_number.ensures.steps

pub returns-in-Logical-clause-steps : goal.returns-in-Logical-clause-steps
returns-in-Logical-clause-steps c from before item at gives seeking =
    let number : SFits w32 c.number_of.result = search rules in
    at-truth from before c.args.reading.now _ c.args.run.now c.take_number-in-Logical.new.run c.args.buffer.now c.args.done c.args.item c.args.given c.in-Logical.truth
    (to_z w32 (of_z w32 c.number_of.result)) c.take_number-in-Logical.result item at c.in-Logical.is (to_z-of_z number ∙ c.number_of.ensures) gives seeking
    c.take_number-in-Logical.ensures.steps

pub returns-in-Text-clause-steps : goal.returns-in-Text-clause-steps
returns-in-Text-clause-steps c from before item at gives seeking =
    at-text from before c.args.reading.now _ c.args.run.now c.take_text.new.run c.args.buffer.now c.take_text.new.buffer c.args.done c.args.item c.args.given c.in-Text.from c.in-Text.to c.in-Text.more
    c.take_text.result item at c.in-Text.is gives seeking c.take_text.ensures.steps

pub returns-in-Null-clause-steps : goal.returns-in-Null-clause-steps
returns-in-Null-clause-steps c from before item at gives seeking =
    at-null from before c.args.reading.now _ c.args.run.now c.args.buffer.now c.args.done c.args.given at c.in-Null.is gives seeking

pub returns-in-Slash-clause-steps : goal.returns-in-Slash-clause-steps
returns-in-Slash-clause-steps c from before item at gives seeking =
    at-slash from before c.args.reading.now _ c.args.run.now c.args.buffer.now c.args.done c.args.given at c.in-Slash.is gives seeking

pub returns-in-NeedLine-clause-steps : goal.returns-in-NeedLine-clause-steps
returns-in-NeedLine-clause-steps c from before item at gives seeking =
    at-line from before c.args.reading.now c.take_record.new.reading _ _ c.args.run.now c.take_record.new.run c.args.buffer.now c.args.done c.args.item c.args.given c.take_record.result
    item at c.in-NeedLine.is gives seeking c.take_record.ensures.steps

pub returns-in-Bad-clause-steps : goal.returns-in-Bad-clause-steps
returns-in-Bad-clause-steps c from before item at gives seeking =
    let number : SFits w32 c.from.result = search rules in
    at-bad from before c.args.reading.now _ c.args.run.now c.stop.new.run c.args.buffer.now c.args.done c.args.item c.args.given c.in-Bad.number (to_z w32 (of_z w32 c.from.result)) c.stop.result
    item at c.in-Bad.is (to_z-of_z number ∙ c.from.ensures) gives seeking c.stop.ensures.steps
