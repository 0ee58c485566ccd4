use Rattle.std.proofs.Common.{rules, ◌∙◌, w32, to_z, of_z}
use Rattle.std.proofs.Math.Facts.{to_z-of_z}
use mir.Val.{SFits}
use Rattle.listed_input.proofs.StepLaws.{at-int, at-truth, at-text, at-null, at-slash, at-bad, at-line}
use Rattle.listed_input.proofs.items.take_item.Goals as goal

pub returns-in-Int-clause-steps : goal.returns-in-Int-clause-steps
returns-in-Int-clause-steps g c from before unit item gives seeking =
    let number : SFits w32 c.in-Int.number = search rules in
    at-int from before c.args.reading.now c.args.run.now c.take_number.new.run _ c.args.done c.args.item c.args.given c.in-Int.number (to_z w32 (of_z w32 c.in-Int.number))
    c.take_number.result item c.in-Int.is (to_z-of_z number) gives seeking c.take_number.ensures.steps

pub returns-in-Logical-clause-steps : goal.returns-in-Logical-clause-steps
returns-in-Logical-clause-steps g c from before unit item gives seeking =
    let number : SFits w32 c.number_of.result = search rules in
    at-truth from before c.args.reading.now c.args.run.now c.take_number-in-Logical.new.run _ c.args.done c.args.item c.args.given c.in-Logical.truth
    (to_z w32 (of_z w32 c.number_of.result)) c.take_number-in-Logical.result item c.in-Logical.is (to_z-of_z number ∙ c.number_of.ensures) gives seeking
    c.take_number-in-Logical.ensures.steps

pub returns-in-Text-clause-steps : goal.returns-in-Text-clause-steps
returns-in-Text-clause-steps g c from before unit item gives seeking =
    at-text from before c.args.reading.now c.args.run.now c.take_text.new.run _ c.args.done c.args.item c.args.given c.in-Text.from c.in-Text.to c.in-Text.more
    c.take_text.result item c.in-Text.is gives seeking c.take_text.ensures.steps

pub returns-in-Null-clause-steps : goal.returns-in-Null-clause-steps
returns-in-Null-clause-steps g c from before unit item gives seeking =
    at-null from before c.args.reading.now c.args.run.now _ c.args.done c.args.given c.in-Null.is gives seeking

pub returns-in-Slash-clause-steps : goal.returns-in-Slash-clause-steps
returns-in-Slash-clause-steps g c from before unit item gives seeking =
    at-slash from before c.args.reading.now c.args.run.now _ c.args.done c.args.given c.in-Slash.is gives seeking

pub returns-in-NeedLine-clause-steps : goal.returns-in-NeedLine-clause-steps
returns-in-NeedLine-clause-steps g c from before unit item gives seeking =
    let fits : SFits w32 c.args.unit = search rules in
    at-line from before c.args.reading.now c.take_record.new.reading c.args.run.now _ _ c.args.done c.args.given c.args.unit (to_z w32 (of_z w32 c.args.unit)) c.take_record.result
    unit (to_z-of_z fits) c.in-NeedLine.is gives seeking c.take_record.ensures

pub returns-in-Bad-clause-steps : goal.returns-in-Bad-clause-steps
returns-in-Bad-clause-steps g c from before unit item gives seeking =
    let number : SFits w32 c.from.result = search rules in
    at-bad from before c.args.reading.now c.args.run.now _ c.args.done c.args.given c.in-Bad.number (to_z w32 (of_z w32 c.from.result)) c.in-Bad.is
    (to_z-of_z number ∙ c.from.ensures) gives seeking
