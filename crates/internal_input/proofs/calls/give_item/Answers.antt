use Rattle.std.proofs.Common.{◌∙◌, ap, refl}
use Rattle.std.specs.Prelude.{Ok}
use Rattle.listed_input.specs.Reading.{place_of}
use Rattle.internal_input.proofs.GiveLaws.{given-slashed, given-on, given-left, given-stops}
use Rattle.internal_input.proofs.calls.give_item.Goals as goal

pub returns-then-input-clause-gives : goal.returns-then-input-clause-gives
returns-then-input-clause-gives c = given-slashed c.args.item c.args.input.now c.args.run.now c.if-input.true

pub returns-in-Ok-Given-clause-gives : goal.returns-in-Ok-Given-clause-gives
returns-in-Ok-Given-clause-gives c =
    given-on c.args.item c.args.input.now _ c.args.run.now c.read_item.new.run (place_of c.read_item.new.reading) c.read_item.result (c.in-Ok-Given.is ∙ ap Ok c.in-Ok-Given.field-0-is)
    (record { error_is = refl; end_is = refl }) c.if-input.false c.if-input.false refl c.read_item.ensures.reads

pub returns-in-Ok-Slashed-clause-gives : goal.returns-in-Ok-Slashed-clause-gives
returns-in-Ok-Slashed-clause-gives c =
    given-left c.args.item c.args.input.now _ c.args.run.now c.read_item.new.run (place_of c.read_item.new.reading) c.read_item.result (c.in-Ok-Slashed.is ∙ ap Ok c.in-Ok-Slashed.field-0-is)
    (record { error_is = refl; end_is = refl }) c.if-input.false refl refl c.read_item.ensures.reads

pub returns-in-Err-clause-gives : goal.returns-in-Err-clause-gives
returns-in-Err-clause-gives c =
    given-stops c.args.item c.args.input.now _ c.args.run.now c.read_item.new.run (place_of c.read_item.new.reading) _ c.in-Err.end c.read_item.result c.in-Err.is
    (record { error_is = refl; end_is = refl }) c.if-input.false c.read_item.ensures.reads
