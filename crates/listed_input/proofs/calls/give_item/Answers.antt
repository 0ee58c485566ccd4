use Rattle.std.proofs.Common.{rules, ◌∙◌, ap, refl, w32, to_z, of_z}
use Rattle.std.specs.Prelude.{Ok}
use Rattle.std.proofs.Math.Facts.{to_z-of_z}
use mir.Val.{SFits}
use Rattle.listed_input.specs.Reading.{place_of}
use Rattle.listed_input.proofs.GiveLaws.{given-slashed, given-on, given-left, given-stops, read-is}
use Rattle.listed_input.proofs.calls.give_item.Goals as goal

pub returns-then-input-clause-gives : goal.returns-then-input-clause-gives
returns-then-input-clause-gives g c = given-slashed c.args.item c.args.input.now c.args.run.now _ c.if-input.true

pub returns-in-Ok-Given-clause-gives : goal.returns-in-Ok-Given-clause-gives
returns-in-Ok-Given-clause-gives g c =
    let unit : SFits w32 c.args.input.now.unit = search rules in
    given-on (to_z w32 (of_z w32 c.args.input.now.unit)) c.args.item c.args.input.now _ c.args.run.now c.read_item.new.run _ _ (place_of c.read_item.new.reading)
    (to_z-of_z unit) (record { unit_is = refl; error_is = refl; end_is = refl }) c.if-input.false c.if-input.false refl
    (read-is _ c.args.item _ _ c.args.run.now c.read_item.new.run _ _ c.read_item.result _ (c.in-Ok-Given.is ∙ ap Ok c.in-Ok-Given.field-0-is) c.read_item.ensures.reads)

pub returns-in-Ok-Slashed-clause-gives : goal.returns-in-Ok-Slashed-clause-gives
returns-in-Ok-Slashed-clause-gives g c =
    let unit : SFits w32 c.args.input.now.unit = search rules in
    given-left (to_z w32 (of_z w32 c.args.input.now.unit)) c.args.item c.args.input.now _ c.args.run.now c.read_item.new.run _ _ (place_of c.read_item.new.reading)
    (to_z-of_z unit) (record { unit_is = refl; error_is = refl; end_is = refl }) c.if-input.false refl refl
    (read-is _ c.args.item _ _ c.args.run.now c.read_item.new.run _ _ c.read_item.result _ (c.in-Ok-Slashed.is ∙ ap Ok c.in-Ok-Slashed.field-0-is) c.read_item.ensures.reads)

pub returns-in-Err-clause-gives : goal.returns-in-Err-clause-gives
returns-in-Err-clause-gives g c =
    let unit : SFits w32 c.args.input.now.unit = search rules in
    given-stops (to_z w32 (of_z w32 c.args.input.now.unit)) c.args.item c.args.input.now _ c.args.run.now c.read_item.new.run _ _ (place_of c.read_item.new.reading) c.in-Err.end
    (to_z-of_z unit) (record { unit_is = refl; error_is = refl; end_is = refl }) c.if-input.false
    (read-is _ c.args.item _ _ c.args.run.now c.read_item.new.run _ _ c.read_item.result _ c.in-Err.is c.read_item.ensures.reads)
