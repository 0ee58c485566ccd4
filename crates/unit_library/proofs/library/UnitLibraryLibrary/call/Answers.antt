use Rattle.item_deeds.proofs.FormLaws.{same-objects}
use Rattle.unit_answers.proofs.FailureLaws.{none-failed}
use Rattle.unit_library.proofs.ReplyLaws.{answered, none-answered, counted-so}
use Rattle.unit_library.proofs.library.UnitLibraryLibrary.call.Goals as goal

pub returns-in-Some-clause-meaning : goal.returns-in-Some-clause-meaning
returns-in-Some-clause-meaning g c = λ units transfer standing.
    answered c.args.number c.args.values.now c.in-Some.function c.requires.call c.in-Some.ensures _ _ c.call_function.new.run c.call_function.result
    (c.call_function.ensures.meaning units transfer standing)

pub returns-in-Some-clause-counted : goal.returns-in-Some-clause-counted
returns-in-Some-clause-counted g c =
    counted-so c.args.number c.args.values.now c.in-Some.function c.requires.call c.in-Some.ensures _ _ _ c.call_function.result c.call_function.ensures.counted

pub returns-in-Some-clause-devices : goal.returns-in-Some-clause-devices
returns-in-Some-clause-devices g c = c.call_function.ensures.devices

pub returns-in-Some-clause-forms : goal.returns-in-Some-clause-forms
returns-in-Some-clause-forms g c = c.call_function.ensures.forms

pub returns-in-None-clause-meaning : goal.returns-in-None-clause-meaning
returns-in-None-clause-meaning g c = λ units transfer standing. none-answered c.args.number c.args.values.now _ c.in-None.ensures _ _ c.args.run.now units transfer standing

pub returns-in-None-clause-devices : goal.returns-in-None-clause-devices
returns-in-None-clause-devices g c = none-failed _

pub returns-in-None-clause-forms : goal.returns-in-None-clause-forms
returns-in-None-clause-forms g c = same-objects _
