use Rattle.std.proofs.Common.{sym, ◌∙◌, subst, arith}
use Rattle.std.specs.Prelude.{IfOk}
use Rattle.std.proofs.lemmas.Option.{slice_get_within}
use Rattle.c_tree.specs.Meaning as meaning
use Rattle.linked_programs.specs.LinkedPrograms.{program_of}
use Rattle.item_deeds.specs.Deeds.{world_of}
use Rattle.program_runner.specs.Stacks.{IsStack}
use Rattle.program_runner.proofs.RunLaws.{begun-missing, begun-one, main-same}
use Rattle.program_runner.proofs.runs.begin.Goals as goal

pub begin_by-requires-clause-below : goal.begin_by-requires-clause-below
begin_by-requires-clause-below c =
    omega (arith, slice_get_within c.args.program.now.functions c.main_number-number.result c.in-Some.function.now (sym c.in-Some.ensures.value), c.requires.depth)

pub begin_by-requires-clause-frame : goal.begin_by-requires-clause-frame
begin_by-requires-clause-frame c = c.requires.frames c.main_number-number.result c.in-Some.function.now (sym c.in-Some.ensures.value)

pub returns-in-Some-clause-meaning : goal.returns-in-Some-clause-meaning
returns-in-Some-clause-meaning c =
    begun-one c.args.program.now c.main_number-number.result (meaning.main_number (program_of c.args.program.now)) c.in-Some.function.now c.args.run.now c.begin_by.new.run c.begin_by.result
    (c.main_number-number.ensures ∙ main-same c.args.program.now) c.in-Some.ensures.value c.begin_by.ensures.meaning

pub returns-in-Some-clause-stack : goal.returns-in-Some-clause-stack
returns-in-Some-clause-stack c = subst (λ count. IfOk c.begin_by.result (IsStack count)) c.requires.depth c.begin_by.ensures.stack

pub returns-in-None-clause-meaning : goal.returns-in-None-clause-meaning
returns-in-None-clause-meaning c = λ units transfer.
    begun-missing c.args.program.now c.main_number-number.result (meaning.main_number (program_of c.args.program.now)) (world_of c.args.run.now units transfer)
    (c.main_number-number.ensures ∙ main-same c.args.program.now) c.in-None.ensures.value
