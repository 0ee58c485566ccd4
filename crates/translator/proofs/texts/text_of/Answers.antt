use Rattle.name_table.specs.Named.{names_in}
use Rattle.translator.specs.UnitFiles.{IsTextIf}
use Rattle.translator.proofs.TextLemmas.{if_ok, text_of_other, text_of_unlowered, text_of_lowered}
use Rattle.translator.proofs.texts.text_of.Goals as goal

pub returns-then-not-branch : goal.returns-then-not-branch
returns-then-not-branch c = text_of_other c.args.options (names_in c.args.procedures.now) c.args.unit.now c.in_ok-is_plain.field-0 c.if-not-branch.true c.in_ok-is_plain.ensures

pub returns-in-Some : goal.returns-in-Some
returns-in-Some c =
    if_ok _ (IsTextIf c.args.options (names_in c.args.procedures.now) c.args.unit.now) c.whole.result
    (λ found is. text_of_lowered c.args.options (names_in c.args.procedures.now) c.args.unit.now c.args.table.now c.in_ok-is_plain.field-0 c.in_ok-text.field-0 c.in-Some.text c.args.first found
    c.requires.table c.if-not-branch.false c.in_ok-is_plain.ensures c.in-Some.is c.in_ok-text.ensures c.requires.first is)
    c.whole.ensures

pub returns-in-None : goal.returns-in-None
returns-in-None c =
    text_of_unlowered c.args.options (names_in c.args.procedures.now) c.args.unit.now c.args.table.now c.in_ok-text.field-0 c.requires.table c.in-None.is c.in_ok-text.ensures
