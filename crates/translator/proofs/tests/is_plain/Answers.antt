use Rattle.name_table.specs.Named.{names_in}
use Rattle.translator.specs.UnitFiles.{IsPlainIf}
use Rattle.translator.proofs.TextLemmas.{if_ok}
use Rattle.translator.proofs.TestLemmas.{parts_fail, spelling_fails, heading_fails, names_fail, lines_fail, loops_decide}
use Rattle.translator.proofs.tests.is_plain.Goals as goal

pub returns-then-not-has_plain_parts : goal.returns-then-not-has_plain_parts
returns-then-not-has_plain_parts c = parts_fail (names_in c.args.procedures.now) c.args.unit.now c.has_plain_parts.result c.has_plain_parts.ensures c.if-not-has_plain_parts.true

pub returns-then-not-is_spellable : goal.returns-then-not-is_spellable
returns-then-not-is_spellable c =
    spelling_fails (names_in c.args.procedures.now) c.args.unit.now c.has_plain_parts.result c.is_spellable.result c.has_plain_parts.ensures c.if-not-has_plain_parts.false c.is_spellable.ensures
    c.if-not-is_spellable.true

pub returns-then-not-is_spelled_heading : goal.returns-then-not-is_spelled_heading
returns-then-not-is_spelled_heading c =
    heading_fails (names_in c.args.procedures.now) c.args.unit.now c.has_plain_parts.result c.is_spellable.result c.is_spelled_heading.result c.has_plain_parts.ensures
    c.if-not-has_plain_parts.false c.is_spellable.ensures c.if-not-is_spellable.false c.is_spelled_heading.ensures c.if-not-is_spelled_heading.true

pub returns-then-not-procedures_are_defined : goal.returns-then-not-procedures_are_defined
returns-then-not-procedures_are_defined c =
    names_fail (names_in c.args.procedures.now) c.args.unit.now c.has_plain_parts.result c.is_spellable.result c.is_spelled_heading.result c.has_plain_parts.ensures
    c.if-not-has_plain_parts.false c.is_spellable.ensures c.if-not-is_spellable.false c.is_spelled_heading.ensures c.if-not-is_spelled_heading.false
    c.procedures_are_defined.result c.procedures_are_defined.ensures c.if-not-procedures_are_defined.true

pub returns-then-not-are_lines_direct : goal.returns-then-not-are_lines_direct
returns-then-not-are_lines_direct c =
    lines_fail (names_in c.args.procedures.now) c.args.unit.now c.has_plain_parts.result c.is_spellable.result c.is_spelled_heading.result c.has_plain_parts.ensures
    c.if-not-has_plain_parts.false c.is_spellable.ensures c.if-not-is_spellable.false c.is_spelled_heading.ensures c.if-not-is_spelled_heading.false
    c.procedures_are_defined.result c.are_lines_direct.result c.procedures_are_defined.ensures c.if-not-procedures_are_defined.false c.are_lines_direct.ensures c.if-not-are_lines_direct.true

pub returns : goal.returns
returns c =
    if_ok _ (IsPlainIf (names_in c.args.procedures.now) c.args.unit.now) c.do_loops_fit.result
    (loops_decide (names_in c.args.procedures.now) c.args.unit.now c.has_plain_parts.result c.is_spellable.result c.is_spelled_heading.result c.has_plain_parts.ensures
    c.if-not-has_plain_parts.false c.is_spellable.ensures c.if-not-is_spellable.false c.is_spelled_heading.ensures c.if-not-is_spelled_heading.false
    c.procedures_are_defined.result c.are_lines_direct.result c.procedures_are_defined.ensures c.if-not-procedures_are_defined.false c.are_lines_direct.ensures c.if-not-are_lines_direct.false)
    c.do_loops_fit.ensures
