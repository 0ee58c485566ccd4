use Rattle.std.proofs.Common.{◌&&◌, sym, ap, ◌∙◌}
use Rattle.name_facts.specs.declaration_rows.NameRows.{given_names}
use Rattle.direct_lines.specs.DirectStatements.{are_direct_lines, end_last}
use Rattle.direct_lines.proofs.StatementForms.{unit-lines}
use Rattle.direct_lines.proofs.lines.are_lines_direct.Goals as goal

pub returns-then-are_direct_lines : goal.returns-then-are_direct_lines
returns-then-are_direct_lines c = λ options.
    c.end_last.ensures ∙ ap end_last c.as_slice-statements.ensures
    ∙ ap (λ b. b && end_last c.args.unit.now.statements)
    (sym c.if-are_direct_lines.true ∙ c.are_direct_lines.ensures ∙ ap (are_direct_lines (given_names c.args.unit.now)) c.as_slice-statements.ensures)
    ∙ unit-lines options c.args.unit.now

pub returns-else-are_direct_lines : goal.returns-else-are_direct_lines
returns-else-are_direct_lines c = λ options.
    c.if-are_direct_lines.false
    ∙ ap (λ b. b && end_last c.args.unit.now.statements)
    (sym c.if-are_direct_lines.false ∙ c.are_direct_lines.ensures ∙ ap (are_direct_lines (given_names c.args.unit.now)) c.as_slice-statements.ensures)
    ∙ unit-lines options c.args.unit.now
