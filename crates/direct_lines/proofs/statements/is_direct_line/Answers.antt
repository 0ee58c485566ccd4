use Rattle.std.proofs.Common.{sym, ◌∙◌}
use Rattle.name_facts.specs.declaration_rows.NameRows.{given_names}
use Rattle.direct_lines.proofs.StatementForms.{line-other}
use Rattle.direct_lines.proofs.statements.is_direct_line.Goals as goal

pub returns-in_default : goal.returns-in_default
returns-in_default c =
    c.is_direct.ensures
    ∙ sym (line-other (given_names c.args.unit.now) c.args.body.now c.in_default.not-IfThen c.in_default.not-ElseIf c.in_default.not-Do c.in_default.not-DoWhile)
