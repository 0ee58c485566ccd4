use Rattle.std.proofs.Common.{◌≡◌, drop}
use Rattle.name_facts.specs.declaration_rows.NameRows.{given_names}
use Rattle.direct_lines.specs.DirectStatements.{are_direct_lines}
use Rattle.direct_lines.proofs.lines.are_direct_lines.Given as goal

abbrev pub invariant-loop-statement : goal.invariant-loop-statement
invariant-loop-statement l = are_direct_lines (given_names l.unit) (drop l.statement-index l.statements) ≡ are_direct_lines (given_names l.unit) l.statements
