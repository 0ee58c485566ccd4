use Rattle.statements_judge.proofs.FormLemmas.{format_statement, other_statement}
use Rattle.statements_judge.proofs.forms.format_label.Goals as goal

pub returns-in-Format : goal.returns-in-Format
returns-in-Format c = λ l. format_statement c.args.statement.now _ l c.in-Format.is

pub returns-in_default : goal.returns-in_default
returns-in_default c = λ l. other_statement c.args.statement.now l c.in_default.not-Format
