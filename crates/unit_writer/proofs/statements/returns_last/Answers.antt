use Rattle.std.proofs.Common.{sym, ◌∙◌}
use Rattle.unit_writer.proofs.ReturnForms.{returns-last, returns-none}
use Rattle.unit_writer.proofs.statements.returns_last.Goals as goal

pub returns-in-Some : goal.returns-in-Some
returns-in-Some c = c.returns.ensures ∙ sym (returns-last c.args.body.now _ (sym c.in-Some.ensures.value))

pub returns-in-None : goal.returns-in-None
returns-in-None c = sym (returns-none c.args.body.now (sym c.in-None.ensures.value))
