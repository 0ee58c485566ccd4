use Rattle.std.proofs.Common.{refl, option_copied}
use Rattle.statement_builder.proofs.Labels.{marked_some, marked_none}
use Rattle.statement_builder.proofs.parts.marked.Goals as goal

pub returns-in_ok-statement-in-Some : goal.returns-in_ok-statement-in-Some
returns-in_ok-statement-in-Some c =
    marked_some (option_copied c.args.label) c.args.part c.in-Some.field-0 c.in-Some.field-0.statement c.in_ok-statement-in-Some.statement _ c.in-Some.is refl c.in_ok-statement-in-Some.ensures refl

pub returns-in-None : goal.returns-in-None
returns-in-None c = marked_none (option_copied c.args.label) c.args.part c.in-None.is
