use Rattle.std.proofs.Common.{ap, option_copied}
use Rattle.statement_builder.proofs.Building.{if_ok}
use Rattle.statement_builder.proofs.Labels.{label_some, label_none}
use Rattle.statement_builder.proofs.parts.labelled.Goals as goal

pub returns-in-Some : goal.returns-in-Some
returns-in-Some c =
    if_ok _ _ c.with_name.result (λ s made. label_some (option_copied c.args.label) c.in-Some.name.now c.args.statement s (ap option_copied c.in-Some.is) made) c.with_name.ensures

pub returns-in-None : goal.returns-in-None
returns-in-None c = label_none (option_copied c.args.label) c.args.statement (ap option_copied c.in-None.is)
