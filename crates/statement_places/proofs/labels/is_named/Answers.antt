use Rattle.std.proofs.Common.{◌∙◌, is_some, ap}
use Rattle.statement_places.proofs.LabelLemmas.{named_some, named_none}
use Rattle.statement_places.proofs.labels.is_named.Goals as goal

pub returns-in-Some : goal.returns-in-Some
returns-in-Some c = λ labels known.
    c.is_some.ensures ∙ ap is_some c.get.ensures ∙ named_some labels c.args.set.now c.args.label c.in-Some.label c.in-Some.is known

pub returns-in-None : goal.returns-in-None
returns-in-None c = λ labels known. named_none labels c.args.label c.in-None.is
