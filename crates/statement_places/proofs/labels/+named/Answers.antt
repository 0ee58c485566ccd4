use Rattle.statement_places.proofs.LabelForms.{nothing_added, labels-other}
use Rattle.statement_places.proofs.labels.+named.Goals as goal

pub returns-in_default : goal.returns-in_default
returns-in_default t c =
    nothing_added _ _
    (labels-other c.args.table.now c.args.body.now c.in_default.not-AssignLabel c.in_default.not-Goto c.in_default.not-GotoList c.in_default.not-GotoName c.in_default.not-IfSign c.in_default.not-IfOne
    c.in_default.not-Call c.in_default.not-Transfer c.in_default.not-Auxiliary)
