use Rattle.translator.proofs.FormLemmas.{form-other}
use Rattle.translator.proofs.forms.+forms.Goals as goal

pub returns-in_default : goal.returns-in_default
returns-in_default t c =
    form-other c.args.body.now c.in_default.not-Declare c.in_default.not-Common c.in_default.not-Equivalence c.in_default.not-Init c.in_default.not-Entry
    c.in_default.not-Auxiliary c.in_default.not-Include c.in_default.not-IfOne
    c.in_default.not-Transfer
