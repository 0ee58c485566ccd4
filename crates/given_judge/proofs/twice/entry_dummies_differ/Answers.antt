use Rattle.std.proofs.Common.{sym, ap, ◌∙◌}
use Rattle.std.proofs.lemmas.Result.{IfOk-weaker}
use Rattle.f_tree.specs.Attributes.{named_dummies, entry_dummies_in}
use Rattle.declaration_rows.specs.GivenRows.{no_name_twice}
use Rattle.given_judge.proofs.RowForms.{entry_dummies_are, entry_dummies_other}
use Rattle.given_judge.proofs.twice.entry_dummies_differ.Goals as goal

pub returns-in-Entry : goal.returns-in-Entry
returns-in-Entry c =
    IfOk-weaker c.dummies_differ.result _ _
    (λ differ is.
    is
    ∙ ap no_name_twice
    (ap named_dummies c.as_slice.ensures ∙ sym (ap entry_dummies_in c.in-Entry.is ∙ entry_dummies_are c.in-Entry.field-0 c.in-Entry.dummies)))
    c.dummies_differ.ensures

pub returns-in_default : goal.returns-in_default
returns-in_default c = sym (entry_dummies_other c.args.body.now c.in_default.not-Entry)
