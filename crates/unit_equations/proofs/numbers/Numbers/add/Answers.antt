use Rattle.std.proofs.Common.{length, sym, ap, ◌∙◌}
use Rattle.std.proofs.lemmas.List.{length-map}
use Rattle.name_table.specs.Named.{texts}
use Rattle.name_table.proofs.SetLemmas.{texts_more}
use Rattle.unit_equations.proofs.NumberForms.{keeps_more, number_new, numbers_more}
use Rattle.unit_equations.proofs.numbers.Numbers.add.Goals as goal

pub returns-clause-number : goal.returns-clause-number
returns-clause-number c =
    number_new c.args.self.now _ c.args.name.now c.requires.numbers c.requires.missing (ap texts c.in_ok-push.ensures.items ∙ texts_more c.args.self.now.names.items c.args.name)
    _ (ap length c.as_slice-number.ensures.value ∙ sym (length-map c.args.self.now.names.items (λ r. r.now))) c.in_ok-put.ensures

pub returns-clause-keeps : goal.returns-clause-keeps
returns-clause-keeps c =
    keeps_more c.args.self.now _ c.args.name.now c.requires.numbers c.requires.missing (ap texts c.in_ok-push.ensures.items ∙ texts_more c.args.self.now.names.items c.args.name)
    _ (ap length c.as_slice-number.ensures.value ∙ sym (length-map c.args.self.now.names.items (λ r. r.now))) c.in_ok-put.ensures

pub returns-clause-numbers : goal.returns-clause-numbers
returns-clause-numbers c =
    numbers_more c.args.self.now _ c.args.name.now c.requires.numbers c.requires.missing (ap texts c.in_ok-push.ensures.items ∙ texts_more c.args.self.now.names.items c.args.name)
    _ (ap length c.as_slice-number.ensures.value ∙ sym (length-map c.args.self.now.names.items (λ r. r.now))) c.in_ok-put.ensures
