use Rattle.std.proofs.Common.{sym, ap, ◌∙◌, is_some}
use Rattle.f_tree.specs.Uses.{is_among}
use Rattle.name_table.specs.Named.{texts}
use Rattle.name_table.proofs.SetLemmas.{among_none}
use Rattle.name_table.proofs.name_set.NameSet.new.Goals as goal

pub returns-clause-is_set : goal.returns-clause-is_set
returns-clause-is_set c = record {
  has = λ x. ap is_some (c.new-2.ensures x) ∙ sym (among_none x) ∙ ap (λ rs. is_among x (texts rs)) (sym c.new.ensures.items);
}
