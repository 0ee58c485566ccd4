use Rattle.f_tree.specs.Attributes.{assigned_with_list_in, with_list, called}
use Rattle.name_classes.specs.StatedNames.{used_as_in}
use Rattle.name_classes.proofs.SignLemmas.{lists_none}
use Rattle.name_classes.proofs.used.no_names.Goals as goal

pub returns : goal.returns
returns c arrays = record {
  assigned = lists_none assigned_with_list_in _ c.new.ensures.names c.new.ensures.is_set;
  with_list = lists_none (used_as_in with_list arrays) _ c.new-2.ensures.names c.new-2.ensures.is_set;
  called = lists_none (used_as_in called arrays) _ c.new-3.ensures.names c.new-3.ensures.is_set;
}
