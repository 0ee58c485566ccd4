use Rattle.std.proofs.Common.{ap}
use Rattle.f_tree.specs.Attributes.{entry_names_in, entry_dummies_in, option_list, named_dummies}
use Rattle.name_classes.proofs.SignLemmas.{lists_head}
use Rattle.name_classes.proofs.entries.head_names.Goals as goal

pub returns : goal.returns
returns c = record {
  own_names = lists_head entry_names_in c.new-own_names.result c.add_option.new.names _ _ c.new-own_names.ensures.names c.in_ok-add_option.ensures (ap option_list c.own_name.ensures);
  dummies = lists_head entry_dummies_in c.new-dummies.result c.add_dummies.new.names _ _ c.new-dummies.ensures.names c.in_ok-add_dummies.ensures (ap named_dummies c.as_slice.ensures);
}
