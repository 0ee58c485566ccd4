use Rattle.f_tree.specs.Attributes.{external_in, intrinsic_in}
use Rattle.name_classes.specs.StatedNames.{constant_names, typed_names}
use Rattle.name_classes.proofs.SignLemmas.{lists_none}
use Rattle.name_classes.proofs.declarations.no_names.Goals as goal

pub returns : goal.returns
returns c = record {
  constants = lists_none constant_names _ c.new.ensures.names c.new.ensures.is_set;
  typed = lists_none typed_names _ c.new-2.ensures.names c.new-2.ensures.is_set;
  externals = lists_none external_in _ c.new-3.ensures.names c.new-3.ensures.is_set;
  intrinsics = lists_none intrinsic_in _ c.new-4.ensures.names c.new-4.ensures.is_set;
}
