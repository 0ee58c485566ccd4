use Rattle.std.proofs.Common.{List, ◌++◌, ap, ◌∙◌}
use Rattle.f_tree.specs.Attributes.{option_list}
use Rattle.name_table.specs.Named.{names_in, texts}
use Rattle.name_places.proofs.SeenLemmas.{all_are}
use Rattle.name_places.proofs.names.all_names.Goals as goal

pub returns : goal.returns
returns c =
    c.in_ok-put_first.ensures ∙ all_are c.args.unit.now (names_in c.args.arrays.now) (texts c.in_ok-names.names.items) c.requires.arrays c.in_ok-names.ensures
