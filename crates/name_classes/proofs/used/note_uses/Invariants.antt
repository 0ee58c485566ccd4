use Rattle.std.proofs.Common.{◌≡◌, ◌++◌, drop}
use Rattle.f_tree.specs.Attributes.{with_list, called}
use Rattle.name_table.specs.Named.{names_in, IsNameSet}
use Rattle.name_uses.specs.UsesSeen.{used_in}
use Rattle.name_classes.specs.StatedNames.{used_as}
use Rattle.name_classes.proofs.used.note_uses.Given as goal

abbrev pub invariant-loop-one : goal.invariant-loop-one
invariant-loop-one l = record {
  listed_set : IsNameSet l.with_list;
  listed : names_in l.initial.with_list ++ used_as with_list (used_in l.uses) ≡ names_in l.with_list ++ used_as with_list (used_in (drop l.one-index l.uses));
  calls_set : IsNameSet l.called;
  calls : names_in l.initial.called ++ used_as called (used_in l.uses) ≡ names_in l.called ++ used_as called (used_in (drop l.one-index l.uses));
}
