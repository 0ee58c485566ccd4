use Rattle.std.proofs.Common.{◌≡◌, drop}
use Rattle.name_table.specs.Named.{texts}
use Rattle.name_uses.specs.UsesSeen.{used_in}
use Rattle.name_places.specs.FirstPlaces.{use_names}
use Rattle.name_places.specs.SeenNames.{with_names, AreSeen}
use Rattle.name_places.proofs.names.see_uses.Given as goal

abbrev pub invariant-loop-one : goal.invariant-loop-one
invariant-loop-one l = record {
  names : with_names (texts l.initial.names.items) (use_names (used_in l.uses)) ≡ with_names (texts l.names.items) (use_names (used_in (drop l.one-index l.uses)));
  seen : AreSeen l.seen (texts l.names.items);
}
