use Rattle.std.proofs.Common.{◌≡◌, ◌||◌, drop}
use Rattle.std.specs.List.{list_any}
use Rattle.f_tree.specs.Values.{Bytes}
use Rattle.f_tree.specs.Uses.{is_among}
use Rattle.name_table.specs.Named.{names_in, IsNameSet}
use Rattle.name_uses.specs.UsesSeen.{used_in}
use Rattle.statement_order.specs.BeforeSteps.{uses_as}
use Rattle.statement_order.proofs.before.note_uses.Given as goal

abbrev pub invariant-loop-one : goal.invariant-loop-one
invariant-loop-one l = record {
  is_set : IsNameSet l.used;
  has : (x : Bytes) → (is_among x (names_in l.initial.used) || list_any (uses_as x) (used_in l.uses))
      ≡ (is_among x (names_in l.used) || list_any (uses_as x) (used_in (drop l.one-index l.uses)));
}
