use Rattle.std.proofs.Common.{◌≡◌, ◌++◌, drop}
use Rattle.f_tree.specs.Uses as written
use Rattle.f_tree.specs.Uses.{all_of, used}
use Rattle.f_tree.specs.Values.{Bytes}
use Rattle.name_uses.specs.UsesSeen.{used_in}
use Rattle.name_uses.proofs.declarations.add_names.Given as goal

abbrev pub invariant-loop-name : goal.invariant-loop-name
invariant-loop-name l =
    used_in l.initial.uses.items ++ all_of (λ (x : Bytes). used x written.Declared) l.names ≡ used_in l.uses.items ++ all_of (λ (x : Bytes). used x written.Declared) (drop l.name-index l.names)
