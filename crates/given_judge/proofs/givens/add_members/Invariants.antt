use Rattle.std.proofs.Common.{◌≡◌, ◌++◌, drop, map}
use Rattle.declaration_rows.specs.GivenRows as rows
use Rattle.declaration_rows.specs.GivenRows.{given, shaped_names, saved_names, owners, owners_of, owners_in, data_owners, tied_owners}
use Rattle.given_judge.specs.GiftsSeen.{givens_in}
use Rattle.f_tree.specs.declared.statements.ArrayDeclarator.{ArrayDeclarator}
use Rattle.given_judge.proofs.givens.add_members.Given as goal

abbrev pub invariant-loop-item : goal.invariant-loop-item
invariant-loop-item l =
    givens_in l.initial.givens.items ++ map (λ (d : ArrayDeclarator). given rows.InCommon d.name) l.items
    ≡ givens_in l.givens.items ++ map (λ (d : ArrayDeclarator). given rows.InCommon d.name) (drop l.item-index l.items)
