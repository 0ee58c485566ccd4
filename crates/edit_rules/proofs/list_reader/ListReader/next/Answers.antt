use Rattle.std.proofs.Common.{sym, subst, ◌∷◌}
use Rattle.edit_meaning.specs.ListItems.{items_from, Follows}
use Rattle.edit_rules.specs.Reader.{kind_of, place_in}
use Rattle.edit_rules.proofs.ItemSteps.{given-follows}
use Rattle.edit_rules.proofs.list_reader.ListReader.next.Goals as goal

pub returns-clause-items : goal.returns-clause-items
returns-clause-items c later kinds =
    subst (λ g. Follows (items_from (place_in c.args.line.now c.args.self.now) later (kind_of c.args.kind ∷ kinds)) later (kind_of c.args.kind) kinds g)
    (sym c.after-next.ensures.gives) (given-follows (place_in c.args.line.now c.args.self.now) later (kind_of c.args.kind) kinds)
