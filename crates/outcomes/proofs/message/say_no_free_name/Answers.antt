use Rattle.std.proofs.Common.{ℕ, List, [], ◌∷◌, ◌++◌, ◌∙◌, subst}
use Rattle.std.specs.Prelude.{codes}
use Rattle.shelf_texts.specs.Messages.{Said}
use Rattle.outcomes.proofs.message.say_no_free_name.Goals as goal

pub returns : goal.returns
returns g c =
    subst (λ (bytes : List ℕ). Said (codes "f2c: no free name for piece " ++ (bytes ++ 10 ∷ [])) (g.H.Shelf.state c.args.shelf.now) (g.H.Shelf.state c.say.new.shelf))
    (c.as_bytes.ensures.value ∙ c.format.ensures.text) c.say.ensures
