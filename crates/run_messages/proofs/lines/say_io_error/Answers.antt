use Rattle.std.proofs.Common.{ℕ, List, [], ◌∷◌, ◌++◌, ◌∙◌, ap, subst, w32}
use Rattle.std.specs.Prelude.{codes}
use Rattle.std.specs.Fmt.{signed_decimal}
use Rattle.std.proofs.lemmas.Int.{to_z-of_z}
use Rattle.shelf_texts.specs.Messages.{Said}
use Rattle.run_messages.proofs.lines.say_io_error.Goals as goal

pub returns : goal.returns
returns g c =
    subst (λ (bytes : List ℕ). Said (codes "f2c: I/O error " ++ (bytes ++ 10 ∷ [])) (g.H.Shelf.state c.args.shelf.now) (g.H.Shelf.state c.say.new.shelf))
    (c.as_bytes.ensures.value ∙ (c.format.ensures.text ∙ ap signed_decimal (to_z-of_z w32 c.args.number c.ranges.number))) c.say.ensures
