use Rattle.std.proofs.Common.{pos, [], ◌∷◌, ap, ◌∙◌, w32}
use Rattle.std.proofs.lemmas.Int.{to_z-of_z}
use Rattle.c_tree.specs.declared.declaration.CField.TheVariants as field
use Rattle.unit_writer.proofs.Walks.{put_five}
use Rattle.unit_writer.proofs.locals.fields.Goals as goal

pub returns : goal.returns
returns c =
    put_five _ _ _ _ _ _ _ _ _ _ _ c.new-found.ensures c.in_ok-push.ensures.ok c.in_ok-push-2.ensures.ok c.in_ok-push-3.ensures.ok c.in_ok-push-4.ensures.ok c.in_ok-push-5.ensures.ok
    ∙ ap (λ z. field.Number (pos 0) ∷ field.Number z ∷ field.Number (pos 0) ∷ field.Number (pos 0) ∷ field.Number (pos 0) ∷ []) (to_z-of_z w32 c.args.unit c.ranges.unit)
