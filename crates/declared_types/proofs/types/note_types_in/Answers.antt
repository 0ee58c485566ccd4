use Rattle.std.proofs.Common.{List, map, sym, ap, ◌∙◌}
use Rattle.f_tree.specs.declared.statements.Declarator.{Declarator}
use Rattle.f_tree.specs.Attributes.{typed_in}
use Rattle.declared_types.proofs.TypeLemmas.{notes_none, notes_as, types_as}
use Rattle.declared_types.proofs.TypeForms.{typed-Declare, typed_other}
use Rattle.declared_types.proofs.types.note_types_in.Goals as goal

pub returns-in-Declare : goal.returns-in-Declare
returns-in-Declare c =
    notes_as c.note_items.result _ _ _ _
    (ap (λ (ds : List Declarator). map (λ (i : Declarator). record { spec = c.in-Declare.written; item = i }) ds) c.as_slice.ensures ∙ typed-Declare c.in-Declare.written c.in-Declare.items
    ∙ ap typed_in (sym c.in-Declare.is)) c.note_items.ensures

pub returns-in_default : goal.returns-in_default
returns-in_default c = types_as _ _ _ _ (typed_other c.args.body.now c.in_default.not-Declare) (notes_none c.args.types.now)
