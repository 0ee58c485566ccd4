use Rattle.std.proofs.Common.{◌++◌, sym, ap, ◌∙◌}
use Rattle.std.proofs.lemmas.List.{append-nil}
use Rattle.name_uses.proofs.found_rows.Walks.{put_as}
use Rattle.f_tree.specs.Attributes.{implicit_in}
use Rattle.declared_types.specs.TypeTables.{groups_in}
use Rattle.declared_types.proofs.TypeForms.{implicit-Implicit, implicit_other}
use Rattle.declared_types.proofs.implied.add_groups_in.Goals as goal

pub returns-in-Implicit : goal.returns-in-Implicit
returns-in-Implicit c =
    put_as c.add_groups.result _ _ _ _ (c.as_slice.ensures ∙ implicit-Implicit c.in-Implicit.items ∙ ap implicit_in (sym c.in-Implicit.is)) c.add_groups.ensures

pub returns-in_default : goal.returns-in_default
returns-in_default c =
    sym (append-nil (groups_in c.args.groups.now.items)) ∙ ap (λ gs. groups_in c.args.groups.now.items ++ gs) (implicit_other c.args.body.now c.in_default.not-Implicit)
