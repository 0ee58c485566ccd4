use Rattle.std.proofs.Common.{refl, ◌∙◌}
use Rattle.decl_table.proofs.TableLemmas.{own-is}
use Rattle.decl_table.proofs.facts.own_fact.Goals as goal

pub returns : goal.returns
returns c =
    own-is c.args.unit.now c.args.declared.now c.args.name.now c.typed_name-typed.result c.shape-dimensions.result.now _ c.requires c.typed_name-typed.ensures c.shape-dimensions.ensures
    c.class_of.ensures refl c.in_ok-width.ensures refl c.has_size.ensures c.in_ok-bounds.ensures (c.in_ok-constant.ensures ∙ c.value.ensures)
