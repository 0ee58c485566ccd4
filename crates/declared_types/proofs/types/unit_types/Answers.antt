use Rattle.std.proofs.Common.{List, option_map, ap, ◌∙◌}
use Rattle.f_tree.specs.declared.statements.Stmt.{Stmt}
use Rattle.f_tree.specs.Attributes.{from_all, typed_in, implicit_in, type_among}
use Rattle.declared_types.specs.TypeTables.{type_in}
use Rattle.declared_types.proofs.types.unit_types.Goals as goal

pub returns : goal.returns
returns c = record {
  declared = λ q. c.in_ok-declared.ensures.has q ∙ ap (λ (ss : List Stmt). option_map type_in (type_among q (from_all typed_in ss))) c.as_slice.ensures;
  implicit = c.in_ok-implicit.ensures ∙ ap (from_all implicit_in) c.as_slice-2.ensures;
}
