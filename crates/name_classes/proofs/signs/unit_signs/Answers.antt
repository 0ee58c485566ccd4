use Rattle.std.proofs.Common.{List, subst, sym, ◌∙◌}
use Rattle.f_tree.specs.Values.{Bytes}
use Rattle.f_tree.specs.declared.statements.Stmt.{Stmt}
use Rattle.f_tree.specs.Attributes.{arrays_of}
use Rattle.name_classes.specs.KnownSigns.{AreDeclared, AreUsed}
use Rattle.name_classes.proofs.signs.unit_signs.Goals as goal

pub returns : goal.returns
returns c = record {
  arrays = record { names = c.in_ok-arrays.ensures.names; is_set = c.in_ok-arrays.ensures.is_set };
  declared = subst (λ (ss : List Stmt). AreDeclared ss c.in_ok-declared.declared) c.as_slice.ensures c.in_ok-declared.ensures;
  entries = c.in_ok-entries.ensures;
  used =
      subst (λ (ss : List Stmt). AreUsed (arrays_of c.args.unit.now) ss c.in_ok-used.used) c.as_slice-2.ensures
      (subst (λ (xs : List Bytes). AreUsed xs c.as_slice-2.result.now c.in_ok-used.used) c.in_ok-arrays.ensures.names c.in_ok-used.ensures);
}
