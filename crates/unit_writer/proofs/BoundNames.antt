-- The names of what keeps bounds.
use Rattle.std.proofs.Common.{◌≡◌, ℕ, suc, ◌+◌, sym, ap, ◌∙◌, arith}
use Rattle.f_tree.specs.CNames.{variable_name, made_name, DimensionOf, LowerBoundOf}
use Rattle.unit_translation.specs.unit_file.UnitFile.{bound_name, name_of_bound}
use Rattle.unit_writer.specs.declared.heading.BoundKind.TheVariants as bound
use Rattle.unit_writer.specs.declared.heading.KeptBound.{KeptBound}
use Rattle.unit_writer.specs.ToldUnits.{bound_kind_told, bound_told}

pub lower_named : (one : KeptBound) (n : ℕ) → n ≡ one.place + 1 → one.kind ≡ bound.Lower → made_name (LowerBoundOf (variable_name one.dummy.now) n) ≡ bound_name (bound_told one)
unfolding name_of_bound bound_kind_told
lower_named one n is kind =
    let next : n ≡ suc one.place = omega arith in
    ap (λ m. made_name (LowerBoundOf (variable_name one.dummy.now) m)) next ∙ ap (λ k. name_of_bound one.dummy.now one.place (bound_kind_told k)) (sym kind)

pub size_named : (one : KeptBound) (n : ℕ) → n ≡ one.place + 1 → one.kind ≡ bound.Size → made_name (DimensionOf (variable_name one.dummy.now) n) ≡ bound_name (bound_told one)
unfolding name_of_bound bound_kind_told
size_named one n is kind =
    let next : n ≡ suc one.place = omega arith in
    ap (λ m. made_name (DimensionOf (variable_name one.dummy.now) m)) next ∙ ap (λ k. name_of_bound one.dummy.now one.place (bound_kind_told k)) (sym kind)
