use Rattle.std.proofs.Common.{◌≡◌, List, ℕ, ◌∙◌}
use Rattle.f_tree.specs.CNames.{variable_name, made_name, DimensionOf, LowerBoundOf}
use Rattle.unit_translation.specs.unit_file.UnitFile.{bound_name}
use Rattle.unit_writer.specs.ToldUnits.{bound_told}
use Rattle.unit_writer.proofs.BoundNames.{lower_named, size_named}
use Rattle.unit_writer.proofs.Walks.{ok_then}
use Rattle.unit_writer.proofs.bounds.bound_name.Goals as goal

pub returns-in-Lower : goal.returns-in-Lower
returns-in-Lower c =
    let one = c.args.one.now in
    let number = c.in-Some.number in
    ok_then (λ (text : List ℕ). text ≡ made_name (LowerBoundOf (variable_name one.dummy.now) number)) (λ (text : List ℕ). text ≡ bound_name (bound_told one)) c.lower_bound_name.result
    (λ text is. is ∙ lower_named one number c.in-Some.ensures.1 c.in-Lower.is) c.lower_bound_name.ensures

pub returns-in-Size : goal.returns-in-Size
returns-in-Size c =
    let one = c.args.one.now in
    let number = c.in-Some.number in
    ok_then (λ (text : List ℕ). text ≡ made_name (DimensionOf (variable_name one.dummy.now) number)) (λ (text : List ℕ). text ≡ bound_name (bound_told one)) c.size_name.result
    (λ text is. is ∙ size_named one number c.in-Some.ensures.1 c.in-Size.is) c.size_name.ensures
