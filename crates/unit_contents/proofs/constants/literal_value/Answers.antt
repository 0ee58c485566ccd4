use Rattle.std.proofs.Common.{Some, rules, sym, ap, ◌∙◌}
use mir.Syntax.{w32}
use mir.Val.{SFits}
use Rattle.std.proofs.lemmas.Int.{to_z-of_z}
use Rattle.lowered_tree.specs.Shapes.{datum_of}
use Rattle.main_translation.specs.Contents.{kind_value}
use Rattle.unit_contents.specs.Parts.{literal_value}
use Rattle.unit_contents.proofs.ConstantLaws.{literal-Integer}
use Rattle.unit_contents.proofs.constants.literal_value.Goals as goal

pub returns-in-Integer : goal.returns-in-Integer
returns-in-Integer c =
    let fits : SFits w32 c.in-Integer.value = search rules in
    ap (λ z. kind_value (Some z)) (to_z-of_z w32 c.in-Integer.value fits) ∙ literal-Integer c.in-Integer.value fits ∙ ap (λ d. literal_value (datum_of d)) (sym c.in-Integer.is)
