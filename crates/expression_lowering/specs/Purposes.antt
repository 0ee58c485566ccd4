-- What an expression is lowered for. ANSI X3.9-1978, sections 6 and 15.9.
use Rattle.f_tree.specs.Terms.{Term}
use Rattle.f_tree.specs.Reading.{Read}
use Rattle.lowering.specs.Expressions as low
use Rattle.expression_lowering.specs.declared.purpose.Purpose.{Purpose}
use Rattle.expression_lowering.specs.declared.purpose.Purpose.TheVariants as purpose
use Rattle.expression_lowering.specs.declared.purpose.Aspect.{Aspect}
use Rattle.expression_lowering.specs.declared.purpose.Aspect.TheVariants as aspect

-- what a value is for
abbrev pub purpose_of : Purpose → low.Purpose
purpose_of purpose.ForUse = low.ForUse
purpose_of purpose.ForCall = low.ForCall
purpose_of purpose.ForReading = low.ForReading
purpose_of purpose.ForLater = low.ForLater

-- an expression by its value, or as an actual argument
unfoldable pub aspect_term : Aspect → Read → Term
aspect_term aspect.Value r = r.value
aspect_term aspect.Actual r = r.actual
