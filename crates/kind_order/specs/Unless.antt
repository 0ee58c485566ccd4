-- The least of no row, or of one, where a condition does not hold.
use Rattle.std.specs.Prelude.{Bool, true, false, Option, Some, None}
use Rattle.f_tree.specs.declared.refusals.Kind.{Kind}

unfoldable pub unless_least : Bool → Kind → Option Kind
unless_least true kind = None
unless_least false kind = Some kind
