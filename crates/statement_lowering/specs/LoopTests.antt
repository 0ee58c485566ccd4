-- The test of a DO loop by its step. ANSI X3.9-1978, section 11.10.
use Rattle.std.specs.Prelude.{pos, int_lt, Bool, true, false, Option, Some, None}
use Rattle.f_tree.specs.Values.{Datum, IsInt}
use Rattle.f_tree.specs.Terms.{IsLess, IsLessOrEqual, IsGreaterOrEqual}
use Rattle.lowered_tree.specs.l_core.Pures.{Pure, Constant, Load, Operated, Chosen}

-- whether a number is below 0
unfoldable pub sign_of : Datum → Option Bool
sign_of (IsInt z) = Some (int_lt z (pos 0))
sign_of _ = None

-- whether a value is below 0, where it is a number that is written
unfoldable pub sign_if : Pure → Option Bool
sign_if (Constant d) = sign_of d
sign_if _ = None

-- the test of a loop that goes down, or up
unfoldable pub test_along : Bool → Pure → Pure → Pure
test_along true x limit = Operated IsGreaterOrEqual (Load x) limit
test_along false x limit = Operated IsLessOrEqual (Load x) limit

-- the test of a loop whose step tells its sign as it runs
unfoldable pub test_either : Pure → Pure → Pure → Pure
test_either x limit by = Chosen (Operated IsLess by (Constant (IsInt (pos 0)))) (Operated IsGreaterOrEqual (Load x) limit) (Operated IsLessOrEqual (Load x) limit)

-- the test of a loop, given whether its step is below 0, if that is known
unfoldable pub test_known : Option Bool → Pure → Pure → Pure → Pure
test_known (Some down) x limit by = test_along down x limit
test_known None x limit by = test_either x limit by

unfoldable pub loop_tests_opened : Unit {0}
unfolding sign_of sign_if test_along test_either test_known
loop_tests_opened = tt
