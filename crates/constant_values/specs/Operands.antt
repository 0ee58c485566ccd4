-- Operators and functions over values that are there, as the code asks for them.
use Rattle.std.specs.Prelude.{ℤ, List, [], ◌∷◌, Option, Some, None}
use Rattle.f_tree.specs.declared.expressions.Expr.{Expr}
use Rattle.f_tree.specs.Values.{Datum, IsInt}
use Rattle.f_tree.specs.Terms.{Function, TextLength}
use Rattle.f_tree.specs.Valuing.{applied}
use Rattle.name_facts.specs.declared.fact.ConstantValue.{ConstantValue}
use Rattle.name_facts.specs.GivenFacts.{datum_of}
use Rattle.constant_values.specs.Folded.{KnownNames, given, folded}

-- a function other than LEN
unfoldable pub apart_from_length : Function → List Datum → Option Datum
apart_from_length TextLength ds = None
apart_from_length f ds = given (applied f ds)

unfoldable pub data_of : List ConstantValue → List Datum
data_of [] = []
data_of (v ∷ vs) = datum_of v ∷ data_of vs

unfoldable pub each_folded : KnownNames → List Expr → List Datum → List (Option Datum)
each_folded known [] env = []
each_folded known (e ∷ es) env = folded known e env ∷ each_folded known es env

-- the largest or the smallest of what was found and of operands
unfoldable pub extreme_step : (ℤ → ℤ → ℤ) → Option ℤ → Datum → Option ℤ
extreme_step pick None d = None
extreme_step pick (Some best) (IsInt z) = Some (pick best z)
extreme_step pick (Some best) _ = None

unfoldable pub extreme_onward : (ℤ → ℤ → ℤ) → Option ℤ → List Datum → Option ℤ
extreme_onward pick best [] = best
extreme_onward pick best (d ∷ ds) = extreme_onward pick (extreme_step pick best d) ds
