-- What is known of the names where an expression stands, as a table says it, and when it is what the unit says.
use Rattle.std.specs.Prelude.{◌≡◌, Bool, true, false, List, length, bytes_eq, Option, Some, None, option_map, is_some, IsTrue}
use Rattle.std.specs.HashMap.{get_by}
use Rattle.f_tree.specs.declared.names.Basic.{Basic}
use Rattle.f_tree.specs.declared.names.Basic.TheVariants.{Untyped}
use Rattle.f_tree.specs.declared.names.Class.{Class}
use Rattle.f_tree.specs.declared.names.Class.TheVariants as class
use Rattle.f_tree.specs.Values.{Bytes}
use Rattle.f_tree.specs.Facts.{Attribute}
use Rattle.f_tree.specs.WellTyped.{has_size}
use Rattle.declaration_rows.specs.Judgement.{Known}
use Rattle.expression_judge.specs.declared.names.Fact.{Fact}
use Rattle.expression_judge.specs.declared.names.Names.{Names}

-- what a name is that no statement tells of
unfoldable pub no_fact : Fact
no_fact = record { class = class.Unit; basic = Untyped; rank = 0; sized = true }

unfoldable pub fact_or : Option Fact → Fact
fact_or None = no_fact
fact_or (Some fact) = fact

unfoldable pub unit_fact : Names → Bytes → Fact
unit_fact names x = fact_or (get_by (λ k. bytes_eq x k.now) names.facts)

unfoldable pub bound_fact : Basic → Fact
bound_fact basic = record { class = class.StatementFunction; basic = basic; rank = 0; sized = true }

unfoldable pub bound_or : Option Basic → Fact → Fact
bound_or None fact = fact
bound_or (Some basic) fact = bound_fact basic

unfoldable pub dummy_in : Names → Bytes → Option Basic
dummy_in names x = get_by (λ k. bytes_eq x k.now) names.dummies

unfoldable pub fact_in : Names → Bytes → Fact
fact_in names x = bound_or (dummy_in names x) (unit_fact names x)

unfoldable pub is_bound_in : Names → Bytes → Bool
is_bound_in names x = is_some (dummy_in names x)

unfoldable pub function_in : Names → Bytes → Option (List Basic)
function_in names x = option_map (λ basics. basics.items) (get_by (λ k. bytes_eq x k.now) names.functions)

-- names that may have dimensions
unfoldable pub has_place : Class → Bool
has_place class.Stored = true
has_place class.Dummy = true
has_place class.Result = true
has_place _ = false

-- what is seen of a name is what it is
pub record IsFact (a : Attribute) (fact : Fact) : Type 0 where
  pub class : fact.class ≡ a.class
  pub basic : fact.basic ≡ a.basic
  pub rank : IsTrue (has_place a.class) → fact.rank ≡ length a.dimensions
  pub sized : IsTrue (has_place a.class) → fact.sized ≡ has_size a.dimensions

-- what is seen of the names is what is known of them
pub record AreSeen (known : Known) (names : Names) : Type 0 where
  pub facts : (x : Bytes) → IsFact (known.attribute x) (fact_in names x)
  -- a dummy argument of the definition around an expression is no function there
  pub functions : (x : Bytes) → known.is_bound x ≡ false → function_in names x ≡ known.dummies x
  pub bound : (x : Bytes) → is_bound_in names x ≡ known.is_bound x
