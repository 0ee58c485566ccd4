-- The class of a name, one question after the other.
use Rattle.std.specs.Prelude.{◌≡◌, Bool, true, false, not, ◌||◌, ◌&&◌, if◌then◌else◌}
use Rattle.std.proofs.Common.{refl, sym, ap, ◌∙◌}
use Rattle.f_tree.specs.declared.names.Class.{Class}
use Rattle.f_tree.specs.declared.names.Class.TheVariants as class
use Rattle.f_tree.specs.Attributes.{Signs, class_by}
use Rattle.name_classes.specs.KnownSigns.{dummy_class, listed_class, used_class, other_class}

abbrev dummy_by : Bool → Bool → Bool → Bool → Class
dummy_by external call list array = if external || (call || (list && not array)) then class.DummyProcedure else class.Dummy

abbrev used_by : Bool → Bool → Bool → Bool → Class
used_by assigned intrinsic list function = if assigned then class.StatementFunction else if intrinsic || (list && function) then class.Intrinsic else if list then class.Procedure else class.Stored

abbrev other_by : Bool → Bool → Bool → Bool → Bool → Bool → Bool → Class
other_by array external call assigned intrinsic list function =
    if array then class.Stored else if external || call then class.Procedure else used_by assigned intrinsic list function

used_is : (g : Signs) (assigned intrinsic list function : Bool) → used_by assigned intrinsic list function ≡ (if assigned then class.StatementFunction else if intrinsic then class.Intrinsic else listed_class list function)
unfolding listed_class
used_is g true intrinsic list function = refl
used_is g false true list function = refl
used_is g false false true true = refl
used_is g false false true false = refl
used_is g false false false function = refl

other_is : (g : Signs) → other_by g.is_array g.is_external g.is_called g.is_assigned_with_list g.is_intrinsic g.has_list g.is_known_function ≡ other_class g
unfolding other_class used_class
other_is g =
    ap (λ c. if g.is_array then class.Stored else if g.is_external || g.is_called then class.Procedure else c)
    (used_is g g.is_assigned_with_list g.is_intrinsic g.has_list g.is_known_function)

pub class_constant : (own : Class) (g : Signs) → g.is_constant ≡ true → class_by own g ≡ class.Constant
unfolding class_by
class_constant own g constant =
    ap (λ b. if b then class.Constant else if g.is_dummy then dummy_by g.is_external g.is_called g.has_list g.is_array else if g.is_own_name then own
    else other_by g.is_array g.is_external g.is_called g.is_assigned_with_list g.is_intrinsic g.has_list g.is_known_function) constant

class_next : (own : Class) (g : Signs) → g.is_constant ≡ false
    → class_by own g ≡ (if g.is_dummy then dummy_class g else if g.is_own_name then own else other_by g.is_array g.is_external g.is_called g.is_assigned_with_list g.is_intrinsic g.has_list g.is_known_function)
unfolding class_by dummy_class
class_next own g constant =
    ap (λ b. if b then class.Constant else if g.is_dummy then dummy_by g.is_external g.is_called g.has_list g.is_array else if g.is_own_name then own
    else other_by g.is_array g.is_external g.is_called g.is_assigned_with_list g.is_intrinsic g.has_list g.is_known_function) constant

pub class_dummy : (own : Class) (g : Signs) → g.is_constant ≡ false → g.is_dummy ≡ true → class_by own g ≡ dummy_class g
class_dummy own g constant dummy =
    class_next own g constant
    ∙ ap (λ b. if b then dummy_class g else if g.is_own_name then own else other_by g.is_array g.is_external g.is_called g.is_assigned_with_list g.is_intrinsic g.has_list g.is_known_function) dummy

class_third : (own : Class) (g : Signs) → g.is_constant ≡ false → g.is_dummy ≡ false → class_by own g ≡ (if g.is_own_name then own else other_class g)
class_third own g constant dummy =
    class_next own g constant
    ∙ ap (λ b. if b then dummy_class g else if g.is_own_name then own else other_by g.is_array g.is_external g.is_called g.is_assigned_with_list g.is_intrinsic g.has_list g.is_known_function) dummy
    ∙ ap (λ c. if g.is_own_name then own else c) (other_is g)

pub class_own : (own : Class) (g : Signs) → g.is_constant ≡ false → g.is_dummy ≡ false → g.is_own_name ≡ true → class_by own g ≡ own
class_own own g constant dummy named = class_third own g constant dummy ∙ ap (λ b. if b then own else other_class g) named

pub class_other : (own : Class) (g : Signs) → g.is_constant ≡ false → g.is_dummy ≡ false → g.is_own_name ≡ false → class_by own g ≡ other_class g
class_other own g constant dummy named = class_third own g constant dummy ∙ ap (λ b. if b then own else other_class g) named

pub ruleset class_laws = (class_constant, class_dummy, class_own, class_other)
