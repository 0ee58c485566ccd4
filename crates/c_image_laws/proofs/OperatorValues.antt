-- The value of each operator: where FORTRAN gives one, the C expression has it, without a fault.
use Rattle.std.specs.Prelude.{◌≡◌, ℤ, pos, ◌+ℤ◌, ◌-ℤ◌, ◌*ℤ◌, neg_ℤ, int_lt, int_le, int_div, Bool, true, false, not, ◌&&◌, ◌||◌, List, Some, None, Ok, if◌then◌else◌}
use Rattle.std.specs.Ordering.{int_eq}
use Rattle.std.proofs.Common.{refl, sym, ap, ◌∙◌, subst}
use Rattle.c_image.specs.f_tree.Values as fortran
use Rattle.c_image.specs.f_tree.Values.{Datum, IsInt, IsLog, IsText, IsSpot, IsProc, IsLabel, Nothing, Checked, Gives, Fails, Overflow, ZeroDivide}
use Rattle.c_image.specs.f_tree.Terms.{Prefix, Negate, Complement, Operator, Add, Subtract, Multiply, Divide, IsLess, IsLessOrEqual, IsEqual, IsNotEqual, IsGreater, IsGreaterOrEqual, Both, Either, Same, Different}
use Rattle.c_image.specs.f_tree.Store.{Whole, Truth, Label}
use Rattle.c_image.specs.f_tree.Store as store
use Rattle.c_image.specs.f_tree.Valuing as valuing
use Rattle.c_image.specs.f_tree.Valuing.{valuing_opened}
use Rattle.c_laws.specs.c_tree.declared.outcome.CValue.TheVariants.{Number}
use Rattle.c_laws.specs.c_tree.declared.expression.UnaryOp.TheVariants as prefix
use Rattle.c_laws.specs.c_tree.declared.expression.BinaryOp.TheVariants as op
use Rattle.c_laws.specs.c_tree.declared.expression.BinaryOp.{BinaryOp}
use Rattle.c_laws.specs.c_tree.Faults.{Or, after}
use Rattle.c_laws.specs.c_tree.Objects.{Object, Typed, plain}
use Rattle.c_laws.specs.c_tree.Terms.{Term, Prefixed, Between}
use Rattle.c_laws.specs.c_tree.Values.{in_range, seen, between, operation, truth, condition, unless_decided}
use Rattle.c_laws.proofs.ValueLaws.{Counts, Between-operation, Add-counts, Subtract-counts, Multiply-counts, Divide-counts, Minus-counts}
use Rattle.c_image.specs.faithful.StorageImage.{number_for}
use Rattle.c_image.specs.Held.{whole_for}
use Rattle.c_image.specs.Operations.{prefix_for, operator_for}
use Rattle.c_image_laws.specs.Meanings.{Means}
use Rattle.c_image_laws.proofs.ListLaws.{one_there}

-- ## What is meant by a datum

pub counts_integer : (objects : List Object) (term : Term) (z : ℤ) → Means objects term (IsInt z) → Counts objects term z
counts_integer objects term z means =
    let same : store.Number z ≡ means.whole = one_there (Some (store.Number z)) (store.Number z) means.whole refl means.is in
    subst (λ w. Counts objects term (number_for w)) (sym same) means.counts

pub counts_logical : (objects : List Object) (term : Term) (b : Bool) → Means objects term (IsLog b) → Counts objects term (number_for (Truth b))
counts_logical objects term b means =
    let same : Truth b ≡ means.whole = one_there (Some (Truth b)) (Truth b) means.whole refl means.is in
    subst (λ w. Counts objects term (number_for w)) (sym same) means.counts

pub means_integer : (objects : List Object) (term : Term) (z : ℤ) → Counts objects term z → Means objects term (IsInt z)
means_integer objects term z counts = record { whole = store.Number z; is = refl; counts = counts }

pub means_logical : (objects : List Object) (term : Term) (b : Bool) → Counts objects term (number_for (Truth b)) → Means objects term (IsLog b)
means_logical objects term b counts = record { whole = Truth b; is = refl; counts = counts }

pub no_meaning : (objects : List Object) (term : Term) (d : Datum) → whole_for d ≡ None → Means objects term d → ⊥
no_meaning objects term d none means = let nothing : None ≡ Some means.whole = sym none ∙ means.is in cc

-- the two ranges are one
pub same_range : (z : ℤ) → fortran.in_range z ≡ in_range z
unfolding fortran.in_range
same_range z = refl

-- an integer that fits its unit
pub record IsChecked (z : ℤ) (d : Datum) : Type 0 where
  pub fits : in_range z ≡ true
  pub is : d ≡ IsInt z

checked_by : (test : Bool) (z : ℤ) (d : Datum) → fortran.in_range z ≡ test → (if test then Gives (IsInt z) else Fails Overflow) ≡ Gives d → IsChecked z d
checked_by true z d holds gives = record { fits = sym (same_range z) ∙ holds; is = (let same : IsInt z ≡ d = cc in sym same) }
checked_by false z d holds gives = absurd (cc)

pub is_checked : (z : ℤ) (d : Datum) → fortran.checked z ≡ Gives d → IsChecked z d
unfolding fortran.checked
is_checked z d gives = checked_by (fortran.in_range z) z d refl gives

pub means_checked : (objects : List Object) (term : Term) (z : ℤ) (d : Datum) → IsChecked z d → Counts objects term z → Means objects term d
means_checked objects term z d checked counts = subst (Means objects term) (sym checked.is) (means_integer objects term z counts)

-- ## Operators before one operand

not_counts : (objects : List Object) (term : Term) (b : Bool) → Counts objects term (number_for (Truth b)) → Counts objects (Prefixed prefix.Not term) (number_for (Truth (not b)))
unfolding seen
not_counts objects term true counts = ap (λ found. after found λ typed. after (condition typed) λ holds. Ok (truth (not holds))) counts
not_counts objects term false counts = ap (λ found. after found λ typed. after (condition typed) λ holds. Ok (truth (not holds))) counts

pub prefix_meant : (objects : List Object) (operator : Prefix) (a d : Datum) (term : Term) → valuing.prefixed operator a ≡ Gives d → Means objects term a →
    Means objects (Prefixed (prefix_for operator) term) d
unfolding valuing.prefixed
prefix_meant objects Negate (IsInt z) d term gives means =
    let checked = is_checked (neg_ℤ z) d gives in
    means_checked objects (Prefixed prefix.Minus term) (neg_ℤ z) d checked (Minus-counts objects term z (counts_integer objects term z means) checked.fits)
prefix_meant objects Complement (IsLog b) d term gives means =
    let same : IsLog (not b) ≡ d = cc in
    subst (Means objects (Prefixed prefix.Not term)) same
    (means_logical objects (Prefixed prefix.Not term) (not b) (not_counts objects term b (counts_logical objects term b means)))
prefix_meant objects _ a d term gives means = absurd (cc)

-- ## Operators between two integers

-- a truth value is 1 or 0
truth_is : (b : Bool) → truth b ≡ plain (Number (number_for (Truth b)))
truth_is true = refl
truth_is false = refl

pub compares : (objects : List Object) (operator : BinaryOp) (one other : Term) (a b : ℤ) (holds : Bool) (d : Datum) →
    ((x y : Or Typed) → between objects operator x y ≡ after x (λ first. after y (λ second. operation objects operator first second))) →
    operation objects operator (plain (Number a)) (plain (Number b)) ≡ Ok (truth holds) → Gives (IsLog holds) ≡ Gives d →
    Counts objects one a → Counts objects other b → Means objects (Between operator one other) d
compares objects operator one other a b holds d plainly is gives of_one of_other =
    let same : IsLog holds ≡ d = cc in
    subst (Means objects (Between operator one other)) same
    (means_logical objects (Between operator one other) holds (Between-operation objects operator one other a b plainly of_one of_other ∙ is ∙ ap Ok (truth_is holds)))

pub divided_by : (test : Bool) (a b : ℤ) (d : Datum) → int_eq b (pos 0) ≡ test → (if test then Fails ZeroDivide else fortran.checked (int_div a b)) ≡ Gives d →
    (int_eq b (pos 0) ≡ false) × IsChecked (int_div a b) d
divided_by true a b d is gives = absurd (cc)
divided_by false a b d is gives = (is, is_checked (int_div a b) d gives)

integers_meant : (objects : List Object) (operator : Operator) (a b : ℤ) (d : Datum) (one other : Term) → valuing.on_integers operator a b ≡ Gives d → Counts objects one a → Counts objects other b →
    Means objects (Between (operator_for operator) one other) d
unfolding valuing.on_integers valuing.divided
integers_meant objects Add a b d one other gives of_one of_other =
    let checked = is_checked (a +ℤ b) d gives in
    means_checked objects (Between op.Add one other) (a +ℤ b) d checked (Add-counts objects one other a b of_one of_other checked.fits)
integers_meant objects Subtract a b d one other gives of_one of_other =
    let checked = is_checked (a -ℤ b) d gives in
    means_checked objects (Between op.Subtract one other) (a -ℤ b) d checked (Subtract-counts objects one other a b of_one of_other checked.fits)
integers_meant objects Multiply a b d one other gives of_one of_other =
    let checked = is_checked (a *ℤ b) d gives in
    means_checked objects (Between op.Multiply one other) (a *ℤ b) d checked (Multiply-counts objects one other a b of_one of_other checked.fits)
integers_meant objects Divide a b d one other gives of_one of_other =
    let divided = divided_by (int_eq b (pos 0)) a b d refl gives in
    means_checked objects (Between op.Divide one other) (int_div a b) d divided.1 (Divide-counts objects one other a b of_one of_other divided.0 divided.1.fits)
integers_meant objects IsLess a b d one other gives of_one of_other = compares objects op.Less one other a b (int_lt a b) d (λ x y. refl) refl gives of_one of_other
integers_meant objects IsLessOrEqual a b d one other gives of_one of_other = compares objects op.LessOrEqual one other a b (int_le a b) d (λ x y. refl) refl gives of_one of_other
integers_meant objects IsEqual a b d one other gives of_one of_other = compares objects op.Equal one other a b (int_eq a b) d (λ x y. refl) refl gives of_one of_other
integers_meant objects IsNotEqual a b d one other gives of_one of_other = compares objects op.Unequal one other a b (not (int_eq a b)) d (λ x y. refl) refl gives of_one of_other
integers_meant objects IsGreater a b d one other gives of_one of_other = compares objects op.Greater one other a b (int_lt b a) d (λ x y. refl) refl gives of_one of_other
integers_meant objects IsGreaterOrEqual a b d one other gives of_one of_other = compares objects op.GreaterOrEqual one other a b (int_le b a) d (λ x y. refl) refl gives of_one of_other
integers_meant objects _ a b d one other gives of_one of_other = absurd (cc)

-- ## Operators between two truth values

-- `&&` and `||`, by the truth of the left operand
decided_and : (objects : List Object) (one other : Term) → Counts objects one (pos 0) → Counts objects (Between op.And one other) (pos 0)
unfolding seen
decided_and objects one other of_one =
    ap (λ found. after found λ typed. after (condition typed) λ holds. unless_decided (not holds) false (seen objects other).value) of_one

decided_or : (objects : List Object) (one other : Term) → Counts objects one (pos 1) → Counts objects (Between op.Or one other) (pos 1)
unfolding seen
decided_or objects one other of_one =
    ap (λ found. after found λ typed. after (condition typed) λ holds. unless_decided holds true (seen objects other).value) of_one

wanted_and : (objects : List Object) (one other : Term) (b : Bool) → Counts objects one (pos 1) → Counts objects other (number_for (Truth b)) → Counts objects (Between op.And one other) (number_for (Truth b))
unfolding seen
wanted_and objects one other b of_one of_other =
    ap (λ found. after found λ typed. after (condition typed) λ holds. unless_decided (not holds) false (seen objects other).value) of_one ∙
    ap (λ found. unless_decided false false found) of_other ∙ by b
  where
    by : (b : Bool) → unless_decided false false (Ok (plain (Number (number_for (Truth b))))) ≡ Ok (plain (Number (number_for (Truth b))))
    by true = refl
    by false = refl

wanted_or : (objects : List Object) (one other : Term) (b : Bool) → Counts objects one (pos 0) → Counts objects other (number_for (Truth b)) → Counts objects (Between op.Or one other) (number_for (Truth b))
unfolding seen
wanted_or objects one other b of_one of_other =
    ap (λ found. after found λ typed. after (condition typed) λ holds. unless_decided holds true (seen objects other).value) of_one ∙
    ap (λ found. unless_decided false true found) of_other ∙ by b
  where
    by : (b : Bool) → unless_decided false true (Ok (plain (Number (number_for (Truth b))))) ≡ Ok (plain (Number (number_for (Truth b))))
    by true = refl
    by false = refl

-- a left operand that decides is not followed by the right one, whatever that is
pub decided_both : (objects : List Object) (one other : Term) → Means objects one (IsLog false) → Means objects (Between op.And one other) (IsLog false)
decided_both objects one other means = means_logical objects (Between op.And one other) false (decided_and objects one other (counts_logical objects one false means))

pub decided_either : (objects : List Object) (one other : Term) → Means objects one (IsLog true) → Means objects (Between op.Or one other) (IsLog true)
decided_either objects one other means = means_logical objects (Between op.Or one other) true (decided_or objects one other (counts_logical objects one true means))

both_mean : (objects : List Object) (a b : Bool) (one other : Term) → Counts objects one (number_for (Truth a)) → Counts objects other (number_for (Truth b)) → Means objects (Between op.And one other) (IsLog (a && b))
both_mean objects true b one other of_one of_other = means_logical objects (Between op.And one other) b (wanted_and objects one other b of_one of_other)
both_mean objects false b one other of_one of_other = means_logical objects (Between op.And one other) false (decided_and objects one other of_one)

either_mean : (objects : List Object) (a b : Bool) (one other : Term) → Counts objects one (number_for (Truth a)) → Counts objects other (number_for (Truth b)) → Means objects (Between op.Or one other) (IsLog (a || b))
either_mean objects true b one other of_one of_other = means_logical objects (Between op.Or one other) true (decided_or objects one other of_one)
either_mean objects false b one other of_one of_other = means_logical objects (Between op.Or one other) b (wanted_or objects one other b of_one of_other)

alike : (a b : Bool) → int_eq (number_for (Truth a)) (number_for (Truth b)) ≡ valuing.both_or_none a b
unfolding valuing.both_or_none
alike true true = refl
alike true false = refl
alike false true = refl
alike false false = refl

logicals_meant : (objects : List Object) (operator : Operator) (a b : Bool) (d : Datum) (one other : Term) → valuing.on_logicals operator a b ≡ Gives d → Counts objects one (number_for (Truth a)) →
    Counts objects other (number_for (Truth b)) → Means objects (Between (operator_for operator) one other) d
unfolding valuing.on_logicals
logicals_meant objects Both a b d one other gives of_one of_other =
    let same : IsLog (a && b) ≡ d = cc in subst (Means objects (Between op.And one other)) same (both_mean objects a b one other of_one of_other)
logicals_meant objects Either a b d one other gives of_one of_other =
    let same : IsLog (a || b) ≡ d = cc in subst (Means objects (Between op.Or one other)) same (either_mean objects a b one other of_one of_other)
logicals_meant objects Same a b d one other gives of_one of_other =
    compares objects op.Equal one other (number_for (Truth a)) (number_for (Truth b)) (valuing.both_or_none a b) d (λ x y. refl) (ap (λ holds. Ok (truth holds)) (alike a b)) gives of_one of_other
logicals_meant objects Different a b d one other gives of_one of_other =
    compares objects op.Unequal one other (number_for (Truth a)) (number_for (Truth b)) (not (valuing.both_or_none a b)) d (λ x y. refl) (ap (λ holds. Ok (truth (not holds))) (alike a b)) gives of_one of_other
logicals_meant objects _ a b d one other gives of_one of_other = absurd (cc)

-- Each operator that has a value in FORTRAN has it in C
pub operator_meant : (objects : List Object) (operator : Operator) (a b d : Datum) (one other : Term) → valuing.operated operator a b ≡ Gives d → Means objects one a → Means objects other b →
    Means objects (Between (operator_for operator) one other) d
unfolding valuing.operated
operator_meant objects operator (IsInt a) (IsInt b) d one other gives of_one of_other =
    integers_meant objects operator a b d one other gives (counts_integer objects one a of_one) (counts_integer objects other b of_other)
operator_meant objects operator (IsLog a) (IsLog b) d one other gives of_one of_other =
    logicals_meant objects operator a b d one other gives (counts_logical objects one a of_one) (counts_logical objects other b of_other)
operator_meant objects operator (IsText a) (IsText b) d one other gives of_one of_other = absurd (no_meaning objects one (IsText a) refl of_one)
operator_meant objects operator _ _ d one other gives of_one of_other = absurd (cc)
