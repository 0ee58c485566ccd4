-- The value of each form of expression, by the values of its operands.
use Rattle.std.specs.Prelude.{◌≡◌, refl, ℕ, ℤ, pos, ◌+ℤ◌, ◌-ℤ◌, ◌*ℤ◌, neg_ℤ, int_div, true, false, List, ◌∷◌, Ok, if◌then◌else◌}
use Rattle.std.proofs.Common.{ap, ◌∙◌}
use Rattle.std.specs.Ordering.{int_eq}
use Rattle.c_tree.specs.declared.outcome.CValue.{CValue}
use Rattle.c_tree.specs.declared.outcome.CValue.TheVariants.{Number, Pointer}
use Rattle.c_tree.specs.declared.outcome.CFault.TheVariants.{Overflow, ZeroDivide}
use Rattle.c_tree.specs.declared.types.CastType.TheVariants as to
use Rattle.c_tree.specs.declared.expression.UnaryOp.TheVariants as prefix
use Rattle.c_tree.specs.declared.expression.BinaryOp.{BinaryOp}
use Rattle.c_tree.specs.declared.expression.BinaryOp.TheVariants as op
use Rattle.c_tree.specs.Faults.{Or, after, failing}
use Rattle.c_tree.specs.Access.{Access, ToNumber}
use Rattle.c_tree.specs.Objects.{Object, Typed, plain, as_number, fetched}
use Rattle.c_tree.specs.Terms.{Term, Constant, Variable, Prefixed, Cast, Between, Size}
use Rattle.c_tree.specs.Values.{seen, between, operation, cast, in_range, checked, value_of, values_of}

-- the expression has this number as its value
abbrev pub Counts : List Object → Term → ℤ → Type 0
Counts objects term number = (seen objects term).value ≡ Ok (plain (Number number))

pub value_of-number : (objects : List Object) (term : Term) (number : ℤ) → Counts objects term number → value_of objects term ≡ Ok (Number number)
value_of-number objects term number counts = ap (λ found. after found λ typed. Ok typed.value) counts

pub values_of-cons : (objects : List Object) (term : Term) (later : List Term) (value : CValue) (values : List CValue) → value_of objects term ≡ Ok value → values_of objects later ≡ Ok values → values_of objects (term ∷ later) ≡ Ok (value ∷ values)
values_of-cons objects term later value values first rest =
    ap (λ found. after found λ value. after (values_of objects later) λ values. Ok (value ∷ values)) first
    ∙ ap (λ found. after found λ values. Ok (value ∷ values)) rest

pub Constant-counts : (objects : List Object) (number : ℤ) → Counts objects (Constant number) number
unfolding seen
Constant-counts objects number = refl

pub Variable-counts : (objects : List Object) (object : ℕ) (number : ℤ) → fetched objects (record { at = Pointer object 0; access = ToNumber }) ≡ Ok (plain (Number number)) → Counts objects (Variable object ToNumber) number
unfolding seen
Variable-counts objects object number found = found

pub Size-counts : (objects : List Object) → Counts objects Size (pos 4)
unfolding seen
Size-counts objects = refl

-- a cast of a number to a length keeps it
pub Length-counts : (objects : List Object) (term : Term) (number : ℤ) → Counts objects term number → Counts objects (Cast to.Length term) number
unfolding seen
Length-counts objects term number counts = ap (λ found. after found (cast to.Length)) counts

-- the address of a variable, and that address as a `char *`
pub address_of_variable : (objects : List Object) (object : ℕ) (access : Access) → value_of objects (Prefixed prefix.Address (Variable object access)) ≡ Ok (Pointer object 0)
unfolding seen
address_of_variable objects object access = refl

pub address_as_chars : (objects : List Object) (object : ℕ) (access : Access) → value_of objects (Cast to.Chars (Prefixed prefix.Address (Variable object access))) ≡ Ok (Pointer object 0)
unfolding seen
address_as_chars objects object access = refl

pub checked-fits : (number : ℤ) → in_range number ≡ true → checked number ≡ Ok (plain (Number number))
checked-fits number fits = ap (λ test. if test then Ok (plain (Number number)) else failing Overflow) fits

-- both operands of an operator that is neither `&&` nor `||` have numbers
pub Between-operation : (objects : List Object) (operator : BinaryOp) (left right : Term) (a b : ℤ) → ((x y : Or Typed) → between objects operator x y ≡ after x (λ first. after y (λ second. operation objects operator first second))) → Counts objects left a → Counts objects right b → (seen objects (Between operator left right)).value ≡ operation objects operator (plain (Number a)) (plain (Number b))
unfolding seen
Between-operation objects operator left right a b plainly of_left of_right =
    plainly (seen objects left).value (seen objects right).value
    ∙ ap (λ found. after found (λ first. after (seen objects right).value (λ second. operation objects operator first second))) of_left
    ∙ ap (λ found. after found (λ second. operation objects operator (plain (Number a)) second)) of_right

pub Add-counts : (objects : List Object) (left right : Term) (a b : ℤ) → Counts objects left a → Counts objects right b → in_range (a +ℤ b) ≡ true → Counts objects (Between op.Add left right) (a +ℤ b)
Add-counts objects left right a b of_left of_right fits =
    Between-operation objects op.Add left right a b (λ x y. refl) of_left of_right ∙ checked-fits (a +ℤ b) fits

pub Subtract-counts : (objects : List Object) (left right : Term) (a b : ℤ) → Counts objects left a → Counts objects right b → in_range (a -ℤ b) ≡ true → Counts objects (Between op.Subtract left right) (a -ℤ b)
Subtract-counts objects left right a b of_left of_right fits =
    Between-operation objects op.Subtract left right a b (λ x y. refl) of_left of_right ∙ checked-fits (a -ℤ b) fits

pub Multiply-counts : (objects : List Object) (left right : Term) (a b : ℤ) → Counts objects left a → Counts objects right b → in_range (a *ℤ b) ≡ true → Counts objects (Between op.Multiply left right) (a *ℤ b)
Multiply-counts objects left right a b of_left of_right fits =
    Between-operation objects op.Multiply left right a b (λ x y. refl) of_left of_right ∙ checked-fits (a *ℤ b) fits

pub Divide-counts : (objects : List Object) (left right : Term) (a b : ℤ) → Counts objects left a → Counts objects right b → int_eq b (pos 0) ≡ false → in_range (int_div a b) ≡ true → Counts objects (Between op.Divide left right) (int_div a b)
Divide-counts objects left right a b of_left of_right divides fits =
    Between-operation objects op.Divide left right a b (λ x y. refl) of_left of_right
    ∙ ap (λ test. if test then failing ZeroDivide else checked (int_div a b)) divides
    ∙ checked-fits (int_div a b) fits

pub Minus-counts : (objects : List Object) (operand : Term) (a : ℤ) → Counts objects operand a → in_range (neg_ℤ a) ≡ true → Counts objects (Prefixed prefix.Minus operand) (neg_ℤ a)
unfolding seen
Minus-counts objects operand a counts fits =
    ap (λ found. after found λ typed. after (as_number typed.value) λ number. checked (neg_ℤ number)) counts
    ∙ checked-fits (neg_ℤ a) fits
