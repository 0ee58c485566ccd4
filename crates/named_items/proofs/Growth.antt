-- How the variable of a loop grows, by names and in the flat form.
use Rattle.std.specs.Prelude.{◌≡◌, ℕ, ℤ, zero, suc, pos, negsuc, nat_le, Bool, true, false, ◌&&◌, List, Option, Some, None, option_map, if◌then◌else◌}
use Rattle.std.proofs.Common.{refl, sym, ap, ◌∙◌, subst}
use Rattle.std.proofs.lemmas.Bool.Decides.{Decides-int_eq}
use Rattle.c_tree.specs.Opened.{trees_opened}
use Rattle.c_tree.specs.declared.expression.CExpr.{CExpr}
use Rattle.c_tree.specs.declared.expression.CExpr.TheVariants as expr
use Rattle.c_tree.specs.declared.expression.BinaryOp.{BinaryOp}
use Rattle.c_tree.specs.declared.expression.BinaryOp.TheVariants as op
use Rattle.c_tree.specs.declared.expression.UnaryOp.{UnaryOp}
use Rattle.c_tree.specs.declared.expression.Extreme.{Extreme}
use Rattle.c_tree.specs.declared.types.CastType.{CastType}
use Rattle.c_tree.specs.declared.statement.CNext.{CNext}
use Rattle.c_tree.specs.declared.statement.CNext.TheVariants as next
use Rattle.c_tree.specs.Terms.{Term, Constant, Variable, Array, Routine, Unknown, Prefixed, Cast, Between, Choice, Element, Field, Size, Most, Magnitude}
use Rattle.c_tree.specs.Flat.{Flat, Assign}
use Rattle.c_structure.specs.Expressions.{Names, with_two, with_three, number_expr, array_expr, expr_for}
use Rattle.c_structure.specs.Statements as flat
use Rattle.named_items.specs.declared.item.Item.{Item}
use Rattle.named_items.specs.declared.item.Item.TheVariants as item
use Rattle.named_items.specs.SamePlaces.{number_in, same_expr}
use Rattle.named_items.specs.Structured.{added_in, sum_in, is_one, next_by, next_from, next_for}
use Rattle.named_items.specs.Agreement.{both_alike, are_alike}
use Rattle.named_items.proofs.WrittenAlike.{left_true, right_true, written_alike}
use Rattle.named_items.proofs.NamedItems.{some_same, mapped_by, IsNamed, set_from}

-- an expression that is neither a number nor a sum
record IsNeither (e : CExpr) : Type 0 where
  number : number_in e ≡ None
  sum : sum_in e ≡ None

neither_name : (name : List ℕ) → IsNeither (expr.Name name)
unfolding number_in sum_in trees_opened
neither_name name = record { number = refl; sum = refl }

neither_text : (bytes : List ℕ) → IsNeither (expr.Str bytes)
unfolding number_in sum_in trees_opened
neither_text bytes = record { number = refl; sum = refl }

neither_array : (found : Option (List ℕ)) (name : List ℕ) → IsNeither (array_expr found name)
unfolding array_expr
neither_array (Some bytes) name = neither_text bytes
neither_array None name = neither_name name

neither_unary : (op : UnaryOp) (e : CExpr) → IsNeither (expr.Unary op e)
unfolding number_in sum_in trees_opened
neither_unary op e = record { number = refl; sum = refl }

neither_cast : (type : CastType) (e : CExpr) → IsNeither (expr.Cast type e)
unfolding number_in sum_in trees_opened
neither_cast type e = record { number = refl; sum = refl }

neither_choose : (a b c : CExpr) → IsNeither (expr.Choose a b c)
unfolding number_in sum_in trees_opened
neither_choose a b c = record { number = refl; sum = refl }

neither_index : (a b : CExpr) → IsNeither (expr.Index a b)
unfolding number_in sum_in trees_opened
neither_index a b = record { number = refl; sum = refl }

neither_field : (e : CExpr) (name : List ℕ) → IsNeither (expr.Field e name)
unfolding number_in sum_in trees_opened
neither_field e name = record { number = refl; sum = refl }

neither_size : IsNeither expr.SizeInt
unfolding number_in sum_in trees_opened
neither_size = record { number = refl; sum = refl }

neither_most : (which : Extreme) (a b : CExpr) → IsNeither (expr.MaxMin which a b)
unfolding number_in sum_in trees_opened
neither_most which a b = record { number = refl; sum = refl }

neither_magnitude : (e : CExpr) → IsNeither (expr.Abs e)
unfolding number_in sum_in trees_opened
neither_magnitude e = record { number = refl; sum = refl }

number_sum : (z : ℤ) → sum_in (expr.Number z) ≡ None
unfolding sum_in trees_opened
number_sum z = refl

binary_number : (op : BinaryOp) (a b : CExpr) → number_in (expr.Binary op a b) ≡ None
unfolding number_in trees_opened
binary_number op a b = refl

binary_sum : (op : BinaryOp) (a b : CExpr) → sum_in (expr.Binary op a b) ≡ added_in op a b
unfolding sum_in trees_opened
binary_sum op a b = refl

number_number : (z : ℤ) → number_in (expr.Number z) ≡ Some z
unfolding number_in trees_opened
number_number z = refl

-- ## Two and three parts

record AreTwo (form : CExpr → CExpr → CExpr) (x y : Option CExpr) (e : CExpr) : Type 0 where
  one : CExpr
  other : CExpr
  one_is : x ≡ Some one
  other_is : y ≡ Some other
  is : form one other ≡ e

two_of : (form : CExpr → CExpr → CExpr) (x y : Option CExpr) (e : CExpr) → with_two form x y ≡ Some e → AreTwo form x y e
unfolding with_two
two_of form (Some a) (Some b) e h = record { one = a; other = b; one_is = refl; other_is = refl; is = some_same (form a b) e h }
two_of form (Some a) None e h = absurd (cc)
two_of form None y e h = absurd (cc)

three_of : (x y z : Option CExpr) (e : CExpr) → with_three expr.Choose x y z ≡ Some e → IsNeither e
unfolding with_three
three_of (Some a) (Some b) (Some c) e h = subst IsNeither (some_same (expr.Choose a b c) e h) (neither_choose a b c)
three_of (Some a) (Some b) None e h = absurd (cc)
three_of (Some a) None z e h = absurd (cc)
three_of None y z e h = absurd (cc)

-- ## What a term is whose expression is a number or a sum

-- a term that is a constant, a sum or something else, as its expression is
data Shape (names : Names) (e : CExpr) : Term → Type 0 where
  IsConstant : (z : ℤ) → expr.Number z ≡ e → Shape names e (Constant z)
  IsBetween : (op : BinaryOp) (t u : Term) (a b : CExpr) → expr_for names t ≡ Some a → expr_for names u ≡ Some b → expr.Binary op a b ≡ e → Shape names e (Between op t u)
  IsOther : (t : Term) → IsNeither e → Shape names e t

constant_shape : (names : Names) (z : ℤ) (e : CExpr) → number_expr z ≡ Some e → Shape names e (Constant z)
unfolding number_expr
constant_shape names (pos n) e h = by (nat_le n 2147483647) h
  where
    by : (b : Bool) → (if b then Some (expr.Number (pos n)) else None) ≡ Some e → Shape names e (Constant (pos n))
    by true g = IsConstant (pos n) (some_same (expr.Number (pos n)) e g)
    by false g = absurd (cc)
constant_shape names (negsuc n) e h = absurd (cc)

shape_of : (names : Names) (t : Term) (e : CExpr) → expr_for names t ≡ Some e → Shape names e t
unfolding expr_for
shape_of names (Constant z) e h = constant_shape names z e h
shape_of names (Variable k access) e h = IsOther _ (subst IsNeither (some_same _ e h) (neither_name (names.object k)))
shape_of names (Array k access) e h = IsOther _ (subst IsNeither (some_same _ e h) (neither_array (names.string k) (names.object k)))
shape_of names (Routine k) e h = IsOther _ (subst IsNeither (some_same _ e h) (neither_name (names.routine k)))
shape_of names Unknown e h = absurd (cc)
shape_of names (Prefixed op t) e h = let m = mapped_by (expr.Unary op) (expr_for names t) e h in IsOther _ (subst IsNeither m.is (neither_unary op m.one))
shape_of names (Cast type t) e h = let m = mapped_by (expr.Cast type) (expr_for names t) e h in IsOther _ (subst IsNeither m.is (neither_cast type m.one))
shape_of names (Between op t u) e h = let m = two_of (expr.Binary op) (expr_for names t) (expr_for names u) e h in IsBetween op t u m.one m.other m.one_is m.other_is m.is
shape_of names (Choice t u v) e h = IsOther _ (three_of (expr_for names t) (expr_for names u) (expr_for names v) e h)
shape_of names (Element t u) e h = let m = two_of expr.Index (expr_for names t) (expr_for names u) e h in IsOther _ (subst IsNeither m.is (neither_index m.one m.other))
shape_of names (Field t name) e h = let m = mapped_by (λ d. expr.Field d name) (expr_for names t) e h in IsOther _ (subst IsNeither m.is (neither_field m.one name))
shape_of names Size e h = IsOther _ (subst IsNeither (some_same _ e h) neither_size)
shape_of names (Most which t u) e h = let m = two_of (expr.MaxMin which) (expr_for names t) (expr_for names u) e h in IsOther _ (subst IsNeither m.is (neither_most which m.one m.other))
shape_of names (Magnitude t) e h = let m = mapped_by expr.Abs (expr_for names t) e h in IsOther _ (subst IsNeither m.is (neither_magnitude m.one))

record IsSum (names : Names) (t : Term) (pair : CExpr × CExpr) : Type 0 where
  operand : Term
  amount : Term
  is : t ≡ Between op.Add operand amount
  operand_is : expr_for names operand ≡ Some pair.0
  amount_is : expr_for names amount ≡ Some pair.1

sum_by : (names : Names) (op' : BinaryOp) (t u : Term) (a b : CExpr) (pair : CExpr × CExpr) → expr_for names t ≡ Some a → expr_for names u ≡ Some b → added_in op' a b ≡ Some pair → IsSum names (Between op' t u) pair
unfolding added_in
sum_by names op.Add t u a b pair one other h =
    let same : (a, b) ≡ pair = some_same (a, b) pair h in
    record { operand = t; amount = u; is = refl; operand_is = one ∙ ap (λ p. Some p.0) same; amount_is = other ∙ ap (λ p. Some p.1) same }
sum_by names op' t u a b pair one other h = absurd (cc)

sum_shaped : (names : Names) (t : Term) (e : CExpr) (pair : CExpr × CExpr) → Shape names e t → sum_in e ≡ Some pair → IsSum names t pair
sum_shaped names _ e pair (IsConstant z is) h = let none = sym (number_sum z) ∙ ap sum_in is ∙ h in absurd (cc)
sum_shaped names _ e pair (IsBetween op' t u a b one other is) h = sum_by names op' t u a b pair one other (sym (binary_sum op' a b) ∙ ap sum_in is ∙ h)
sum_shaped names t e pair (IsOther _ none) h = let clash = sym none.sum ∙ h in absurd (cc)

number_shaped : (names : Names) (t : Term) (e : CExpr) (z : ℤ) → Shape names e t → number_in e ≡ Some z → t ≡ Constant z
number_shaped names _ e z (IsConstant y is) h = ap Constant (some_same y z (sym (number_number y) ∙ ap number_in is ∙ h))
number_shaped names _ e z (IsBetween op' t u a b one other is) h = let clash = sym (binary_number op' a b) ∙ ap number_in is ∙ h in absurd (cc)
number_shaped names t e z (IsOther _ none) h = let clash = sym none.number ∙ h in absurd (cc)

-- ## The growth

one_is : (found : Option ℤ) → is_one found ≡ true → found ≡ Some (pos 1)
unfolding is_one
one_is (Some z) h = ap Some ((Decides-int_eq z (pos 1)).0 h)
one_is None h = absurd (cc)

up_alike : (names : Names) (v : Term) (a b : CExpr) → expr_for names v ≡ Some a → flat.next_by names v (Constant (pos 1)) ≡ Some (next.Up a)
unfolding flat.next_by
up_alike names v a b is = ap (option_map next.Up) is

-- a constant that is 1 has the number 1 as its expression
one_has : (names : Names) (e : CExpr) → expr_for names (Constant (pos (suc zero))) ≡ Some e → is_one (number_in e) ≡ true
unfolding expr_for number_expr is_one
one_has names e h = ap (λ x. is_one x) (ap number_in (sym (some_same (expr.Number (pos 1)) e h)) ∙ number_number (pos 1))

add_alike : (names : Names) (v amount : Term) (a b : CExpr) → expr_for names v ≡ Some a → expr_for names amount ≡ Some b → is_one (number_in b) ≡ false → flat.next_by names v amount ≡ Some (next.Add a b)
unfolding flat.next_by flat.added_by
add_alike names v (Constant (pos (suc zero))) a b one other h = let clash = sym (one_has names b other) ∙ h in absurd (cc)
add_alike names v amount a b one other h = (λ k. flat.added_by (one k) (other k))

growth_alike : (names : Names) (v amount : Term) (a b : CExpr) → expr_for names v ≡ Some a → expr_for names amount ≡ Some b → flat.next_by names v amount ≡ Some (next_by a b)
unfolding next_by
growth_alike names v amount a b one other = by (is_one (number_in b)) refl
  where
    by : (c : Bool) → is_one (number_in b) ≡ c → flat.next_by names v amount ≡ Some (if c then next.Up a else next.Add a b)
    by true so = ap (flat.next_by names v) (number_shaped names amount b (pos 1) (shape_of names amount b other) (one_is (number_in b) so)) ∙ up_alike names v a b one
    by false so = add_alike names v amount a b one other so

alike_by : (names : Names) (t u : Term) (a b : CExpr) → expr_for names t ≡ Some a → expr_for names u ≡ Some b → same_expr a b ≡ true → are_alike names t u ≡ true
unfolding both_alike
alike_by names t u a b one other h = (λ k. both_alike (one k) (other k)) ∙ h

-- what is told of the item behind the turn
abbrev pub Told : Names → Term → Option Flat → Type 0
Told names v x = (target operand amount : Term) → x ≡ Some (Assign target (Between op.Add operand amount)) → are_alike names v target ≡ true → are_alike names v operand ≡ true
    → flat.same_place v target && flat.same_place v operand ≡ true

grown_alike : (names : Names) (v t w : Term) (a te : CExpr) (pair : CExpr × CExpr) (nx : CNext) → Told names v (Some (Assign t w)) → expr_for names v ≡ Some a → expr_for names t ≡ Some te → IsSum names w pair
    → next_from a te (Some pair) ≡ Some nx → flat.next_for names v (Some (Assign t w)) ≡ Some nx
unfolding next_from flat.next_for
grown_alike names v t w a te pair nx told is place sum h = by (same_expr a te && same_expr a pair.0) refl h
  where
    by : (c : Bool) → same_expr a te && same_expr a pair.0 ≡ c → (if c then Some (next_by te pair.1) else None) ≡ Some nx → flat.next_for names v (Some (Assign t w)) ≡ Some nx
    by true so g =
        let one = left_true (same_expr a te) (same_expr a pair.0) so in
        let other = right_true (same_expr a te) (same_expr a pair.0) so in
        let same = told t sum.operand sum.amount (ap (λ z. Some (Assign t z)) sum.is) (alike_by names v t a te is place one) (alike_by names v sum.operand a pair.0 is sum.operand_is other) in
        ap (λ z. flat.next_for names v (Some (Assign t z))) sum.is
        ∙ ap (λ c. if c then flat.next_by names v sum.amount else None) same
        ∙ growth_alike names v sum.amount a pair.1 is sum.amount_is
        ∙ ap (λ z. Some (next_by z pair.1)) (written_alike a te one)
        ∙ g
    by false so g = absurd (cc)

sum_alike : (names : Names) (v t w : Term) (a te ve : CExpr) (found : Option (CExpr × CExpr)) (nx : CNext) → Told names v (Some (Assign t w)) → expr_for names v ≡ Some a → expr_for names t ≡ Some te → expr_for names w ≡ Some ve → sum_in ve ≡ found
    → next_from a te found ≡ Some nx → flat.next_for names v (Some (Assign t w)) ≡ Some nx
unfolding next_from
sum_alike names v t w a te ve None nx told is place value sum h = absurd (cc)
sum_alike names v t w a te ve (Some pair) nx told is place value sum h = grown_alike names v t w a te pair nx told is place (sum_shaped names w ve pair (shape_of names w ve value) sum) h

pub next_alike : (names : Names) (v : Term) (a : CExpr) (x : Option Flat) (y : Option Item) (nx : CNext) → Told names v x → expr_for names v ≡ Some a → IsNamed names x y → next_for a y ≡ Some nx → flat.next_for names v x ≡ Some nx
unfolding next_for
next_alike names v a (Some f) (Some (item.Assign te ve)) nx told is named h =
    let s = set_from names f te ve named in
    ap (flat.next_for names v) (ap Some s.is)
    ∙ sum_alike names v s.place s.value a te ve (sum_in ve) nx (subst (Told names v) (ap Some s.is) told) is s.place_is s.value_is refl h
next_alike names v a None (Some (item.Assign te ve)) nx told is named h = absurd named
next_alike names v a x y nx told is named h = absurd (cc)
