-- Places that are written alike are the same, where a name stands for one object. C89, 3.1.2.1 and 3.3.2.1.
use Rattle.std.specs.Prelude.{◌≡◌, ℕ, ℤ, pos, negsuc, nat_eq, nat_le, Bool, true, false, ◌&&◌, ◌||◌, List, Option, Some, None, slice_get, if◌then◌else◌}
use Rattle.std.proofs.Common.{refl, sym, ap, ◌∙◌, subst}
use Rattle.std.proofs.lemmas.Bool.{eq-eqb}
use Rattle.c_spelling.specs.c_tree.Opened.{trees_opened}
use Rattle.c_spelling.specs.c_tree.declared.expression.CExpr.{CExpr}
use Rattle.c_spelling.specs.c_tree.declared.expression.CExpr.TheVariants as expr
use Rattle.c_spelling.specs.c_tree.declared.expression.UnaryOp.{UnaryOp}
use Rattle.c_spelling.specs.c_tree.declared.expression.UnaryOp.TheVariants as prefix
use Rattle.c_spelling.specs.c_tree.declared.expression.BinaryOp.TheVariants as op
use Rattle.c_spelling.specs.c_tree.Access.{Access, ToNumber, ToPointer}
use Rattle.c_spelling.specs.c_tree.Terms.{Term, Constant, Variable, Array, Routine, Unknown, Prefixed, Cast, Between, Choice, Element, Field, Size, Most, Magnitude}
use Rattle.c_spelling.specs.c_tree.Flat.{Flat, Assign}
use Rattle.named_mains.specs.c_structure.Expressions.{Names, with_two, with_three, number_expr, array_expr, expr_for}
use Rattle.named_mains.specs.c_structure.Statements.{same_place}
use Rattle.named_mains.specs.named_items.Agreement.{both_alike, are_alike, TellsPlaces}
use Rattle.named_mains.specs.named_items.SamePlaces.{name_in, number_in, pointed_in, pointer_in, array_in, element_in, same_names, same_numbers, same_elements, same_expr}
use Rattle.named_mains.proofs.named_items.WrittenAlike.{left_true, right_true, written_alike}
use Rattle.named_mains.proofs.named_items.NamedItems.{some_same, mapped_by}

-- ## Terms whose places are objects of a kind

-- an object that is the place itself, and a parameter that points to it
pub data Reach : Type 0 where
  Own : Reach
  Pointed : Reach

-- objects that are places themselves, and no parameters
abbrev pub OwnAlone : (ℕ → Type 0) → Reach → ℕ → Type 0
OwnAlone IsObject Own k = IsObject k
OwnAlone IsObject Pointed k = ⊥

-- a number in an object, or where a parameter points; an element of an array; a sum that begins with one; and what is no place
abbrev pub NamesObjects : (Reach → ℕ → Type 0) → Term → Type 0
NamesObjects IsObject (Variable k ToNumber) = IsObject Own k
NamesObjects IsObject (Variable k access) = ⊥
NamesObjects IsObject (Array k access) = ⊥
NamesObjects IsObject (Routine k) = ⊥
NamesObjects IsObject (Prefixed prefix.Deref (Variable k (ToPointer ToNumber))) = IsObject Pointed k
NamesObjects IsObject (Prefixed prefix.Deref t) = ⊥
NamesObjects IsObject (Between sign t u) = NamesObjects IsObject t
NamesObjects IsObject (Element (Array k ToNumber) t) = IsObject Own k
NamesObjects IsObject (Element (Variable k (ToPointer ToNumber)) t) = IsObject Pointed k
NamesObjects IsObject (Element t u) = ⊥
NamesObjects IsObject t = Unit {0}

-- an item that sets a place
abbrev pub SetsObjects : (Reach → ℕ → Type 0) → Flat → Type 0
SetsObjects IsObject (Assign t u) = NamesObjects IsObject t × NamesObjects IsObject u
SetsObjects IsObject item = Unit {0}

-- ## The expression of a term

record IsNoPlace (e : CExpr) : Type 0 where
  name : name_in e ≡ None
  number : number_in e ≡ None
  pointer : pointer_in e ≡ None
  array : array_in e ≡ None

data IsDrawn (names : Names) : Term → CExpr → Type 0 where
  of_number : (n : ℕ) → IsDrawn names (Constant (pos n)) (expr.Number (pos n))
  of_variable : (k : ℕ) (access : Access) → IsDrawn names (Variable k access) (expr.Name (names.object k))
  of_array : (k : ℕ) (access : Access) → IsDrawn names (Array k access) (array_expr (names.string k) (names.object k))
  of_routine : (k : ℕ) → IsDrawn names (Routine k) (expr.Name (names.routine k))
  of_prefix : (sign : UnaryOp) (t : Term) (e : CExpr) → IsDrawn names t e → IsDrawn names (Prefixed sign t) (expr.Unary sign e)
  of_element : (t u : Term) (e i : CExpr) → IsDrawn names t e → IsDrawn names u i → IsDrawn names (Element t u) (expr.Index e i)
  of_other : (t : Term) (e : CExpr) → IsNoPlace e → IsDrawn names t e

-- an expression that is made of two, and of three
record AreTwo (form : CExpr → CExpr → CExpr) (o p : Option CExpr) (e : CExpr) : Type 0 where
  one : CExpr
  other : CExpr
  one_is : o ≡ Some one
  other_is : p ≡ Some other
  is : form one other ≡ e

two_by : (form : CExpr → CExpr → CExpr) (o p : Option CExpr) (e : CExpr) → with_two form o p ≡ Some e → AreTwo form o p e
unfolding with_two
two_by form (Some a) (Some b) e h = record { one = a; other = b; one_is = refl; other_is = refl; is = some_same (form a b) e h }
two_by form (Some a) None e h = absurd (cc)
two_by form None p e h = absurd (cc)

three_by : (form : CExpr → CExpr → CExpr → CExpr) (o p q : Option CExpr) (e : CExpr) → with_three form o p q ≡ Some e → (a : CExpr) × (b : CExpr) × (c : CExpr) × (form a b c ≡ e)
unfolding with_three
three_by form (Some a) (Some b) (Some c) e h = (a, b, c, some_same (form a b c) e h)
three_by form (Some a) (Some b) None e h = absurd (cc)
three_by form (Some a) None q e h = absurd (cc)
three_by form None p q e h = absurd (cc)

no_place_unless : (e : CExpr) → name_in e ≡ None → number_in e ≡ None → pointer_in e ≡ None → array_in e ≡ None → IsNoPlace e
no_place_unless e name number pointer array = record { name = name; number = number; pointer = pointer; array = array }

module _ (names : Names) where
  constant_drawn : (z : ℤ) (e : CExpr) → number_expr z ≡ Some e → IsDrawn names (Constant z) e
  unfolding number_expr
  constant_drawn (negsuc n) e h = absurd (cc)
  constant_drawn (pos n) e h = by (nat_le n 2147483647) h
    where
      by : (t : Bool) → (if t then Some (expr.Number (pos n)) else None) ≡ Some e → IsDrawn names (Constant (pos n)) e
      by true g = subst (IsDrawn names (Constant (pos n))) (some_same (expr.Number (pos n)) e g) (of_number n)
      by false g = absurd (cc)

  other_drawn : (t : Term) (a e : CExpr) → a ≡ e → name_in a ≡ None → number_in a ≡ None → pointer_in a ≡ None → array_in a ≡ None → IsDrawn names t e
  other_drawn t a e same name number pointer array = subst (IsDrawn names t) same (of_other t a (no_place_unless a name number pointer array))

  drawn : (t : Term) (e : CExpr) → expr_for names t ≡ Some e → IsDrawn names t e
  unfolding expr_for name_in number_in pointer_in array_in trees_opened
  drawn (Constant z) e h = constant_drawn z e h
  drawn (Variable k access) e h = subst (IsDrawn names (Variable k access)) (some_same (expr.Name (names.object k)) e h) (of_variable k access)
  drawn (Array k access) e h = subst (IsDrawn names (Array k access)) (some_same (array_expr (names.string k) (names.object k)) e h) (of_array k access)
  drawn (Routine k) e h = subst (IsDrawn names (Routine k)) (some_same (expr.Name (names.routine k)) e h) (of_routine k)
  drawn Unknown e h = absurd (cc)
  drawn (Prefixed sign t) e h = let m = mapped_by (expr.Unary sign) (expr_for names t) e h in subst (IsDrawn names (Prefixed sign t)) m.is (of_prefix sign t m.one (drawn t m.one m.one_is))
  drawn (Cast type t) e h = let m = mapped_by (expr.Cast type) (expr_for names t) e h in other_drawn (Cast type t) (expr.Cast type m.one) e m.is refl refl refl refl
  drawn (Between sign t u) e h =
      let m = two_by (expr.Binary sign) (expr_for names t) (expr_for names u) e h in other_drawn (Between sign t u) (expr.Binary sign m.one m.other) e m.is refl refl refl refl
  drawn (Choice t u v) e h =
      let m = three_by expr.Choose (expr_for names t) (expr_for names u) (expr_for names v) e h in other_drawn (Choice t u v) (expr.Choose m.0 m.1 m.2) e m.3 refl refl refl refl
  drawn (Element t u) e h =
      let m = two_by expr.Index (expr_for names t) (expr_for names u) e h in
      subst (IsDrawn names (Element t u)) m.is (of_element t u m.one m.other (drawn t m.one m.one_is) (drawn u m.other m.other_is))
  drawn (Field t name) e h = let m = mapped_by (λ a. expr.Field a name) (expr_for names t) e h in other_drawn (Field t name) (expr.Field m.one name) e m.is refl refl refl refl
  drawn Size e h = other_drawn Size expr.SizeInt e (some_same expr.SizeInt e h) refl refl refl refl
  drawn (Most which t u) e h =
      let m = two_by (expr.MaxMin which) (expr_for names t) (expr_for names u) e h in other_drawn (Most which t u) (expr.MaxMin which m.one m.other) e m.is refl refl refl refl
  drawn (Magnitude t) e h = let m = mapped_by expr.Abs (expr_for names t) e h in other_drawn (Magnitude t) (expr.Abs m.one) e m.is refl refl refl refl

-- ## The term of an expression

record IsNumber (t : Term) (z : ℤ) : Type 0 where
  value : ℕ
  is : t ≡ Constant (pos value)
  same : z ≡ pos value

record IsVariable (IsObject : Reach → ℕ → Type 0) (names : Names) (t : Term) (name : List ℕ) : Type 0 where
  object : ℕ
  is : t ≡ Variable object ToNumber
  known : IsObject Own object
  called : names.object object ≡ name

record IsPointed (IsObject : Reach → ℕ → Type 0) (names : Names) (t : Term) (name : List ℕ) : Type 0 where
  object : ℕ
  is : t ≡ Prefixed prefix.Deref (Variable object (ToPointer ToNumber))
  known : IsObject Pointed object
  called : names.object object ≡ name

-- where an array begins
abbrev pub start_of : Reach → ℕ → Term
start_of Own k = Array k ToNumber
start_of Pointed k = Variable k (ToPointer ToNumber)

record IsElement (IsObject : Reach → ℕ → Type 0) (names : Names) (t : Term) (name : List ℕ) (z : ℤ) : Type 0 where
  reach : Reach
  object : ℕ
  index : ℕ
  is : t ≡ Element (start_of reach object) (Constant (pos index))
  known : IsObject reach object
  called : names.object object ≡ name
  counted : z ≡ pos index

none_some : {A B : Type 0} (o : Option A) (a : A) → o ≡ None → o ≡ Some a → B
none_some o a none some = let clash : None ≡ Some a = sym none ∙ some in absurd (cc)

no_number_in_array : (s : Option (List ℕ)) (name : List ℕ) → number_in (array_expr s name) ≡ None
unfolding array_expr number_in trees_opened
no_number_in_array (Some bytes) name = refl
no_number_in_array None name = refl

name_in_array : (s : Option (List ℕ)) (own name : List ℕ) → name_in (array_expr s own) ≡ Some name → own ≡ name
unfolding array_expr name_in trees_opened
name_in_array (Some bytes) own name h = absurd (cc)
name_in_array None own name h = some_same own name h

number_at : (names : Names) (t : Term) (e : CExpr) (z : ℤ) → IsDrawn names t e → number_in e ≡ Some z → IsNumber t z
unfolding number_in trees_opened
number_at names _ _ z (of_number n) h = record { value = n; is = refl; same = sym (some_same (pos n) z h) }
number_at names _ _ z (of_variable k access) h = absurd (cc)
number_at names _ _ z (of_array k access) h = none_some (number_in (array_expr (names.string k) (names.object k))) z (no_number_in_array (names.string k) (names.object k)) h
number_at names _ _ z (of_routine k) h = absurd (cc)
number_at names _ _ z (of_prefix sign t e _) h = absurd (cc)
number_at names _ _ z (of_element t u e i _ _) h = absurd (cc)
number_at names _ _ z (of_other t e none) h = none_some (number_in e) z none.number h

module _ (IsObject : Reach → ℕ → Type 0) (names : Names) where
  variable_at : (t : Term) (e : CExpr) (name : List ℕ) → IsDrawn names t e → NamesObjects IsObject t → name_in e ≡ Some name → IsVariable IsObject names t name
  unfolding name_in trees_opened
  variable_at _ _ name (of_number n) known h = absurd (cc)
  variable_at _ _ name (of_variable k ToNumber) known h = record { object = k; is = refl; known = known; called = some_same (names.object k) name h }
  variable_at _ _ name (of_variable k access) known h = absurd known
  variable_at _ _ name (of_array k access) known h = absurd known
  variable_at _ _ name (of_routine k) known h = absurd known
  variable_at _ _ name (of_prefix sign t e _) known h = absurd (cc)
  variable_at _ _ name (of_element t u e i _ _) known h = absurd (cc)
  variable_at _ _ name (of_other t e none) known h = none_some (name_in e) name none.name h

  pointed_at : (t : Term) (e : CExpr) (name : List ℕ) → IsDrawn names t e → NamesObjects IsObject (Prefixed prefix.Deref t) → name_in e ≡ Some name → IsPointed IsObject names (Prefixed prefix.Deref t) name
  unfolding name_in trees_opened
  pointed_at _ _ name (of_number n) known h = absurd known
  pointed_at _ _ name (of_variable k (ToPointer ToNumber)) known h = record { object = k; is = refl; known = known; called = some_same (names.object k) name h }
  pointed_at _ _ name (of_variable k access) known h = absurd known
  pointed_at _ _ name (of_array k access) known h = absurd known
  pointed_at _ _ name (of_routine k) known h = absurd known
  pointed_at _ _ name (of_prefix sign t e _) known h = absurd known
  pointed_at _ _ name (of_element t u e i _ _) known h = absurd known
  pointed_at _ _ name (of_other t e none) known h = none_some (name_in e) name none.name h

  pointer_at : (t : Term) (e : CExpr) (name : List ℕ) → IsDrawn names t e → NamesObjects IsObject t → pointer_in e ≡ Some name → IsPointed IsObject names t name
  unfolding pointer_in pointed_in trees_opened
  pointer_at _ _ name (of_number n) known h = absurd (cc)
  pointer_at _ _ name (of_variable k access) known h = absurd (cc)
  pointer_at _ _ name (of_array k access) known h = absurd known
  pointer_at _ _ name (of_routine k) known h = absurd known
  pointer_at _ _ name (of_prefix prefix.Deref t e is) known h = pointed_at t e name is known h
  pointer_at _ _ name (of_prefix sign t e _) known h = absurd (cc)
  pointer_at _ _ name (of_element t u e i _ _) known h = absurd (cc)
  pointer_at _ _ name (of_other t e none) known h = none_some (pointer_in e) name none.pointer h

  indexed_at : (t u : Term) (e i : CExpr) (name : List ℕ) (z : ℤ) → IsDrawn names t e → IsNumber u z → NamesObjects IsObject (Element t u) → name_in e ≡ Some name → IsElement IsObject names (Element t u) name z
  unfolding name_in trees_opened
  indexed_at _ u _ i name z (of_number n) number known h = absurd known
  indexed_at _ u _ i name z (of_variable k (ToPointer ToNumber)) number known h = record {
    reach = Pointed;
    object = k;
    index = number.value;
    is = ap (Element (Variable k (ToPointer ToNumber))) number.is;
    known = known;
    called = some_same (names.object k) name h;
    counted = number.same;
  }
  indexed_at _ u _ i name z (of_variable k access) number known h = absurd known
  indexed_at _ u _ i name z (of_array k ToNumber) number known h = record {
    reach = Own;
    object = k;
    index = number.value;
    is = ap (Element (Array k ToNumber)) number.is;
    known = known;
    called = name_in_array (names.string k) (names.object k) name h;
    counted = number.same;
  }
  indexed_at _ u _ i name z (of_array k access) number known h = absurd known
  indexed_at _ u _ i name z (of_routine k) number known h = absurd known
  indexed_at _ u _ i name z (of_prefix sign t e _) number known h = absurd known
  indexed_at _ u _ i name z (of_element s t e f _ _) number known h = absurd known
  indexed_at _ u _ i name z (of_other t e none) number known h = none_some (name_in e) name none.name h

  element_at : (t : Term) (e : CExpr) (name : List ℕ) (z : ℤ) → IsDrawn names t e → NamesObjects IsObject t → array_in e ≡ Some name → element_in e ≡ Some z → IsElement IsObject names t name z
  unfolding array_in element_in trees_opened
  element_at _ _ name z (of_number n) known h g = absurd (cc)
  element_at _ _ name z (of_variable k access) known h g = absurd (cc)
  element_at _ _ name z (of_array k access) known h g = absurd known
  element_at _ _ name z (of_routine k) known h g = absurd known
  element_at _ _ name z (of_prefix sign t e _) known h g = absurd (cc)
  element_at _ _ name z (of_element t u e i is at) known h g = indexed_at t u e i name z is (number_at names u i z at g) known h
  element_at _ _ name z (of_other t e none) known h g = none_some (array_in e) name none.array h

-- ## Places that are written alike

data IsPlace (e : CExpr) : Type 0 where
  a_name : (name : List ℕ) → name_in e ≡ Some name → IsPlace e
  a_pointer : (name : List ℕ) → pointer_in e ≡ Some name → IsPlace e
  an_element : (name : List ℕ) (z : ℤ) → array_in e ≡ Some name → element_in e ≡ Some z → IsPlace e

name_there : (o p : Option (List ℕ)) → same_names o p ≡ true → (name : List ℕ) × (o ≡ Some name)
unfolding same_names
name_there (Some name) p h = (name, refl)
name_there None p h = absurd (cc)

number_there : (o p : Option ℤ) → same_numbers o p ≡ true → (z : ℤ) × (o ≡ Some z)
unfolding same_numbers
number_there (Some z) p h = (z, refl)
number_there None p h = absurd (cc)

place_of : (a b : CExpr) → same_expr a b ≡ true → IsPlace a
unfolding same_expr same_elements
place_of a b h = by (same_names (name_in a) (name_in b)) refl h
  where
    element : same_names (array_in a) (array_in b) && same_numbers (element_in a) (element_in b) ≡ true → IsPlace a
    element g =
        let name = name_there (array_in a) (array_in b) (left_true (same_names (array_in a) (array_in b)) (same_numbers (element_in a) (element_in b)) g) in
        let number = number_there (element_in a) (element_in b) (right_true (same_names (array_in a) (array_in b)) (same_numbers (element_in a) (element_in b)) g) in
        an_element name.0 number.0 name.1 number.1

    pointer : (t : Bool) → same_names (pointer_in a) (pointer_in b) ≡ t → t || (same_names (array_in a) (array_in b) && same_numbers (element_in a) (element_in b)) ≡ true → IsPlace a
    pointer true is g = let name = name_there (pointer_in a) (pointer_in b) is in a_pointer name.0 name.1
    pointer false is g = element g

    by : (t : Bool) → same_names (name_in a) (name_in b) ≡ t → t || (same_names (pointer_in a) (pointer_in b) || (same_names (array_in a) (array_in b) && same_numbers (element_in a) (element_in b))) ≡ true → IsPlace a
    by true is g = let name = name_there (name_in a) (name_in b) is in a_name name.0 name.1
    by false is g = pointer (same_names (pointer_in a) (pointer_in b)) refl g

and_both : (s t : Bool) → s ≡ true → t ≡ true → s && t ≡ true
and_both true t h k = k
and_both false t h k = absurd (cc)

-- names tell objects apart, and those that are places themselves from parameters that point to places
abbrev pub AreTold : (Reach → ℕ → Type 0) → Names → Type 0
AreTold IsObject names = (r s : Reach) (j k : ℕ) → IsObject r j → IsObject s k → names.object j ≡ names.object k → (r ≡ s) × (j ≡ k)

element_same : (r : Reach) (k index : ℕ) → same_place (Element (start_of r k) (Constant (pos index))) (Element (start_of r k) (Constant (pos index))) ≡ true
unfolding same_place
element_same Own k index = and_both (nat_eq k k) (nat_eq index index) (eq-eqb k k refl) (eq-eqb index index refl)
element_same Pointed k index = and_both (nat_eq k k) (nat_eq index index) (eq-eqb k k refl) (eq-eqb index index refl)

module _ (IsObject : Reach → ℕ → Type 0) (names : Names) (told : AreTold IsObject names) where
  same_variable : (t u : Term) (name : List ℕ) → IsVariable IsObject names t name → IsVariable IsObject names u name → same_place t u ≡ true
  unfolding same_place
  same_variable t u name one other =
      (λ i. same_place (one.is i) (other.is i)) ∙ eq-eqb one.object other.object (told Own Own one.object other.object one.known other.known (one.called ∙ sym other.called)).1

  same_pointed : (t u : Term) (name : List ℕ) → IsPointed IsObject names t name → IsPointed IsObject names u name → same_place t u ≡ true
  unfolding same_place
  same_pointed t u name one other =
      (λ i. same_place (one.is i) (other.is i)) ∙ eq-eqb one.object other.object (told Pointed Pointed one.object other.object one.known other.known (one.called ∙ sym other.called)).1

  same_element : (t u : Term) (name : List ℕ) (z : ℤ) → IsElement IsObject names t name z → IsElement IsObject names u name z → same_place t u ≡ true
  same_element t u name z one other =
      let numbers : pos one.index ≡ pos other.index = sym one.counted ∙ other.counted in
      let index : one.index ≡ other.index = cc in
      let same = told one.reach other.reach one.object other.object one.known other.known (one.called ∙ sym other.called) in
      let place : Element (start_of one.reach one.object) (Constant (pos one.index)) ≡ u = (λ i. Element (start_of (same.0 i) (same.1 i)) (Constant (pos (index i)))) ∙ sym other.is in
      (λ i. same_place (one.is i) (sym place i)) ∙ element_same one.reach one.object one.index

  same_by : (t u : Term) (a b : CExpr) → IsDrawn names t a → IsDrawn names u b → NamesObjects IsObject t → NamesObjects IsObject u → a ≡ b → IsPlace a → same_place t u ≡ true
  same_by t u a b one other known also same (a_name name is) = same_variable t u name (variable_at IsObject names t a name one known is) (variable_at IsObject names u b name other also (ap name_in (sym same) ∙ is))
  same_by t u a b one other known also same (a_pointer name is) = same_pointed t u name (pointer_at IsObject names t a name one known is) (pointer_at IsObject names u b name other also (ap pointer_in (sym same) ∙ is))
  same_by t u a b one other known also same (an_element name z is at) =
      same_element t u name z (element_at IsObject names t a name z one known is at) (element_at IsObject names u b name z other also (ap array_in (sym same) ∙ is) (ap element_in (sym same) ∙ at))

  same_where_alike : (t u : Term) → NamesObjects IsObject t → NamesObjects IsObject u → are_alike names t u ≡ true → same_place t u ≡ true
  unfolding both_alike
  same_where_alike t u known also alike = by (expr_for names t) refl (expr_for names u) refl alike
    where
      by : (o : Option CExpr) → expr_for names t ≡ o → (p : Option CExpr) → expr_for names u ≡ p → both_alike o p ≡ true → same_place t u ≡ true
      by (Some a) one (Some b) other h = same_by t u a b (drawn names t a one) (drawn names u b other) known also (written_alike a b h) (place_of a b h)
      by (Some a) one None other h = absurd (cc)
      by None one p other h = absurd (cc)

  pub tells_places : (flats : List Flat) → ((i : ℕ) (flat : Flat) → slice_get flats i ≡ Some flat → SetsObjects IsObject flat) → TellsPlaces names flats
  tells_places flats sets = record {
    tells = λ j k variable first target operand amount at there target_alike operand_alike.
        let one = sets j (Assign variable first) at in
        let other = sets k (Assign target (Between op.Add operand amount)) there in
        and_both (same_place variable target) (same_place variable operand) (same_where_alike variable target one.0 other.0 target_alike) (same_where_alike variable operand one.0 other.1 operand_alike);
  }
