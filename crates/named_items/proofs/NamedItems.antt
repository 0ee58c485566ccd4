-- Items by names and the flat ones that they are of.
use Rattle.std.specs.Prelude.{◌≡◌, ℕ, zero, suc, ◌+◌, true, false, ◌&&◌, nat_eq, List, [], ◌∷◌, map, length, take, drop, Option, Some, None, is_none, option_map, slice_get}
use Rattle.std.proofs.Common.{refl, sym, ap, ◌∙◌, arith}
use Rattle.c_tree.specs.declared.expression.CExpr.{CExpr}
use Rattle.c_tree.specs.Access.{ToFunction}
use Rattle.c_tree.specs.Terms.{Term, Variable}
use Rattle.c_tree.specs.Flat.{Flat, Assign, Branch, Select, Jump, Invoke, Return, Nothing, Ignored, Kept, Direct, Through, CaseAt}
use Rattle.c_structure.specs.Expressions.{Names, expr_for, exprs_for}
use Rattle.c_structure.specs.Statements.{Outline}
use Rattle.c_structure.specs.Statements as flat
use Rattle.named_items.specs.declared.item.Callee.{Callee}
use Rattle.named_items.specs.declared.item.Case.{Case}
use Rattle.named_items.specs.declared.item.Item.{Item}
use Rattle.named_items.specs.declared.item.Item.TheVariants as item
use Rattle.named_items.specs.Items.{by_name, through, assign_by, call_by, set_call_by, case_of, item_for, before_items, items_for}
use Rattle.named_items.specs.Structured as named
use Rattle.named_items.specs.Agreement.{places_of, TellsPlaces}

pub some_same : {A : Type 0} → (x y : A) → Some x ≡ Some y → x ≡ y
some_same x y h = cc

-- a value that is made of another
pub record IsMapped {A B : Type 0} (f : A → B) (x : Option A) (y : B) : Type 0 where
  pub one : A
  pub one_is : x ≡ Some one
  pub is : f one ≡ y

pub mapped_by : {A B : Type 0} → (f : A → B) (x : Option A) (y : B) → option_map f x ≡ Some y → IsMapped f x y
mapped_by f (Some a) y h = record { one = a; one_is = refl; is = some_same (f a) y h }
mapped_by f None y h = absurd (cc)

pub record IsAssigned (x y : Option CExpr) (i : Item) : Type 0 where
  pub place : CExpr
  pub value : CExpr
  pub place_is : x ≡ Some place
  pub value_is : y ≡ Some value
  pub is : item.Assign place value ≡ i

pub assigned : (x y : Option CExpr) (i : Item) → assign_by x y ≡ Some i → IsAssigned x y i
unfolding assign_by
assigned (Some a) (Some b) i h = record { place = a; value = b; place_is = refl; value_is = refl; is = some_same (item.Assign a b) i h }
assigned (Some a) None i h = absurd (cc)
assigned None y i h = absurd (cc)

pub record IsSetCall (x : Option CExpr) (callee : Callee) (xs : Option (List CExpr)) (i : Item) : Type 0 where
  pub place : CExpr
  pub arguments : List CExpr
  pub place_is : x ≡ Some place
  pub arguments_are : xs ≡ Some arguments
  pub is : item.SetCall place callee arguments ≡ i

pub set_call : (x : Option CExpr) (callee : Callee) (xs : Option (List CExpr)) (i : Item) → set_call_by x callee xs ≡ Some i → IsSetCall x callee xs i
unfolding set_call_by
set_call (Some a) callee (Some es) i h = record { place = a; arguments = es; place_is = refl; arguments_are = refl; is = some_same (item.SetCall a callee es) i h }
set_call (Some a) callee None i h = absurd (cc)
set_call None callee xs i h = absurd (cc)

pub called : (callee : Callee) (xs : Option (List CExpr)) (i : Item) → call_by callee xs ≡ Some i → IsMapped (item.Call callee) xs i
unfolding call_by
called callee xs i h = mapped_by (item.Call callee) xs i h

-- ## Lists

before_is : (x : Option Item) (xs : Option (List Item)) (i : Item) (is : List Item) → before_items x xs ≡ Some (i ∷ is) → (x ≡ Some i) × (xs ≡ Some is)
unfolding before_items
before_is (Some a) (Some as') i is h = let both : a ∷ as' ≡ i ∷ is = some_same (a ∷ as') (i ∷ is) h in let one : a ≡ i = cc in let other : as' ≡ is = cc in (ap Some one, ap Some other)
before_is (Some a) None i is h = absurd (cc)
before_is None xs i is h = absurd (cc)

before_none : (x : Option Item) (xs : Option (List Item)) → before_items x xs ≡ Some [] → ⊥
unfolding before_items
before_none (Some a) (Some as') h = let same : a ∷ as' ≡ [] = some_same (a ∷ as') [] h in cc
before_none (Some a) None h = cc
before_none None xs h = cc

pub items_first : (names : Names) (f : Flat) (fs : List Flat) (i : Item) (is : List Item) → items_for names (f ∷ fs) ≡ Some (i ∷ is) → item_for names f ≡ Some i
unfolding items_for
items_first names f fs i is h = (before_is (item_for names f) (items_for names fs) i is h).0

pub items_later : (names : Names) (f : Flat) (fs : List Flat) (i : Item) (is : List Item) → items_for names (f ∷ fs) ≡ Some (i ∷ is) → items_for names fs ≡ Some is
unfolding items_for
items_later names f fs i is h = (before_is (item_for names f) (items_for names fs) i is h).1

pub no_items : (names : Names) (f : Flat) (fs : List Flat) → items_for names (f ∷ fs) ≡ Some [] → ⊥
unfolding items_for
no_items names f fs h = before_none (item_for names f) (items_for names fs) h

pub no_flats : (names : Names) (i : Item) (is : List Item) → items_for names [] ≡ Some (i ∷ is) → ⊥
unfolding items_for
no_flats names i is h = let same : [] ≡ i ∷ is = some_same [] (i ∷ is) h in cc

both_before : (names : Names) (f : Flat) (fs : List Flat) (i : Item) (is : List Item) → item_for names f ≡ Some i → items_for names fs ≡ Some is → items_for names (f ∷ fs) ≡ Some (i ∷ is)
unfolding items_for before_items
both_before names f fs i is one other = (λ k. before_items (one k) (other k))

none_named : (names : Names) → items_for names [] ≡ Some []
unfolding items_for
none_named names = refl

pub items_take : (names : Names) (m : ℕ) (fs : List Flat) (is : List Item) → items_for names fs ≡ Some is → items_for names (take m fs) ≡ Some (take m is)
items_take names zero fs is h = none_named names
items_take names (suc m) [] [] h = none_named names
items_take names (suc m) [] (i ∷ is) h = absurd (no_flats names i is h)
items_take names (suc m) (f ∷ fs) [] h = absurd (no_items names f fs h)
items_take names (suc m) (f ∷ fs) (i ∷ is) h = both_before names f (take m fs) i (take m is) (items_first names f fs i is h) (items_take names m fs is (items_later names f fs i is h))

pub items_drop : (names : Names) (m : ℕ) (fs : List Flat) (is : List Item) → items_for names fs ≡ Some is → items_for names (drop m fs) ≡ Some (drop m is)
items_drop names zero fs is h = h
items_drop names (suc m) [] [] h = h
items_drop names (suc m) [] (i ∷ is) h = absurd (no_flats names i is h)
items_drop names (suc m) (f ∷ fs) [] h = absurd (no_items names f fs h)
items_drop names (suc m) (f ∷ fs) (i ∷ is) h = items_drop names m fs is (items_later names f fs i is h)

pub items_length : (names : Names) (fs : List Flat) (is : List Item) → items_for names fs ≡ Some is → length fs ≡ length is
items_length names [] [] h = refl
items_length names [] (i ∷ is) h = absurd (no_flats names i is h)
items_length names (f ∷ fs) [] h = absurd (no_items names f fs h)
items_length names (f ∷ fs) (i ∷ is) h = ap suc (items_length names fs is (items_later names f fs i is h))

-- an item that may be there is that of a flat one
abbrev pub IsNamed : Names → Option Flat → Option Item → Type 0
IsNamed names (Some f) (Some i) = item_for names f ≡ Some i
IsNamed names None None = Unit {0}
IsNamed names x y = ⊥

pub items_at : (names : Names) (k : ℕ) (fs : List Flat) (is : List Item) → items_for names fs ≡ Some is → IsNamed names (slice_get fs k) (slice_get is k)
items_at names k [] [] h = tt
items_at names k [] (i ∷ is) h = absurd (no_flats names i is h)
items_at names k (f ∷ fs) [] h = absurd (no_items names f fs h)
items_at names zero (f ∷ fs) (i ∷ is) h = items_first names f fs i is h
items_at names (suc k) (f ∷ fs) (i ∷ is) h = items_at names k fs is (items_later names f fs i is h)

-- ## Places

get_take : {A : Type 0} → (m k : ℕ) (xs : List A) (x : A) → slice_get (take m xs) k ≡ Some x → slice_get xs k ≡ Some x
get_take zero k xs x h = absurd (cc)
get_take (suc m) k [] x h = absurd (cc)
get_take (suc m) zero (y ∷ xs) x h = h
get_take (suc m) (suc k) (y ∷ xs) x h = get_take m k xs x h

pub tells_take : (names : Names) (m : ℕ) (fs : List Flat) → TellsPlaces names fs → TellsPlaces names (take m fs)
tells_take names m fs t = record {
  tells = λ j k variable first target operand amount one other. t.tells j k variable first target operand amount (get_take m j fs _ one) (get_take m k fs _ other);
}

pub tells_later : (names : Names) (f : Flat) (fs : List Flat) → TellsPlaces names (f ∷ fs) → TellsPlaces names fs
tells_later names f fs t = record { tells = λ j k variable first target operand amount one other. t.tells (suc j) (suc k) variable first target operand amount one other }

pub tells_drop : (names : Names) (m : ℕ) (fs : List Flat) → TellsPlaces names fs → TellsPlaces names (drop m fs)
tells_drop names zero fs t = t
tells_drop names (suc m) [] t = t
tells_drop names (suc m) (f ∷ fs) t = tells_drop names m fs (tells_later names f fs t)

-- ## Which flat item an item is of

pub record IsSetFrom (names : Names) (f : Flat) (a b : CExpr) : Type 0 where
  pub place : Term
  pub value : Term
  pub is : f ≡ Assign place value
  pub place_is : expr_for names place ≡ Some a
  pub value_is : expr_for names value ≡ Some b

set_parts : (i j : Item) (a b c d : CExpr) → i ≡ item.Assign a b → i ≡ item.Assign c d → (a ≡ c) × (b ≡ d)
set_parts i j a b c d one other = let both : item.Assign a b ≡ item.Assign c d = sym one ∙ other in let left : a ≡ c = cc in let right : b ≡ d = cc in (left, right)

pub set_from : (names : Names) (f : Flat) (a b : CExpr) → item_for names f ≡ Some (item.Assign a b) → IsSetFrom names f a b
unfolding item_for
set_from names (Assign t u) a b h =
    let m = assigned (expr_for names t) (expr_for names u) (item.Assign a b) h in
    let same = set_parts (item.Assign a b) (item.Assign a b) m.place m.value a b (sym m.is) refl in
    record { place = t; value = u; is = refl; place_is = m.place_is ∙ ap Some same.0; value_is = m.value_is ∙ ap Some same.1 }
set_from names (Branch test on off) a b h =
    let m = mapped_by (λ e. item.Branch e on off) (expr_for names test) (item.Assign a b) h in
    let is : item.Branch m.one on off ≡ item.Assign a b = m.is in absurd (cc)
set_from names (Select value cases otherwise) a b h =
    let m = mapped_by (λ e'. item.Select e' (map case_of cases) otherwise) (expr_for names value) (item.Assign a b) h in
    let is : item.Select m.one (map case_of cases) otherwise ≡ item.Assign a b = m.is in absurd (cc)
set_from names (Jump position) a b h = absurd (cc)
set_from names (Invoke Ignored (Direct k) arguments) a b h =
    let m = called (by_name (names.routine k)) (exprs_for names arguments) (item.Assign a b) h in
    let is : item.Call (by_name (names.routine k)) m.one ≡ item.Assign a b = m.is in absurd (cc)
set_from names (Invoke (Kept t) (Direct k) arguments) a b h =
    let m = set_call (expr_for names t) (by_name (names.routine k)) (exprs_for names arguments) (item.Assign a b) h in
    let is : item.SetCall m.place (by_name (names.routine k)) m.arguments ≡ item.Assign a b = m.is in absurd (cc)
set_from names (Invoke Ignored (Through (Variable k ToFunction)) arguments) a b h =
    let m = called (through (names.object k)) (exprs_for names arguments) (item.Assign a b) h in
    let is : item.Call (through (names.object k)) m.one ≡ item.Assign a b = m.is in absurd (cc)
set_from names (Invoke (Kept t) (Through (Variable k ToFunction)) arguments) a b h =
    let m = set_call (expr_for names t) (through (names.object k)) (exprs_for names arguments) (item.Assign a b) h in
    let is : item.SetCall m.place (through (names.object k)) m.arguments ≡ item.Assign a b = m.is in absurd (cc)
set_from names (Return None) a b h = absurd (cc)
set_from names (Return (Some t)) a b h =
    let m = mapped_by (λ e. item.Return (Some e)) (expr_for names t) (item.Assign a b) h in
    let is : item.Return (Some m.one) ≡ item.Assign a b = m.is in absurd (cc)
set_from names Nothing a b h = absurd (cc)
set_from names other a b h = absurd (cc)

pub record IsTestFrom (names : Names) (f : Flat) (e : CExpr) (on off : ℕ) : Type 0 where
  pub test : Term
  pub is : f ≡ Branch test on off
  pub test_is : expr_for names test ≡ Some e

pub test_from : (names : Names) (f : Flat) (e : CExpr) (on off : ℕ) → item_for names f ≡ Some (item.Branch e on off) → IsTestFrom names f e on off
unfolding item_for
test_from names (Branch t a b) e on off h =
    let m = mapped_by (λ d. item.Branch d a b) (expr_for names t) (item.Branch e on off) h in
    let is : item.Branch m.one a b ≡ item.Branch e on off = m.is in
    let one : m.one ≡ e = cc in
    let two : a ≡ on = cc in
    let three : b ≡ off = cc in
    record { test = t; is = (λ k. Branch t (two k) (three k)); test_is = m.one_is ∙ ap Some one }
test_from names (Assign t u) e on off h =
    let m = assigned (expr_for names t) (expr_for names u) (item.Branch e on off) h in
    let is : item.Assign m.place m.value ≡ item.Branch e on off = m.is in absurd (cc)
test_from names (Select value cases otherwise) e on off h =
    let m = mapped_by (λ e'. item.Select e' (map case_of cases) otherwise) (expr_for names value) (item.Branch e on off) h in
    let is : item.Select m.one (map case_of cases) otherwise ≡ item.Branch e on off = m.is in absurd (cc)
test_from names (Jump position) e on off h = absurd (cc)
test_from names (Invoke Ignored (Direct k) arguments) e on off h =
    let m = called (by_name (names.routine k)) (exprs_for names arguments) (item.Branch e on off) h in
    let is : item.Call (by_name (names.routine k)) m.one ≡ item.Branch e on off = m.is in absurd (cc)
test_from names (Invoke (Kept t) (Direct k) arguments) e on off h =
    let m = set_call (expr_for names t) (by_name (names.routine k)) (exprs_for names arguments) (item.Branch e on off) h in
    let is : item.SetCall m.place (by_name (names.routine k)) m.arguments ≡ item.Branch e on off = m.is in absurd (cc)
test_from names (Invoke Ignored (Through (Variable k ToFunction)) arguments) e on off h =
    let m = called (through (names.object k)) (exprs_for names arguments) (item.Branch e on off) h in
    let is : item.Call (through (names.object k)) m.one ≡ item.Branch e on off = m.is in absurd (cc)
test_from names (Invoke (Kept t) (Through (Variable k ToFunction)) arguments) e on off h =
    let m = set_call (expr_for names t) (through (names.object k)) (exprs_for names arguments) (item.Branch e on off) h in
    let is : item.SetCall m.place (through (names.object k)) m.arguments ≡ item.Branch e on off = m.is in absurd (cc)
test_from names (Return None) e on off h = absurd (cc)
test_from names (Return (Some t)) e on off h =
    let m = mapped_by (λ d. item.Return (Some d)) (expr_for names t) (item.Branch e on off) h in
    let is : item.Return (Some m.one) ≡ item.Branch e on off = m.is in absurd (cc)
test_from names Nothing e on off h = absurd (cc)
test_from names other e on off h = absurd (cc)

pub record IsSwitchFrom (names : Names) (f : Flat) (e : CExpr) (cases : List Case) (otherwise : ℕ) : Type 0 where
  pub value : Term
  pub ats : List CaseAt
  pub is : f ≡ Select value ats otherwise
  pub value_is : expr_for names value ≡ Some e
  pub cases_are : map case_of ats ≡ cases

pub switch_from : (names : Names) (f : Flat) (e : CExpr) (cases : List Case) (otherwise : ℕ) → item_for names f ≡ Some (item.Select e cases otherwise) → IsSwitchFrom names f e cases otherwise
unfolding item_for
switch_from names (Select t ats last) e cases otherwise h =
    let m = mapped_by (λ d. item.Select d (map case_of ats) last) (expr_for names t) (item.Select e cases otherwise) h in
    let is : item.Select m.one (map case_of ats) last ≡ item.Select e cases otherwise = m.is in
    let one : m.one ≡ e = cc in
    let two : map case_of ats ≡ cases = cc in
    let three : last ≡ otherwise = cc in
    record { value = t; ats = ats; is = ap (Select t ats) three; value_is = m.one_is ∙ ap Some one; cases_are = two }
switch_from names (Assign t u) e cases otherwise h =
    let m = assigned (expr_for names t) (expr_for names u) (item.Select e cases otherwise) h in
    let is : item.Assign m.place m.value ≡ item.Select e cases otherwise = m.is in absurd (cc)
switch_from names (Branch t a b) e cases otherwise h =
    let m = mapped_by (λ d. item.Branch d a b) (expr_for names t) (item.Select e cases otherwise) h in
    let is : item.Branch m.one a b ≡ item.Select e cases otherwise = m.is in absurd (cc)
switch_from names (Jump position) e cases otherwise h = absurd (cc)
switch_from names (Invoke Ignored (Direct k) arguments) e cases otherwise h =
    let m = called (by_name (names.routine k)) (exprs_for names arguments) (item.Select e cases otherwise) h in
    let is : item.Call (by_name (names.routine k)) m.one ≡ item.Select e cases otherwise = m.is in absurd (cc)
switch_from names (Invoke (Kept t) (Direct k) arguments) e cases otherwise h =
    let m = set_call (expr_for names t) (by_name (names.routine k)) (exprs_for names arguments) (item.Select e cases otherwise) h in
    let is : item.SetCall m.place (by_name (names.routine k)) m.arguments ≡ item.Select e cases otherwise = m.is in absurd (cc)
switch_from names (Invoke Ignored (Through (Variable k ToFunction)) arguments) e cases otherwise h =
    let m = called (through (names.object k)) (exprs_for names arguments) (item.Select e cases otherwise) h in
    let is : item.Call (through (names.object k)) m.one ≡ item.Select e cases otherwise = m.is in absurd (cc)
switch_from names (Invoke (Kept t) (Through (Variable k ToFunction)) arguments) e cases otherwise h =
    let m = set_call (expr_for names t) (through (names.object k)) (exprs_for names arguments) (item.Select e cases otherwise) h in
    let is : item.SetCall m.place (through (names.object k)) m.arguments ≡ item.Select e cases otherwise = m.is in absurd (cc)
switch_from names (Return None) e cases otherwise h = absurd (cc)
switch_from names (Return (Some t)) e cases otherwise h =
    let m = mapped_by (λ d. item.Return (Some d)) (expr_for names t) (item.Select e cases otherwise) h in
    let is : item.Return (Some m.one) ≡ item.Select e cases otherwise = m.is in absurd (cc)
switch_from names Nothing e cases otherwise h = absurd (cc)
switch_from names other e cases otherwise h = absurd (cc)

pub jump_from : (names : Names) (f : Flat) (p : ℕ) → item_for names f ≡ Some (item.Jump p) → f ≡ Jump p
unfolding item_for
jump_from names (Jump position) p h = let same : position ≡ p = cc in ap Jump same
jump_from names (Assign t u) p h =
    let m = assigned (expr_for names t) (expr_for names u) (item.Jump p) h in
    let is : item.Assign m.place m.value ≡ item.Jump p = m.is in absurd (cc)
jump_from names (Branch t a b) p h =
    let m = mapped_by (λ d. item.Branch d a b) (expr_for names t) (item.Jump p) h in
    let is : item.Branch m.one a b ≡ item.Jump p = m.is in absurd (cc)
jump_from names (Select value cases otherwise) p h =
    let m = mapped_by (λ e'. item.Select e' (map case_of cases) otherwise) (expr_for names value) (item.Jump p) h in
    let is : item.Select m.one (map case_of cases) otherwise ≡ item.Jump p = m.is in absurd (cc)
jump_from names (Invoke Ignored (Direct k) arguments) p h =
    let m = called (by_name (names.routine k)) (exprs_for names arguments) (item.Jump p) h in
    let is : item.Call (by_name (names.routine k)) m.one ≡ item.Jump p = m.is in absurd (cc)
jump_from names (Invoke (Kept t) (Direct k) arguments) p h =
    let m = set_call (expr_for names t) (by_name (names.routine k)) (exprs_for names arguments) (item.Jump p) h in
    let is : item.SetCall m.place (by_name (names.routine k)) m.arguments ≡ item.Jump p = m.is in absurd (cc)
jump_from names (Invoke Ignored (Through (Variable k ToFunction)) arguments) p h =
    let m = called (through (names.object k)) (exprs_for names arguments) (item.Jump p) h in
    let is : item.Call (through (names.object k)) m.one ≡ item.Jump p = m.is in absurd (cc)
jump_from names (Invoke (Kept t) (Through (Variable k ToFunction)) arguments) p h =
    let m = set_call (expr_for names t) (through (names.object k)) (exprs_for names arguments) (item.Jump p) h in
    let is : item.SetCall m.place (through (names.object k)) m.arguments ≡ item.Jump p = m.is in absurd (cc)
jump_from names (Return None) p h = absurd (cc)
jump_from names (Return (Some t)) p h =
    let m = mapped_by (λ d. item.Return (Some d)) (expr_for names t) (item.Jump p) h in
    let is : item.Return (Some m.one) ≡ item.Jump p = m.is in absurd (cc)
jump_from names Nothing p h = absurd (cc)
jump_from names other p h = absurd (cc)

-- ## Jumps

pub ends_alike : (names : Names) (x : Option Flat) (y : Option Item) (p : ℕ) → IsNamed names x y → named.end_of_arm y ≡ Some p → flat.end_of_arm x ≡ Some p
unfolding named.end_of_arm flat.end_of_arm
ends_alike names (Some f) (Some (item.Jump q)) p is h = ap flat.end_of_arm (ap Some (jump_from names f q is)) ∙ h
ends_alike names None (Some (item.Jump q)) p is h = absurd is
ends_alike names x y p is h = absurd (cc)

pub back_alike : (names : Names) (n m : ℕ) (x : Option Flat) (y : Option Item) → n ≡ m → IsNamed names x y → named.goes_back n y ≡ true → flat.goes_back m x ≡ true
unfolding named.goes_back flat.goes_back
back_alike names n m (Some f) (Some (item.Jump q)) same is h = ap (flat.goes_back m) (ap Some (jump_from names f q is)) ∙ ap (nat_eq q) (sym same) ∙ h
back_alike names n m None (Some (item.Jump q)) same is h = absurd is
back_alike names n m x y same is h = absurd (cc)

-- ## Tests behind a turn

no_test : (o : Outline) (n size : ℕ) (f : Flat) (i : Item) → item_for o.names f ≡ Some i → ((e : CExpr) (on off : ℕ) → i ≡ item.Branch e on off → ⊥) → flat.tests_turn o n size (Some f) ≡ false
unfolding item_for flat.tests_turn
no_test o n size (Branch t on off) i is other = let m = mapped_by (λ e. item.Branch e on off) (expr_for o.names t) i is in absurd (other m.one on off (sym m.is))
no_test o n size f i is other = refl

tests_alike : (o : Outline) (n size on off : ℕ) (t : Term) (e : CExpr) → flat.tests_turn o n size (Some (Branch t on off)) ≡ named.tests_turn (places_of o) n size (Some (item.Branch e on off))
unfolding flat.tests_turn named.tests_turn
tests_alike o n size on off t e =
    let first : suc n ≡ n + 1 = omega arith in
    let last : suc (suc n + size) ≡ n + size + 2 = omega arith in
    let own : suc n + size ≡ n + size + 1 = omega arith in
    (λ k. nat_eq on (first k) && (nat_eq off (last k) && is_none (o.label (own k))))

pub turn_alike : (o : Outline) (n size : ℕ) (x : Option Flat) (y : Option Item) → IsNamed o.names x y → flat.tests_turn o n size x ≡ named.tests_turn (places_of o) n size y
unfolding flat.tests_turn named.tests_turn
turn_alike o n size (Some f) (Some (item.Branch e on off)) is =
    let t = test_from o.names f e on off is in ap (flat.tests_turn o n size) (ap Some t.is) ∙ tests_alike o n size on off t.test e
turn_alike o n size (Some f) (Some (item.Assign a b)) is = no_test o n size f (item.Assign a b) is (λ e on off g. cc)
turn_alike o n size (Some f) (Some (item.Select e cases otherwise)) is = no_test o n size f (item.Select e cases otherwise) is (λ e' on off g. cc)
turn_alike o n size (Some f) (Some (item.Jump position)) is = no_test o n size f (item.Jump position) is (λ e on off g. cc)
turn_alike o n size (Some f) (Some (item.Call callee arguments)) is = no_test o n size f (item.Call callee arguments) is (λ e on off g. cc)
turn_alike o n size (Some f) (Some (item.SetCall target callee arguments)) is = no_test o n size f (item.SetCall target callee arguments) is (λ e on off g. cc)
turn_alike o n size (Some f) (Some (item.Return value)) is = no_test o n size f (item.Return value) is (λ e on off g. cc)
turn_alike o n size (Some f) (Some item.Nothing) is = no_test o n size f item.Nothing is (λ e on off g. cc)
turn_alike o n size None None is = refl
turn_alike o n size (Some f) None is = absurd is
turn_alike o n size None (Some i) is = absurd is

pub test_alike : (names : Names) (x : Option Flat) (y : Option Item) (c : CExpr) → IsNamed names x y → named.test_in y ≡ Some c → flat.test_in names x ≡ Some c
unfolding flat.test_in named.test_in
test_alike names (Some f) (Some (item.Branch e on off)) c is h = let t = test_from names f e on off is in ap (flat.test_in names) (ap Some t.is) ∙ t.test_is ∙ h
test_alike names None (Some (item.Branch e on off)) c is h = absurd is
test_alike names x y c is h = absurd (cc)
