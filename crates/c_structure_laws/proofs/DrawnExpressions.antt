-- The expressions that are built are linked to what they are built for.
use Rattle.std.specs.Prelude.{◌≡◌, ℕ, ◌+◌, ℤ, pos, negsuc, nat_le, Bool, true, false, List, [], ◌∷◌, ◌++◌, length, Option, Some, None, option_map, if◌then◌else◌}
use Rattle.std.proofs.Common.{refl, sym, ap, ◌∙◌, subst, arith}
use Rattle.std.proofs.lemmas.List.{map-append, length-map, append_assoc}
use Rattle.c_laws.specs.c_tree.declared.expression.CExpr.{CExpr}
use Rattle.c_laws.specs.c_tree.declared.expression.CExpr.TheVariants as expr
use Rattle.c_laws.specs.c_tree.Terms.{Term, Constant, Variable, Array, Routine, Unknown, Prefixed, Cast, Between, Choice, Element, Field, Size, Most, Magnitude}
use Rattle.c_laws.specs.c_tree.Drafts.{Scope, Draft, bare, drafted, joined, joined_three}
use Rattle.c_laws.specs.c_tree.LinkedExpressions.{linked, name_of, linked_all}
use Rattle.c_laws.proofs.TreeEquations.{linked-Unary, linked-Cast, linked-Binary, linked-Choose, linked-Index, linked-Field, linked-SizeInt, linked-MaxMin, linked-Abs}
use Rattle.c_structure.specs.Expressions.{Names, with_two, with_three, number_expr, array_expr, expr_for, one_more, exprs_for, string_at, strings_in, strings_in_all}
use Rattle.c_laws.specs.c_tree.Access.{Access}
use Rattle.c_structure_laws.specs.Fitting.{KnowsArray, KnowsAll, AreNumbered, AreBytesOf, IsDrawn, ExpressionsAreTheirs}

-- ## Parts

pub bytes_both : (names : Names) (xs ys : List (List ℕ)) (ks js : List ℕ) → AreBytesOf names xs ks → AreBytesOf names ys js → AreBytesOf names (xs ++ ys) (ks ++ js)
bytes_both names xs ys ks js one other = map-append Some xs ys ∙ (λ i. one i ++ other i) ∙ sym (map-append names.string ks js)

pub bytes_count : (names : Names) (xs : List (List ℕ)) (ks : List ℕ) → AreBytesOf names xs ks → length xs ≡ length ks
bytes_count names xs ks same = sym (length-map xs Some) ∙ ap length same ∙ length-map ks names.string

pub numbered_left : (first : ℕ) (ks js : List ℕ) → AreNumbered first (ks ++ js) → AreNumbered first ks
numbered_left first [] js are = tt
numbered_left first (k ∷ ks) js are = (are.0, numbered_left (first + 1) ks js are.1)

pub numbered_right : (first n : ℕ) (ks js : List ℕ) → n ≡ first + length ks → AreNumbered first (ks ++ js) → AreNumbered n js
numbered_right first n [] js at are = let same : first ≡ n = omega (arith, at) in subst (λ m. AreNumbered m js) same are
numbered_right first n (k ∷ ks) js at are = numbered_right (first + 1) n ks js (omega (arith, at)) are.1

pub behind_both : (names : Names) (first : ℕ) (xs : List (List ℕ)) (ks js : List ℕ) → AreBytesOf names xs ks → AreNumbered first (ks ++ js) → AreNumbered (first + length xs) js
behind_both names first xs ks js same are = let count = bytes_count names xs ks same in numbered_right first (first + length xs) ks js (omega (arith, count)) are

pub drawn_bare : {A : Type 0} (names : Names) (scope : Scope) (thing : A) → IsDrawn names scope [] (bare thing) thing
drawn_bare names scope thing = record { strings = refl; drawn = λ first are. refl }

pub drawn_name : (names : Names) (scope : Scope) (name : List ℕ) (term : Term) → scope name ≡ term → IsDrawn names scope [] (name_of name) term
drawn_name names scope name term known = record { strings = refl; drawn = λ first are. known }

pub drawn_by : {A B : Type 0} (names : Names) (scope : Scope) (ks : List ℕ) (make : A → B) (draft : Draft A) (thing : A) → IsDrawn names scope ks draft thing → IsDrawn names scope ks (drafted make draft) (make thing)
drawn_by names scope ks make draft thing is = record { strings = is.strings; drawn = λ first are. ap make (is.drawn first are) }

pub drawn_both : {A B C : Type 0} (names : Names) (scope : Scope) (ks js : List ℕ) (make : A → B → C) (left : Draft A) (right : Draft B) (a : A) (b : B) → IsDrawn names scope ks left a → IsDrawn names scope js right b →
    IsDrawn names scope (ks ++ js) (joined make left right) (make a b)
drawn_both names scope ks js make left right a b one other = record {
  strings = bytes_both names left.strings right.strings ks js one.strings other.strings;
  drawn = λ first are. λ i. make (one.drawn first (numbered_left first ks js are) i) (other.drawn (first + length left.strings) (behind_both names first left.strings ks js one.strings are) i);
}

pub some_same : {A : Type 0} (a b : A) → Some a ≡ Some b → a ≡ b
some_same a b h = cc

-- ## What is built

pub record IsMapped {A B : Type 0} (form : A → B) (x : Option A) (b : B) : Type 0 where
  pub one : A
  pub one_is : x ≡ Some one
  pub is : form one ≡ b

pub mapped_by : {A B : Type 0} (form : A → B) (x : Option A) (b : B) → option_map form x ≡ Some b → IsMapped form x b
mapped_by form (Some a) b h = record { one = a; one_is = refl; is = cc }
mapped_by form None b h = absurd (cc)

record AreTwo (form : CExpr → CExpr → CExpr) (x y : Option CExpr) (e : CExpr) : Type 0 where
  a : CExpr
  b : CExpr
  a_is : x ≡ Some a
  b_is : y ≡ Some b
  is : form a b ≡ e

two_by : (form : CExpr → CExpr → CExpr) (x y : Option CExpr) (e : CExpr) → with_two form x y ≡ Some e → AreTwo form x y e
unfolding with_two
two_by form (Some a) (Some b) e h = record { a = a; b = b; a_is = refl; b_is = refl; is = cc }
two_by form (Some a) None e h = absurd (cc)
two_by form None y e h = absurd (cc)

record AreThree (form : CExpr → CExpr → CExpr → CExpr) (x y z : Option CExpr) (e : CExpr) : Type 0 where
  a : CExpr
  b : CExpr
  c : CExpr
  a_is : x ≡ Some a
  b_is : y ≡ Some b
  c_is : z ≡ Some c
  is : form a b c ≡ e

three_by : (form : CExpr → CExpr → CExpr → CExpr) (x y z : Option CExpr) (e : CExpr) → with_three form x y z ≡ Some e → AreThree form x y z e
unfolding with_three
three_by form (Some a) (Some b) (Some c) e h = record { a = a; b = b; c = c; a_is = refl; b_is = refl; c_is = refl; is = cc }
three_by form (Some a) (Some b) None e h = absurd (cc)
three_by form (Some a) None z e h = absurd (cc)
three_by form None y z e h = absurd (cc)

-- ## Each form

number_drawn : (names : Names) (scope : Scope) (z : ℤ) (e : CExpr) → number_expr z ≡ Some e → IsDrawn names scope [] (linked e) (Constant z)
unfolding number_expr
number_drawn names scope (pos n) e h = by (nat_le n 2147483647) h
  where
    by : (b : Bool) → (if b then Some (expr.Number (pos n)) else None) ≡ Some e → IsDrawn names scope [] (linked e) (Constant (pos n))
    by true g = subst (λ x. IsDrawn names scope [] (linked x) (Constant (pos n))) (some_same (expr.Number (pos n)) e g) (drawn_bare names scope (Constant (pos n)))
    by false g = absurd (cc)
number_drawn names scope (negsuc n) e h = absurd (cc)

array_drawn : (names : Names) (scope : Scope) (found : Option (List ℕ)) (k : ℕ) (access : Access) → names.string k ≡ found → KnowsArray scope (names.object k) found k access →
    IsDrawn names scope (string_at found k) (linked (array_expr found (names.object k))) (Array k access)
unfolding array_expr string_at
array_drawn names scope None k access found known = drawn_name names scope (names.object k) (Array k access) known
array_drawn names scope (Some bytes) k access found known = record {
  strings = ap (λ b. b ∷ []) (sym found);
  drawn = λ first are. (λ i. Array (sym are.0 i) (sym known i));
}

pub expr_drawn : ExpressionsAreTheirs
unfolding expr_for strings_in
expr_drawn scope names (Constant z) e h knows = number_drawn names scope z e h
expr_drawn scope names (Variable k access) e h knows =
    subst (λ x. IsDrawn names scope [] (linked x) (Variable k access)) (some_same (expr.Name (names.object k)) e h) (drawn_name names scope (names.object k) (Variable k access) knows)
expr_drawn scope names (Array k access) e h knows =
    subst (λ x. IsDrawn names scope (string_at (names.string k) k) (linked x) (Array k access)) (some_same (array_expr (names.string k) (names.object k)) e h) (array_drawn names scope (names.string k) k access refl knows)
expr_drawn scope names (Routine k) e h knows =
    subst (λ x. IsDrawn names scope [] (linked x) (Routine k)) (some_same (expr.Name (names.routine k)) e h) (drawn_name names scope (names.routine k) (Routine k) knows)
expr_drawn scope names Unknown e h knows = absurd (cc)
expr_drawn scope names (Prefixed op t) e h knows =
    let m = mapped_by (expr.Unary op) (expr_for names t) e h in
    let ks = strings_in names t in
    subst (λ x. IsDrawn names scope ks (linked x) (Prefixed op t)) m.is
    (subst (λ d. IsDrawn names scope ks d (Prefixed op t)) (sym (linked-Unary op m.one)) (drawn_by names scope ks (Prefixed op) (linked m.one) t (expr_drawn scope names t m.one m.one_is knows)))
expr_drawn scope names (Cast type t) e h knows =
    let m = mapped_by (expr.Cast type) (expr_for names t) e h in
    let ks = strings_in names t in
    subst (λ x. IsDrawn names scope ks (linked x) (Cast type t)) m.is
    (subst (λ d. IsDrawn names scope ks d (Cast type t)) (sym (linked-Cast type m.one)) (drawn_by names scope ks (Cast type) (linked m.one) t (expr_drawn scope names t m.one m.one_is knows)))
expr_drawn scope names (Between op t u) e h knows =
    let m = two_by (expr.Binary op) (expr_for names t) (expr_for names u) e h in
    let ks = strings_in names t in
    let js = strings_in names u in
    subst (λ x. IsDrawn names scope (ks ++ js) (linked x) (Between op t u)) m.is
    (subst (λ d. IsDrawn names scope (ks ++ js) d (Between op t u)) (sym (linked-Binary op m.a m.b))
    (drawn_both names scope ks js (Between op) (linked m.a) (linked m.b) t u (expr_drawn scope names t m.a m.a_is knows.0) (expr_drawn scope names u m.b m.b_is knows.1)))
expr_drawn scope names (Choice t u v) e h knows =
    let m = three_by expr.Choose (expr_for names t) (expr_for names u) (expr_for names v) e h in
    let ks = strings_in names t in
    let js = strings_in names u in
    let is = strings_in names v in
    subst (λ x. IsDrawn names scope (ks ++ (js ++ is)) (linked x) (Choice t u v)) m.is
    (subst (λ d. IsDrawn names scope (ks ++ (js ++ is)) d (Choice t u v)) (sym (linked-Choose m.a m.b m.c))
    (subst (λ zs. IsDrawn names scope zs (joined_three (λ a b c. Choice a b c) (linked m.a) (linked m.b) (linked m.c)) (Choice t u v)) (append_assoc ks js is)
    (drawn_both {A = Term → Term} {B = Term} {C = Term} names scope (ks ++ js) is (λ make last. make last) (joined (λ a b c. Choice a b c) (linked m.a) (linked m.b)) (linked m.c) (λ c. Choice t u c) v
    (drawn_both {A = Term} {B = Term} {C = Term → Term} names scope ks js (λ a b c. Choice a b c) (linked m.a) (linked m.b) t u (expr_drawn scope names t m.a m.a_is knows.0) (expr_drawn scope names u m.b m.b_is knows.1))
    (expr_drawn scope names v m.c m.c_is knows.2))))
expr_drawn scope names (Element t u) e h knows =
    let m = two_by expr.Index (expr_for names t) (expr_for names u) e h in
    let ks = strings_in names t in
    let js = strings_in names u in
    subst (λ x. IsDrawn names scope (ks ++ js) (linked x) (Element t u)) m.is
    (subst (λ d. IsDrawn names scope (ks ++ js) d (Element t u)) (sym (linked-Index m.a m.b))
    (drawn_both names scope ks js Element (linked m.a) (linked m.b) t u (expr_drawn scope names t m.a m.a_is knows.0) (expr_drawn scope names u m.b m.b_is knows.1)))
expr_drawn scope names (Field t name) e h knows =
    let m = mapped_by (λ x. expr.Field x name) (expr_for names t) e h in
    let ks = strings_in names t in
    subst (λ x. IsDrawn names scope ks (linked x) (Field t name)) m.is
    (subst (λ d. IsDrawn names scope ks d (Field t name)) (sym (linked-Field m.one name)) (drawn_by names scope ks (λ x. Field x name) (linked m.one) t (expr_drawn scope names t m.one m.one_is knows)))
expr_drawn scope names Size e h knows = subst (λ x. IsDrawn names scope [] (linked x) Size) (some_same expr.SizeInt e h) (subst (λ d. IsDrawn names scope [] d Size) (sym linked-SizeInt) (drawn_bare names scope Size))
expr_drawn scope names (Most which t u) e h knows =
    let m = two_by (expr.MaxMin which) (expr_for names t) (expr_for names u) e h in
    let ks = strings_in names t in
    let js = strings_in names u in
    subst (λ x. IsDrawn names scope (ks ++ js) (linked x) (Most which t u)) m.is
    (subst (λ d. IsDrawn names scope (ks ++ js) d (Most which t u)) (sym (linked-MaxMin which m.a m.b))
    (drawn_both names scope ks js (Most which) (linked m.a) (linked m.b) t u (expr_drawn scope names t m.a m.a_is knows.0) (expr_drawn scope names u m.b m.b_is knows.1)))
expr_drawn scope names (Magnitude t) e h knows =
    let m = mapped_by expr.Abs (expr_for names t) e h in
    let ks = strings_in names t in
    subst (λ x. IsDrawn names scope ks (linked x) (Magnitude t)) m.is
    (subst (λ d. IsDrawn names scope ks d (Magnitude t)) (sym (linked-Abs m.one)) (drawn_by names scope ks Magnitude (linked m.one) t (expr_drawn scope names t m.one m.one_is knows)))

record AreMore (x : Option CExpr) (xs : Option (List CExpr)) (es : List CExpr) : Type 0 where
  first : CExpr
  later : List CExpr
  first_is : x ≡ Some first
  later_is : xs ≡ Some later
  is : first ∷ later ≡ es

more_by : (x : Option CExpr) (xs : Option (List CExpr)) (es : List CExpr) → one_more x xs ≡ Some es → AreMore x xs es
unfolding one_more
more_by (Some e) (Some later) es h = record { first = e; later = later; first_is = refl; later_is = refl; is = cc }
more_by (Some e) None es h = absurd (cc)
more_by None xs es h = absurd (cc)

pub exprs_drawn : (scope : Scope) (names : Names) (ts : List Term) (es : List CExpr) → exprs_for names ts ≡ Some es → KnowsAll scope names ts → IsDrawn names scope (strings_in_all names ts) (linked_all es) ts
unfolding exprs_for strings_in_all
exprs_drawn scope names [] es h knows = subst (λ xs. IsDrawn names scope [] (linked_all xs) []) (some_same [] es h) (drawn_bare names scope [])
exprs_drawn scope names (t ∷ ts) es h knows =
    let m = more_by (expr_for names t) (exprs_for names ts) es h in
    let ks = strings_in names t in
    let js = strings_in_all names ts in
    subst (λ xs. IsDrawn names scope (ks ++ js) (linked_all xs) (t ∷ ts)) m.is
    (drawn_both names scope ks js (λ a b. a ∷ b) (linked m.first) (linked_all m.later) t ts (expr_drawn scope names t m.first m.first_is knows.0) (exprs_drawn scope names ts m.later m.later_is knows.1))
