-- The intrinsic functions among the names of a unit. A name that is one is used somewhere, so it is a name of the unit.
use Rattle.std.proofs.Common.{◌≡◌, ℕ, ◌+◌, ◌<◌, ◌≤◌, Bool, true, false, ◌||◌, ◌&&◌, not, List, [], ◌∷◌, ◌++◌, map, take, get_or, length, bytes_eq, Result, Ok, Err, OnOk, IfOk, if◌then◌else◌, refl, ap, sym, subst, ◌∙◌, true≢false}
use Rattle.std.specs.Borrow.{Bor}
use Rattle.std.proofs.lemmas.List.{take_all, map-append}
use Rattle.std.proofs.lemmas.Slice.Eq.{bytes_eq-Decides}
use Rattle.f_tree.specs.declared.names.Class.{Class}
use Rattle.f_tree.specs.declared.names.Class.TheVariants as class
use Rattle.f_tree.specs.declared.statements.Body.{Body, IfOne', more_of-Body}
use Rattle.f_tree.specs.declared.statements.Body as whole
use Rattle.f_tree.specs.declared.statements.Stmt.{Stmt}
use Rattle.f_tree.specs.declared.statements.UnitKind.{UnitKind}
use Rattle.f_tree.specs.declared.statements.UnitKind.TheVariants as kind
use Rattle.f_tree.specs.declared.units.Unit.{Unit as WrittenUnit}
use Rattle.f_tree.specs.Folds.{layer_of}
use Rattle.f_tree.specs.Values.{Bytes}
use Rattle.f_tree.specs.Uses.{Use, Manner, Declared, used, all_of, is_among, uses_of_body, uses_of_statements, seen_from, first_seen}
use Rattle.f_tree.specs.Attributes.{from_all, intrinsic_in, option_list, named_dummies, arrays_of, is_used_as, with_list, own_class, class_by, class_of, signs_of, names_of}
use Rattle.name_facts.specs.declaration_rows.NameRows.{all_names}
use Rattle.name_table.specs.declared.name_set.NameSet.{NameSet}
use Rattle.name_table.specs.Named.{IsNameSet, names_in, texts}
use Rattle.name_table.proofs.Texts.{bytes_eq_flip}
use Rattle.name_table.proofs.SetLemmas.{among_both, among_none}
use Rattle.name_classes.specs.KnownSigns.{unit_uses}
use Rattle.declared_types.proofs.name_uses.BodyForms.{uses-Intrinsic}
use Rattle.decl_table.specs.UnitFacts.{is_intrinsic, AddsFunction, AreFunctionsAmong, AreFunctions}
use Rattle.decl_table.proofs.BoundLemmas.{one-taken}

or_left : (a b : Bool) → a ≡ true → (a || b) ≡ true
or_left true b h = refl
or_left false b h = absurd (true≢false (sym h))

or_right : (a b : Bool) → b ≡ true → (a || b) ≡ true
or_right true b h = refl
or_right false b h = h

either : (P : Type 0) (a b : Bool) → (a || b) ≡ true → (a ≡ true → P) → (b ≡ true → P) → P
either P true b h one other = one refl
either P false b h one other = other h

both_left : (a b : Bool) → (a && b) ≡ true → a ≡ true
both_left true b h = refl
both_left false b h = h

-- NAMES AMONG USES
abbrev use_names : List Use → List Bytes
use_names us = map (λ (u : Use). u.name) us

among_step : (x y : Bytes) (ys : List Bytes) → is_among x (y ∷ ys) ≡ (bytes_eq x y || is_among x ys)
unfolding is_among
among_step x y ys = refl

among_head : (x y : Bytes) (ys : List Bytes) → bytes_eq x y ≡ true → is_among x (y ∷ ys) ≡ true
among_head x y ys h = among_step x y ys ∙ or_left (bytes_eq x y) (is_among x ys) h

among_later : (x y : Bytes) (ys : List Bytes) → is_among x ys ≡ true → is_among x (y ∷ ys) ≡ true
among_later x y ys h = among_step x y ys ∙ or_right (bytes_eq x y) (is_among x ys) h

among_front : (x : Bytes) (xs ys : List Bytes) → is_among x xs ≡ true → is_among x (xs ++ ys) ≡ true
among_front x xs ys h = among_both x xs ys ∙ or_left (is_among x xs) (is_among x ys) h

among_back : (x : Bytes) (xs ys : List Bytes) → is_among x ys ≡ true → is_among x (xs ++ ys) ≡ true
among_back x xs ys h = among_both x xs ys ∙ or_right (is_among x xs) (is_among x ys) h

used-among : (test : Manner → Bool) (x : Bytes) (us : List Use) → is_used_as test x us ≡ true → is_among x (use_names us) ≡ true
unfolding is_used_as
used-among test x [] h = absurd (true≢false (sym h))
used-among test x (u ∷ us) h =
    either (is_among x (u.name ∷ use_names us) ≡ true) (bytes_eq u.name x && test u.manner) (is_used_as test x us) h
    (λ here. among_head x u.name (use_names us) (bytes_eq_flip x u.name ∙ both_left (bytes_eq u.name x) (test u.manner) here))
    (λ later. among_later x u.name (use_names us) (used-among test x us later))

-- a name that stands in an INTRINSIC statement
declared-names : (xs : List Bytes) → use_names (all_of (λ x. used x Declared) xs) ≡ xs
unfolding all_of used
declared-names [] = refl
declared-names (x ∷ xs) = ap (λ ys. x ∷ ys) (declared-names xs)

body-among : (arrays : List Bytes) (b : Body) (x : Bytes) → is_among x (intrinsic_in b) ≡ true → is_among x (use_names (uses_of_body arrays b)) ≡ true
unfolding intrinsic_in layer_of is_among
body-among arrays (whole.Intrinsic xs) x h = ap (is_among x) (ap use_names (uses-Intrinsic arrays xs) ∙ declared-names xs) ∙ h
body-among arrays (IfOne' e s (more_of-Body b r)) x h = absurd (true≢false (sym h))
body-among arrays _ x h = absurd (true≢false (sym h))

statements_step : (arrays : List Bytes) (s : Stmt) (ss : List Stmt) → use_names (uses_of_statements arrays (s ∷ ss)) ≡ use_names (uses_of_body arrays s.body) ++ use_names (uses_of_statements arrays ss)
unfolding uses_of_statements all_of
statements_step arrays s ss = map-append (λ (u : Use). u.name) (uses_of_body arrays s.body) (uses_of_statements arrays ss)

statements-among : (arrays : List Bytes) (ss : List Stmt) (x : Bytes) → is_among x (from_all intrinsic_in ss) ≡ true → is_among x (use_names (uses_of_statements arrays ss)) ≡ true
unfolding from_all
statements-among arrays [] x h = absurd (true≢false (sym h ∙ among_none x))
statements-among arrays (s ∷ ss) x h =
    ap (is_among x) (statements_step arrays s ss)
    ∙ either (is_among x (use_names (uses_of_body arrays s.body) ++ use_names (uses_of_statements arrays ss)) ≡ true) (is_among x (intrinsic_in s.body)) (is_among x (from_all intrinsic_in ss))
    (sym (among_both x (intrinsic_in s.body) (from_all intrinsic_in ss)) ∙ h)
    (λ here. among_front x (use_names (uses_of_body arrays s.body)) (use_names (uses_of_statements arrays ss)) (body-among arrays s.body x here))
    (λ later. among_back x (use_names (uses_of_body arrays s.body)) (use_names (uses_of_statements arrays ss)) (statements-among arrays ss x later))

-- FIRST SEEN
seen_step : (seen : List Bytes) (u : Use) (us : List Use) → seen_from seen (u ∷ us) ≡ (if is_among u.name seen then seen_from seen us else u.name ∷ seen_from (u.name ∷ seen) us)
unfolding seen_from
seen_step seen u us = refl

-- a name that was seen, or is seen in what follows
seen-by : (seen : List Bytes) (u : Use) (us : List Use) (x : Bytes) (b c : Bool) → is_among u.name seen ≡ b → bytes_eq x u.name ≡ c → is_among x seen ≡ false
    → (c ≡ false → is_among x (seen_from seen us) ≡ true) → (c ≡ false → is_among x (seen_from (u.name ∷ seen) us) ≡ true)
    → is_among x (if b then seen_from seen us else u.name ∷ seen_from (u.name ∷ seen) us) ≡ true
seen-by seen u us x true true there same new rest more =
    absurd (true≢false (sym there ∙ ap (λ y. is_among y seen) (sym ((bytes_eq-Decides x u.name).0 same)) ∙ new))
seen-by seen u us x true false there same new rest more = rest refl
seen-by seen u us x false true there same new rest more = among_head x u.name (seen_from (u.name ∷ seen) us) same
seen-by seen u us x false false there same new rest more = among_later x u.name (seen_from (u.name ∷ seen) us) (more refl)

later-by : (a b : Bool) → (a || b) ≡ true → a ≡ false → b ≡ true
later-by true b h no_more = absurd (true≢false no_more)
later-by false b h no_more = h

seen-among : (us : List Use) (seen : List Bytes) (x : Bytes) → is_among x (use_names us) ≡ true → is_among x seen ≡ false → is_among x (seen_from seen us) ≡ true
seen-among [] seen x h new = absurd (true≢false (sym h ∙ among_none x))
seen-among (u ∷ us) seen x h new =
    ap (is_among x) (seen_step seen u us)
    ∙ seen-by seen u us x (is_among u.name seen) (bytes_eq x u.name) refl refl new
    (λ other. seen-among us seen x (later-by (bytes_eq x u.name) (is_among x (use_names us)) (sym (among_step x u.name (use_names us)) ∙ h) other) new)
    (λ other. seen-among us (u.name ∷ seen) x (later-by (bytes_eq x u.name) (is_among x (use_names us)) (sym (among_step x u.name (use_names us)) ∙ h) other)
    (among_step x u.name seen ∙ ap (λ b. b || is_among x seen) other ∙ new))

abbrev dummy_uses : WrittenUnit → List Use
dummy_uses u = map (λ y. record { name = y; manner = Declared }) (named_dummies u.dummies)

unit-among : (u : WrittenUnit) (x : Bytes) → is_among x (use_names (unit_uses u)) ≡ true → is_among x (all_names u) ≡ true
unfolding all_names names_of first_seen
unit-among u x h =
    among_back x (option_list u.name) (first_seen (dummy_uses u ++ unit_uses u))
    (seen-among (dummy_uses u ++ unit_uses u) [] x
    (ap (is_among x) (map-append (λ (v : Use). v.name) (dummy_uses u) (unit_uses u)) ∙ among_back x (use_names (dummy_uses u)) (use_names (unit_uses u)) h)
    (among_none x))

-- WHAT MAKES A NAME AN INTRINSIC FUNCTION
dummy-not : (b : Bool) → is_intrinsic (if b then class.DummyProcedure else class.Dummy) ≡ false
unfolding is_intrinsic
dummy-not true = refl
dummy-not false = refl

signs-by : (own : Class) (constant dummy named array external declared listed called assigned known : Bool) → is_intrinsic own ≡ false →
    is_intrinsic (class_by own (record {
      is_constant = constant;
      is_dummy = dummy;
      is_own_name = named;
      is_array = array;
      is_external = external;
      is_intrinsic = declared;
      has_list = listed;
      is_called = called;
      is_assigned_with_list = assigned;
      is_known_function = known;
    })) ≡ true → (declared || listed) ≡ true
unfolding class_by is_intrinsic
signs-by own true d n a e i l c s k plain h = absurd (true≢false (sym h))
signs-by own false true n a e i l c s k plain h = absurd (true≢false (sym h ∙ dummy-not (e || (c || (l && not a)))))
signs-by own false false true a e i l c s k plain h = absurd (true≢false (sym h ∙ plain))
signs-by own false false false true e i l c s k plain h = absurd (true≢false (sym h))
signs-by own false false false false true i l c s k plain h = absurd (true≢false (sym h))
signs-by own false false false false false i l true s k plain h = absurd (true≢false (sym h))
signs-by own false false false false false i l false true k plain h = absurd (true≢false (sym h))
signs-by own false false false false false true l false false k plain h = refl
signs-by own false false false false false false true false false k plain h = refl
signs-by own false false false false false false false false false k plain h = absurd (true≢false (sym h))

own-plain : (u : WrittenUnit) → is_intrinsic (own_class u) ≡ false
unfolding own_class is_intrinsic
own-plain u = by u.kind
  where
    by : (k : UnitKind) → is_intrinsic (elim k [ kind.Function spec ↦ class.Result | _ ↦ class.Unit ]) ≡ false
    by (kind.Function spec) = refl
    by _ = refl

intrinsic-among : (u : WrittenUnit) (x : Bytes) → is_intrinsic (class_of u (unit_uses u) x) ≡ true → is_among x (all_names u) ≡ true
unfolding class_of signs_of
intrinsic-among u x h =
    let g = signs_of u (unit_uses u) x in
    either (is_among x (all_names u) ≡ true) (is_among x (from_all intrinsic_in u.statements)) (is_used_as with_list x (unit_uses u))
    (signs-by (own_class u) g.is_constant g.is_dummy g.is_own_name g.is_array g.is_external g.is_intrinsic g.has_list g.is_called g.is_assigned_with_list g.is_known_function (own-plain u) h)
    (λ declared. unit-among u x (statements-among (arrays_of u) u.statements x declared))
    (λ listed. unit-among u x (used-among with_list x (unit_uses u) listed))

-- ONE NAME MORE
put-by : (q x : Bytes) (xs ys : List Bytes) (i : Bytes → Bool) (b : Bool) → bytes_eq q x ≡ b → i x ≡ true → ys ≡ xs ++ x ∷ [] → is_among q ys ≡ (is_among q xs || (bytes_eq q x && i q))
put-by q x xs ys i b same is put =
    ap (is_among q) put ∙ among_both q xs (x ∷ []) ∙ ap (λ c. is_among q xs || c) (among_step q x [] ∙ ap (λ c. bytes_eq q x || c) (among_none q) ∙ here b same)
  where
    here : (c : Bool) → bytes_eq q x ≡ c → (bytes_eq q x || false) ≡ (bytes_eq q x && i q)
    here true e = ap (λ d. d || false) e ∙ sym (ap (λ d. d && i q) e ∙ ap i ((bytes_eq-Decides q x).0 e) ∙ is)
    here false e = ap (λ d. d || false) e ∙ sym (ap (λ d. d && i q) e)

pub function-put : {A E : Type 0} (r : Result A E) (u : WrittenUnit) (old new : NameSet) (x : Bytes) (b : Bool) → b ≡ is_intrinsic (class_of u (unit_uses u) x) → b ≡ true
    → OnOk r (names_in new ≡ names_in old ++ x ∷ []) → OnOk r (IsNameSet new) → OnOk r (AddsFunction u old new x)
function-put (Ok a) u old new x b is there put set = record {
  has = λ q. put-by q x (names_in old) (names_in new) (λ y. is_intrinsic (class_of u (unit_uses u) y)) (bytes_eq q x) refl (sym is ∙ there) put;
  is_set = set;
}
function-put (Err e) u old new x b is there put set = put

keep-by : (q x : Bytes) (xs : List Bytes) (i : Bytes → Bool) (b : Bool) → bytes_eq q x ≡ b → i x ≡ false → is_among q xs ≡ (is_among q xs || (bytes_eq q x && i q))
keep-by q x xs i b same is = sym (ap (λ c. is_among q xs || c) (here b same) ∙ or_none (is_among q xs))
  where
    here : (c : Bool) → bytes_eq q x ≡ c → (bytes_eq q x && i q) ≡ false
    here true e = ap (λ d. d && i q) e ∙ ap i ((bytes_eq-Decides q x).0 e) ∙ is
    here false e = ap (λ d. d && i q) e

    or_none : (c : Bool) → (c || false) ≡ c
    or_none true = refl
    or_none false = refl

pub function-not : (u : WrittenUnit) (old : NameSet) (x : Bytes) (b : Bool) → b ≡ is_intrinsic (class_of u (unit_uses u) x) → b ≡ false → IsNameSet old → AddsFunction u old old x
function-not u old x b is there set = record {
  has = λ q. keep-by q x (names_in old) (λ y. is_intrinsic (class_of u (unit_uses u) y)) (bytes_eq q x) refl (sym is ∙ there);
  is_set = set;
}

-- NAMES ONE AFTER THE OTHER: what stands past the end of a list of texts
abbrev pub no_text : Bor Bytes
no_text = record { ref_ptr = (0, 0); now = [] }

pub functions-none : (u : WrittenUnit) (set : NameSet) → names_in set ≡ [] → IsNameSet set → AreFunctionsAmong u [] set
unfolding is_among
functions-none u set none is_set = record { has = λ q. ap (is_among q) none; is_set = is_set }

more-by : (a c : Bool) (i : Bool) → ((a && i) || (c && i)) ≡ ((a || c) && i)
more-by true true true = refl
more-by true true false = refl
more-by true false true = refl
more-by true false false = refl
more-by false c i = refl

texts-one : (xs : List (Bor Bytes)) (x : Bor Bytes) → texts (xs ++ x ∷ []) ≡ texts xs ++ x.now ∷ []
texts-one xs x = map-append (λ (y : Bor Bytes). y.now) xs (x ∷ [])

pub texts-taken : (xs : List (Bor Bytes)) (i : ℕ) (x d : Bor Bytes) → i < length xs → x ≡ get_or xs i d → texts (take i xs) ++ x.now ∷ [] ≡ texts (take (i + 1) xs)
texts-taken xs i x d h is = sym (texts-one (take i xs) x) ∙ ap texts (one-taken xs i x d h is)

pub among-one : (q x : Bytes) (xs : List Bytes) → is_among q (xs ++ x ∷ []) ≡ (is_among q xs || bytes_eq q x)
among-one q x xs = among_both q xs (x ∷ []) ∙ ap (λ c. is_among q xs || c) (among_step q x [] ∙ ap (λ c. bytes_eq q x || c) (among_none q) ∙ by (bytes_eq q x))
  where
    by : (c : Bool) → (c || false) ≡ c
    by true = refl
    by false = refl

pub functions-more : (u : WrittenUnit) (old new : NameSet) (xs : List (Bor Bytes)) (i : ℕ) (x d : Bor Bytes) → i < length xs → x ≡ get_or xs i d
    → AreFunctionsAmong u (texts (take i xs)) old → AddsFunction u old new x.now → AreFunctionsAmong u (texts (take (i + 1) xs)) new
functions-more u old new xs i x d h is one more = record {
  has = λ q.
      more.has q ∙ ap (λ b. b || (bytes_eq q x.now && is_intrinsic (class_of u (unit_uses u) q))) (one.has q)
      ∙ more-by (is_among q (texts (take i xs))) (bytes_eq q x.now) (is_intrinsic (class_of u (unit_uses u) q))
      ∙ ap (λ b. b && is_intrinsic (class_of u (unit_uses u) q)) (sym (among-one q x.now (texts (take i xs))) ∙ ap (is_among q) (texts-taken xs i x d h is));
  is_set = more.is_set;
}

pub functions-end : (u : WrittenUnit) (set : NameSet) (xs : List (Bor Bytes)) (i : ℕ) → length xs ≤ i → AreFunctionsAmong u (texts (take i xs)) set → AreFunctionsAmong u (texts xs) set
functions-end u set xs i h one = subst (λ ys. AreFunctionsAmong u (texts ys) set) (take_all i xs h) one

both-by : (a i : Bool) → (i ≡ true → a ≡ true) → (a && i) ≡ i
both-by true i h = refl
both-by false true h = absurd (true≢false (sym (h refl)))
both-by false false h = refl

pub unit-functions : {E : Type 0} (r : Result NameSet E) (u : WrittenUnit) (xs : List Bytes) → xs ≡ all_names u → IfOk r (AreFunctionsAmong u xs) → IfOk r (AreFunctions u)
unit-functions (Ok set) u xs is h = record {
  has = λ q.
      h.has q ∙ ap (λ ys. is_among q ys && is_intrinsic (class_of u (unit_uses u) q)) is
      ∙ both-by (is_among q (all_names u)) (is_intrinsic (class_of u (unit_uses u) q)) (intrinsic-among u q);
  is_set = h.is_set;
}
unit-functions (Err e) u xs is h = h
