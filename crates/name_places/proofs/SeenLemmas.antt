-- Names in the order in which they are first seen.
use Rattle.std.specs.Prelude.{◌≡◌, ℕ, suc, Bool, true, false, ◌||◌, List, [], ◌∷◌, ◌++◌, map, bytes_eq, Option, Some, None, if◌then◌else◌}
use Rattle.std.proofs.Common.{◌+◌, ◌<◌, ◌≤◌, drop, drop-cons, get_or, length, Result, Ok, Err, OnOk, refl, sym, ap, ◌∙◌, arith}
use Rattle.std.proofs.lemmas.List.{append-nil, append_assoc, map-append, drop_all}
use Rattle.f_tree.specs.declared.statements.DummyArgument.{DummyArgument}
use Rattle.f_tree.specs.declared.statements.DummyArgument.TheVariants as dummy
use Rattle.f_tree.specs.declared.statements.Stmt.{Stmt}
use Rattle.f_tree.specs.declared.units.Unit.{Unit as WrittenUnit}
use Rattle.f_tree.specs.Values.{Bytes}
use Rattle.f_tree.specs.Uses.{Use, Declared, is_among, seen_from, first_seen, uses_of_body, uses_of_statements, all_of}
use Rattle.f_tree.specs.Attributes.{arrays_of, named_dummies, names_of, option_list}
use Rattle.declaration_rows.specs.NameRows.{all_names}
use Rattle.name_table.specs.declared.name_set.NameSet.{NameSet}
use Rattle.name_table.specs.Named.{names_in, IsNameSet}
use Rattle.name_table.proofs.SetLemmas.{among_both}
use Rattle.name_places.specs.FirstPlaces.{use_names}
use Rattle.name_places.specs.SeenNames.{with_name, with_names, dummy_name, AreSeen}

-- ONE NAME
pub with_none : (seen : List Bytes) → seen ≡ with_names seen []
unfolding with_names
with_none seen = refl

with_one : (seen : List Bytes) (x : Bytes) → with_names seen (x ∷ []) ≡ (if is_among x seen then seen else seen ++ x ∷ [])
unfolding with_names with_name
with_one seen x = refl

pub seen_already : (set : NameSet) (names : List Bytes) (x : Bytes) (b : Bool) → AreSeen set names → b ≡ is_among x (names_in set) → b ≡ true → names ≡ with_names names (x ∷ [])
seen_already set names x b known is there =
    sym (with_one names x ∙ ap (λ c. if c then names else names ++ x ∷ []) (ap (is_among x) (sym known.names) ∙ sym is ∙ there))

pub seen_first : (set : NameSet) (names after : List Bytes) (x : Bytes) (b : Bool) → AreSeen set names → b ≡ is_among x (names_in set) → b ≡ false → after ≡ names ++ x ∷ []
    → after ≡ with_names names (x ∷ [])
seen_first set names after x b known is there put =
    put ∙ sym (with_one names x ∙ ap (λ c. if c then names else names ++ x ∷ []) (ap (is_among x) (sym known.names) ∙ sym is ∙ there))

pub seen_more : (old new : NameSet) (names after : List Bytes) (x : Bytes) → AreSeen old names → names_in new ≡ names_in old ++ x ∷ [] → IsNameSet new → after ≡ names ++ x ∷ [] → AreSeen new after
seen_more old new names after x known put is_set pushed = record { names = put ∙ ap (λ xs. xs ++ x ∷ []) known.names ∙ sym pushed; is_set = is_set }

pub with_as : {A E : Type 0} (r : Result A E) (seen after xs ys : List Bytes) → xs ≡ ys → OnOk r (after ≡ with_names seen xs) → OnOk r (after ≡ with_names seen ys)
with_as (Ok x) seen after xs ys is put = put ∙ ap (with_names seen) is
with_as (Err e) seen after xs ys is put = put

-- NAMES ONE AFTER THE OTHER
pub with_both : (seen xs ys : List Bytes) → with_names seen (xs ++ ys) ≡ with_names (with_names seen xs) ys
unfolding with_names
with_both seen [] ys = refl
with_both seen (x ∷ xs) ys = with_both (with_name seen x) xs ys

rest_is : {X : Type 0} (xs : List X) (i : ℕ) (x d : X) → i < length xs → x ≡ get_or xs i d → drop i xs ≡ x ∷ drop (i + 1) xs
rest_is xs i x d h is = drop-cons xs i d h ∙ ap (λ y. y ∷ drop (suc i) xs) (sym is) ∙ ap (λ n. x ∷ drop n xs) (let e : suc i ≡ i + 1 = omega arith in e)

module _ {X : Type 0} (names : List X → List Bytes) (out : X → List Bytes) where
  pub seen_on : ((x : X) (xs : List X) → names (x ∷ xs) ≡ out x ++ names xs) → (xs : List X) (i : ℕ) (x d : X) (seen after whole : List Bytes) → i < length xs → x ≡ get_or xs i d
      → whole ≡ with_names seen (names (drop i xs)) → after ≡ with_names seen (out x) → whole ≡ with_names after (names (drop (i + 1) xs))
  seen_on step xs i x d seen after whole h is so_far put =
      so_far ∙ ap (with_names seen) (ap names (rest_is xs i x d h is) ∙ step x (drop (i + 1) xs)) ∙ with_both seen (out x) (names (drop (i + 1) xs))
      ∙ ap (λ now. with_names now (names (drop (i + 1) xs))) (sym put)

  pub seen_end : names [] ≡ [] → (xs : List X) (i : ℕ) (seen whole : List Bytes) → length xs ≤ i → whole ≡ with_names seen (names (drop i xs)) → seen ≡ whole
  seen_end none xs i seen whole h so_far = with_none seen ∙ ap (with_names seen) (sym (ap names (drop_all i xs h) ∙ none)) ∙ sym so_far

-- dummy arguments
pub dummy-Named : (x : Bytes) → x ∷ [] ≡ dummy_name (dummy.Named x)
unfolding dummy_name
dummy-Named x = refl

pub dummy-Alternate : [] ≡ dummy_name dummy.AlternateReturn
unfolding dummy_name
dummy-Alternate = refl

pub dummies_step : (d : DummyArgument) (ds : List DummyArgument) → named_dummies (d ∷ ds) ≡ dummy_name d ++ named_dummies ds
unfolding named_dummies dummy_name
dummies_step (dummy.Named x) ds = refl
dummies_step dummy.AlternateReturn ds = refl

pub dummies_none : named_dummies [] ≡ []
unfolding named_dummies
dummies_none = refl

-- statements
pub statements_step : (arrays : List Bytes) (s : Stmt) (ss : List Stmt) → use_names (uses_of_statements arrays (s ∷ ss)) ≡ use_names (uses_of_body arrays s.body) ++ use_names (uses_of_statements arrays ss)
unfolding uses_of_statements all_of use_names
statements_step arrays s ss = map-append (λ (u : Use). u.name) (uses_of_body arrays s.body) (uses_of_statements arrays ss)

pub statements_none : (arrays : List Bytes) → use_names (uses_of_statements arrays []) ≡ []
unfolding uses_of_statements all_of use_names
statements_none arrays = refl

-- AS THE DEFINITION HAS THEM
or_none : (b : Bool) → (b || false) ≡ b
or_none true = refl
or_none false = refl

or_swapped : (a b : Bool) → (a || b) ≡ (b || a)
or_swapped true true = refl
or_swapped true false = refl
or_swapped false true = refl
or_swapped false false = refl

among_step : (q x : Bytes) (xs : List Bytes) → is_among q (x ∷ xs) ≡ (bytes_eq q x || is_among q xs)
unfolding is_among
among_step q x xs = refl

among_one : (q x : Bytes) → is_among q (x ∷ []) ≡ bytes_eq q x
unfolding is_among
among_one q x = or_none (bytes_eq q x)

behind : (q x : Bytes) (seen : List Bytes) → is_among q (seen ++ x ∷ []) ≡ is_among q (x ∷ seen)
behind q x seen = among_both q seen (x ∷ []) ∙ or_swapped (is_among q seen) (is_among q (x ∷ [])) ∙ ap (λ b. b || is_among q seen) (among_one q x) ∙ sym (among_step q x seen)

seen_by : (b : Bool) (seen seen' : List Bytes) (x : Bytes) (us : List Use) → with_names seen (use_names us) ≡ seen ++ seen_from seen' us
    → with_names (seen ++ x ∷ []) (use_names us) ≡ (seen ++ x ∷ []) ++ seen_from (x ∷ seen') us
    → with_names (if b then seen else seen ++ x ∷ []) (use_names us) ≡ seen ++ (if b then seen_from seen' us else x ∷ seen_from (x ∷ seen') us)
seen_by true seen seen' x us there new = there
seen_by false seen seen' x us there new = new ∙ append_assoc seen (x ∷ []) (seen_from (x ∷ seen') us)

with_seen : (us : List Use) (seen seen' : List Bytes) → ((q : Bytes) → is_among q seen ≡ is_among q seen') → with_names seen (use_names us) ≡ seen ++ seen_from seen' us
unfolding use_names with_names with_name seen_from
with_seen [] seen seen' alike = sym (append-nil seen)
with_seen (u ∷ us) seen seen' alike =
    seen_by (is_among u.name seen) seen seen' u.name us (with_seen us seen seen' alike)
    (with_seen us (seen ++ u.name ∷ []) (u.name ∷ seen') (λ q. behind q u.name seen ∙ among_step q u.name seen ∙ ap (λ b. bytes_eq q u.name || b) (alike q) ∙ sym (among_step q u.name seen')))
    ∙ ap (λ b. seen ++ (if b then seen_from seen' us else u.name ∷ seen_from (u.name ∷ seen') us)) (alike u.name)

declared_uses : (xs : List Bytes) (vs : List Use) → use_names (map (λ x. record { name = x; manner = Declared }) xs ++ vs) ≡ xs ++ use_names vs
unfolding use_names
declared_uses [] vs = refl
declared_uses (x ∷ xs) vs = ap (λ ys. x ∷ ys) (declared_uses xs vs)

pub all_are : (u : WrittenUnit) (arrays seen : List Bytes) → arrays ≡ arrays_of u → seen ≡ with_names (with_names [] (named_dummies u.dummies)) (use_names (uses_of_statements arrays u.statements))
    → option_list u.name ++ seen ≡ all_names u
unfolding all_names names_of first_seen
all_are u arrays seen is found =
    ap (λ xs. option_list u.name ++ xs)
    (found ∙ ap (λ names. with_names (with_names [] (named_dummies u.dummies)) (use_names (uses_of_statements names u.statements))) is
    ∙ sym (with_both [] (named_dummies u.dummies) (use_names (uses_of_statements (arrays_of u) u.statements)))
    ∙ ap (with_names []) (sym (declared_uses (named_dummies u.dummies) (uses_of_statements (arrays_of u) u.statements)))
    ∙ with_seen (map (λ x. record { name = x; manner = Declared }) (named_dummies u.dummies) ++ uses_of_statements (arrays_of u) u.statements) [] [] (λ q. refl))

-- the unit's own name
pub own_first : (o : Option Bytes) (x : Bytes) (names after : List Bytes) → o ≡ Some x → after ≡ x ∷ names → after ≡ option_list o ++ names
unfolding option_list
own_first o x names after is put = put ∙ ap (λ p. option_list p ++ names) (sym is)

pub own_none : (o : Option Bytes) (names : List Bytes) → o ≡ None → names ≡ option_list o ++ names
unfolding option_list
own_none o names is = ap (λ p. option_list p ++ names) (sym is)
