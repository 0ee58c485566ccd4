-- Sets of the names that are used, and of first letters.
use Rattle.std.proofs.Common.{◌≡◌, ◌<◌, ◌≤◌, ℕ, Bool, true, false, ◌&&◌, ◌||◌, List, [], ◌∷◌, ◌++◌, get_or, length, bytes_eq, nat_eq, Result, Ok, Err, OnOk, refl, sym, ap, ◌∙◌, true≢false, subst, arith}
use Rattle.std.specs.List.{list_any}
use Rattle.std.proofs.lemmas.Bool.{eqb-true}
use Rattle.std.proofs.lemmas.Slice.Eq.{bytes_eq-Decides}
use Rattle.f_tree.specs.Values.{Bytes}
use Rattle.f_tree.specs.Uses.{Use, is_among}
use Rattle.declaration_rows.specs.OrderRows.{is_use}
use Rattle.name_table.specs.declared.name_set.NameSet.{NameSet}
use Rattle.name_table.specs.Named.{names_in, IsNameSet}
use Rattle.name_table.proofs.Texts.{bytes_eq_flip}
use Rattle.name_table.proofs.SetLemmas.{among_both}
use Rattle.name_uses.specs.declared.uses.Use.{Use as Seen}
use Rattle.name_uses.specs.UsesSeen.{used_in, use_of}
use Rattle.statement_order.specs.BeforeSteps.{first_passes, uses_as, Uses}

pub or_false : (b : Bool) → b ≡ (b || false)
or_false true = refl
or_false false = refl

pub or_same : (a b : Bool) → (b ≡ true → a ≡ true) → a ≡ (a || b)
or_same true b h = refl
or_same false true h = h refl
or_same false false h = refl

pub or_along : (a b c : Bool) → (a || (b || c)) ≡ ((a || b) || c)
or_along true b c = refl
or_along false b c = refl

pub or_turn : (a b : Bool) → (a || b) ≡ (b || a)
or_turn true true = refl
or_turn true false = refl
or_turn false true = refl
or_turn false false = refl

pub any_append : {A : Type 0} (p : A → Bool) (xs ys : List A) → list_any p (xs ++ ys) ≡ (list_any p xs || list_any p ys)
any_append p [] ys = refl
any_append p (x ∷ xs) ys = ap (λ b. p x || b) (any_append p xs ys) ∙ or_along (p x) (list_any p xs) (list_any p ys)

one_by : (a b : Bool) → ((a && (b || false)) || false) ≡ (a && b)
one_by true true = refl
one_by true false = refl
one_by false b = refl

-- a name that is used
one_use : (x : Bytes) (u : Use) → list_any (uses_as x) (u ∷ []) ≡ (is_use u.manner && bytes_eq u.name x)
unfolding uses_as is_among
one_use x u = one_by (is_use u.manner) (bytes_eq u.name x)

and_false : (b : Bool) → false ≡ (false && b)
and_false b = refl

pub uses_not : (set : NameSet) (u : Use) → IsNameSet set → is_use u.manner ≡ false → Uses set set (u ∷ [])
uses_not set u known none = record {
  has = λ x. or_false (is_among x (names_in set)) ∙ ap (λ b. is_among x (names_in set) || b) (sym (one_use x u ∙ ap (λ b. b && bytes_eq u.name x) none));
  is_set = known;
}

had_by : (m b c : Bool) → (b ≡ true → c ≡ true) → c ≡ (c || (m && b))
had_by true b c h = or_same c b h
had_by false b c h = or_false c

pub uses_had : (set : NameSet) (u : Use) → IsNameSet set → is_among u.name (names_in set) ≡ true → Uses set set (u ∷ [])
uses_had set u known there = record {
  has = λ x.
      had_by (is_use u.manner) (bytes_eq u.name x) (is_among x (names_in set)) (λ same. ap (λ y. is_among y (names_in set)) (sym ((bytes_eq-Decides u.name x).0 same)) ∙ there)
      ∙ ap (λ b. is_among x (names_in set) || b) (sym (one_use x u));
  is_set = known;
}

one_more : (x y : List ℕ) (xs : List (List ℕ)) → is_among x (xs ++ y ∷ []) ≡ (is_among x xs || bytes_eq x y)
unfolding is_among
one_more x y xs = among_both x xs (y ∷ []) ∙ ap (λ b. is_among x xs || b) (sym (or_false (bytes_eq x y)))

added : (set after : NameSet) (u : Use) → is_use u.manner ≡ true → names_in after ≡ names_in set ++ u.name ∷ [] → IsNameSet after → Uses set after (u ∷ [])
added set after u counts put known = record {
  has = λ x.
      ap (is_among x) put ∙ one_more x u.name (names_in set)
      ∙ ap (λ b. is_among x (names_in set) || b) (bytes_eq_flip x u.name ∙ sym (one_use x u ∙ ap (λ b. b && bytes_eq u.name x) counts));
  is_set = known;
}

pub uses_added : {A E : Type 0} (r : Result A E) (set after : NameSet) (u : Use) → is_use u.manner ≡ true → OnOk r (names_in after ≡ names_in set ++ u.name ∷ []) → OnOk r (IsNameSet after)
    → OnOk r (Uses set after (u ∷ []))
uses_added (Ok x) set after u counts put known = added set after u counts put known
uses_added (Err e) set after u counts put known = put

-- first letters
later : (b c : Bool) → c ≡ true → (b || c) ≡ true
later true c h = refl
later false c h = h

there_by : (p : ℕ → Bool) (ls : List ℕ) (c d : ℕ) (b : Bool) → nat_eq c d ≡ b → (b || list_any (λ e. nat_eq c e) ls) ≡ true → p c ≡ true
    → (list_any (λ e. nat_eq c e) ls ≡ true → list_any p ls ≡ true) → (p d || list_any p ls) ≡ true
there_by p ls c d true is there holds rest = ap (λ b. b || list_any p ls) (ap p (sym (eqb-true c d is)) ∙ holds)
there_by p ls c d false is there holds rest = later (p d) (list_any p ls) (rest there)

any_there : (p : ℕ → Bool) (ls : List ℕ) (c : ℕ) → list_any (λ d. nat_eq c d) ls ≡ true → p c ≡ true → list_any p ls ≡ true
any_there p [] c there holds = absurd (true≢false (sym there))
any_there p (d ∷ ls) c there holds = there_by p ls c d (nat_eq c d) refl there holds (λ rest. any_there p ls c rest holds)

first_is : (p : ℕ → Bool) (name : List ℕ) → 1 ≤ length name → first_passes p name ≡ p (get_or name 0 0)
unfolding first_passes
first_is p [] h = absurd (omega arith)
first_is p (c ∷ cs) h = refl

first_none : (p : ℕ → Bool) (name : List ℕ) → length name < 1 → first_passes p name ≡ false
unfolding first_passes
first_none p [] h = refl
first_none p (c ∷ cs) h = absurd (omega arith)

pub letters_had : (p : ℕ → Bool) (ls name : List ℕ) → 1 ≤ length name → list_any (λ d. nat_eq (get_or name 0 0) d) ls ≡ true → list_any p ls ≡ (list_any p ls || first_passes p name)
letters_had p ls name some there =
    or_same (list_any p ls) (first_passes p name) (λ holds. any_there p ls (get_or name 0 0) there (sym (first_is p name some) ∙ holds))

pub letters_none : (p : ℕ → Bool) (ls name : List ℕ) → length name < 1 → list_any p ls ≡ (list_any p ls || first_passes p name)
letters_none p ls name none = or_false (list_any p ls) ∙ ap (λ b. list_any p ls || b) (sym (first_none p name none))

pub letters_more : (p : ℕ → Bool) (ls after name : List ℕ) → 1 ≤ length name → after ≡ ls ++ get_or name 0 0 ∷ [] → list_any p after ≡ (list_any p ls || first_passes p name)
letters_more p ls after name some put =
    ap (list_any p) put ∙ any_append p ls (get_or name 0 0 ∷ []) ∙ ap (λ b. list_any p ls || b) (sym (or_false (p (get_or name 0 0))) ∙ sym (first_is p name some))

pub letters_same : (p : ℕ → Bool) (ls : List ℕ) (names : List Bytes) → names ≡ [] → list_any p ls ≡ (list_any p ls || list_any (first_passes p) names)
letters_same p ls names none = or_false (list_any p ls) ∙ ap (λ xs. list_any p ls || list_any (first_passes p) xs) (sym none)

pub uses_step : (x : Bytes) (b : Bool) (u : Seen) (us : List Seen) → (b || list_any (uses_as x) (used_in (u ∷ us))) ≡ ((b || list_any (uses_as x) (use_of u ∷ [])) || list_any (uses_as x) (used_in us))
uses_step x b u us =
    or_along b (uses_as x (use_of u)) (list_any (uses_as x) (used_in us))
    ∙ ap (λ v. (b || v) || list_any (uses_as x) (used_in us)) (or_false (uses_as x (use_of u)))

pub uses_same : (set after : NameSet) (us vs : List Use) → us ≡ vs → Uses set after us → Uses set after vs
uses_same set after us vs same uses = subst (Uses set after) same uses
