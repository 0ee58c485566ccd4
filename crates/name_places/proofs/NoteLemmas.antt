-- Names are noted where they stand first, one after the other.
use Rattle.std.specs.Prelude.{◌≡◌, ℕ, suc, Bool, true, false, ◌||◌, List, [], ◌∷◌, ◌++◌, map, bytes_eq, Option, Some, None, option_map, if◌then◌else◌}
use Rattle.std.proofs.Common.{◌+◌, ◌<◌, ◌≤◌, drop, drop-cons, get_or, length, Result, Ok, Err, OnOk, refl, sym, ap, ◌∙◌, arith}
use Rattle.std.proofs.lemmas.List.{drop_all}
use Rattle.std.proofs.lemmas.Slice.Eq.{bytes_eq-Decides}
use Rattle.f_tree.specs.Values.{Bytes}
use Rattle.f_tree.specs.Uses.{is_among}
use Rattle.name_table.specs.declared.NameTable.{NameTable}
use Rattle.name_table.specs.Named.{value_of}
use Rattle.name_table.proofs.SetLemmas.{among_both}
use Rattle.name_table.proofs.Texts.{bytes_eq_flip}
use Rattle.name_places.specs.FirstPlaces.{first_or, noted, Notes}

first_or_none : (o : Option ℕ) (at : ℕ) → first_or o false at ≡ o
unfolding first_or
first_or_none None at = refl
first_or_none (Some k) at = refl

first_or_both : (o : Option ℕ) (a b : Bool) (at : ℕ) → first_or o (a || b) at ≡ first_or (first_or o a at) b at
unfolding first_or
first_or_both None true b at = refl
first_or_both None false b at = refl
first_or_both (Some k) a b at = refl

pub noted_none : (at : ℕ) (table : NameTable ℕ) (q : Bytes) → noted at table [] q ≡ value_of table q
unfolding noted is_among
noted_none at table q = first_or_none (value_of table q) at

noted_both : (at : ℕ) (old mid : NameTable ℕ) (xs ys : List Bytes) (q : Bytes) → Notes at old mid xs → noted at old (xs ++ ys) q ≡ noted at mid ys q
unfolding noted
noted_both at old mid xs ys q notes =
    ap (λ b. first_or (value_of old q) b at) (among_both q xs ys) ∙ first_or_both (value_of old q) (is_among q xs) (is_among q ys) at
    ∙ ap (λ o. first_or o (is_among q ys) at) (sym (notes.has q))

pub notes_none : (at : ℕ) (table : NameTable ℕ) → Notes at table table []
notes_none at table = record { has = λ q. sym (noted_none at table q) }

pub notes_both : (at : ℕ) (old mid new : NameTable ℕ) (xs ys : List Bytes) → Notes at old mid xs → Notes at mid new ys → Notes at old new (xs ++ ys)
notes_both at old mid new xs ys first second = record { has = λ q. second.has q ∙ sym (noted_both at old mid xs ys q first) }

pub notes_as : (at : ℕ) (old new : NameTable ℕ) (xs ys : List Bytes) → xs ≡ ys → Notes at old new xs → Notes at old new ys
notes_as at old new xs ys is notes = record { has = λ q. notes.has q ∙ ap (λ names. noted at old names q) is }

pub then_as : {A E : Type 0} (r : Result A E) (at : ℕ) (old new : NameTable ℕ) (xs ys : List Bytes) → xs ≡ ys → OnOk r (Notes at old new xs) → OnOk r (Notes at old new ys)
then_as (Ok x) at old new xs ys is notes = notes_as at old new xs ys is notes
then_as (Err e) at old new xs ys is notes = notes

-- one name
or_none : (b : Bool) → (b || false) ≡ b
or_none true = refl
or_none false = refl

among_one : (q x : Bytes) → is_among q (x ∷ []) ≡ bytes_eq q x
unfolding is_among
among_one q x = or_none (bytes_eq q x)

seen_by : (b : Bool) (o : Option ℕ) (k at : ℕ) → (b ≡ true → o ≡ Some k) → o ≡ first_or o b at
unfolding first_or
seen_by true o k at is = is refl ∙ ap (λ p. first_or p true at) (sym (is refl))
seen_by false o k at is = sym (first_or_none o at)

-- the name has a place already
pub notes_old : (at : ℕ) (table : NameTable ℕ) (x : Bytes) (k : ℕ) → value_of table x ≡ Some k → Notes at table table (x ∷ [])
unfolding noted
notes_old at table x k is = record {
  has = λ q. seen_by (is_among q (x ∷ [])) (value_of table q) k at (λ same. ap (value_of table) ((bytes_eq-Decides q x).0 (sym (among_one q x) ∙ same)) ∙ is);
}

new_by : (b : Bool) (o : Option ℕ) (at : ℕ) → (b ≡ true → o ≡ None) → (if b then Some at else o) ≡ first_or o b at
unfolding first_or
new_by true o at is = ap (λ p. first_or p true at) (sym (is refl))
new_by false o at is = sym (first_or_none o at)

-- the name has none
pub notes_new : (at : ℕ) (old new : NameTable ℕ) (x : Bytes) → value_of old x ≡ None → ((q : Bytes) → value_of new q ≡ (if bytes_eq x q then Some at else value_of old q)) → Notes at old new (x ∷ [])
unfolding noted
notes_new at old new x none put = record {
  has = λ q.
      put q ∙ ap (λ b. if b then Some at else value_of old q) (bytes_eq_flip x q ∙ sym (among_one q x))
      ∙ new_by (is_among q (x ∷ [])) (value_of old q) at (λ same. ap (value_of old) ((bytes_eq-Decides q x).0 (sym (among_one q x) ∙ same)) ∙ none);
}

pub then_new : {A E : Type 0} (r : Result A E) (at : ℕ) (old new : NameTable ℕ) (x : Bytes) → value_of old x ≡ None
    → OnOk r ((q : Bytes) → value_of new q ≡ (if bytes_eq x q then Some at else value_of old q)) → OnOk r (Notes at old new (x ∷ []))
then_new (Ok y) at old new x none put = notes_new at old new x none put
then_new (Err e) at old new x none put = put

-- names one after the other
rest_is : {X : Type 0} (xs : List X) (i : ℕ) (x d : X) → i < length xs → x ≡ get_or xs i d → drop i xs ≡ x ∷ drop (i + 1) xs
rest_is xs i x d h is = drop-cons xs i d h ∙ ap (λ y. y ∷ drop (suc i) xs) (sym is) ∙ ap (λ n. x ∷ drop n xs) (let e : suc i ≡ i + 1 = omega arith in e)

module _ {X : Type 0} (names : List X → List Bytes) (out : X → List Bytes) where
  pub notes_more : ((x : X) (xs : List X) → names (x ∷ xs) ≡ out x ++ names xs) → (at : ℕ) (xs : List X) (i : ℕ) (x d : X) (start old new : NameTable ℕ) → i < length xs → x ≡ get_or xs i d
      → ((q : Bytes) → noted at start (names xs) q ≡ noted at old (names (drop i xs)) q) → Notes at old new (out x)
      → (q : Bytes) → noted at start (names xs) q ≡ noted at new (names (drop (i + 1) xs)) q
  notes_more step at xs i x d start old new h is so_far notes q =
      so_far q ∙ ap (λ ys. noted at old ys q) (ap names (rest_is xs i x d h is) ∙ step x (drop (i + 1) xs)) ∙ noted_both at old new (out x) (names (drop (i + 1) xs)) q notes

  pub notes_end : names [] ≡ [] → (at : ℕ) (xs : List X) (i : ℕ) (start old : NameTable ℕ) → length xs ≤ i
      → ((q : Bytes) → noted at start (names xs) q ≡ noted at old (names (drop i xs)) q) → Notes at start old (names xs)
  notes_end none at xs i start old h so_far = record {
    has = λ q. sym (noted_none at old q) ∙ ap (λ ys. noted at old ys q) (sym (ap names (drop_all i xs h) ∙ none)) ∙ sym (so_far q);
  }
