-- The first type of each name, one after the other.
use Rattle.std.specs.Prelude.{◌≡◌, ℕ, suc, Bool, true, false, List, [], ◌∷◌, ◌++◌, bytes_eq, Option, Some, None, option_map, if◌then◌else◌}
use Rattle.std.proofs.Common.{◌+◌, ◌<◌, ◌≤◌, drop, drop-cons, get_or, length, Result, Ok, Err, OnOk, refl, sym, ap, ◌∙◌, arith}
use Rattle.std.proofs.lemmas.List.{drop_all}
use Rattle.std.proofs.lemmas.Slice.Eq.{bytes_eq-Decides}
use Rattle.f_tree.specs.declared.statements.Declarator.{Declarator}
use Rattle.f_tree.specs.declared.statements.TypeSpec.{TypeSpec}
use Rattle.f_tree.specs.Values.{Bytes}
use Rattle.f_tree.specs.Attributes.{TypedName, Typed, type_among, typed_by}
use Rattle.name_table.specs.declared.NameTable.{NameTable}
use Rattle.name_table.specs.Named.{value_of}
use Rattle.declared_types.specs.declared.types.DeclaredType.{DeclaredType}
use Rattle.declared_types.specs.TypeTables.{typed_of, type_at, type_in, type_or, NotesTypes}

first_type : Option TypedName → Option TypedName → Option TypedName
first_type (Some t) more = Some t
first_type None more = more

among_by : (b : Bool) (t : TypedName) (here more both : Option TypedName) → both ≡ first_type here more → (if b then Some t else both) ≡ first_type (if b then Some t else here) more
unfolding first_type
among_by true t here more both is = refl
among_by false t here more both is = is

among_both : (q : Bytes) (ts us : List TypedName) → type_among q (ts ++ us) ≡ first_type (type_among q ts) (type_among q us)
unfolding type_among first_type
among_both q [] us = refl
among_both q (t ∷ ts) us = among_by (bytes_eq t.item.name q) t (type_among q ts) (type_among q us) (type_among q (ts ++ us)) (among_both q ts us)

type_or_none : (o : Option Typed) → type_or o None ≡ o
unfolding type_or
type_or_none None = refl
type_or_none (Some t) = refl

type_or_first : (o : Option Typed) (one other : Option TypedName) → type_or o (first_type one other) ≡ type_or (type_or o one) other
unfolding type_or first_type
type_or_first (Some t) one other = refl
type_or_first None None other = refl
type_or_first None (Some t) other = refl

pub none_among : (o : Option Typed) (q : Bytes) → o ≡ type_or o (type_among q [])
unfolding type_among
none_among o q = sym (type_or_none o)

pub notes_none : (table : NameTable DeclaredType) → NotesTypes table table []
notes_none table = record { has = λ q. none_among (type_at table q) q }

pub notes_as : {A E : Type 0} (r : Result A E) (old new : NameTable DeclaredType) (ts us : List TypedName) → ts ≡ us → OnOk r (NotesTypes old new ts) → OnOk r (NotesTypes old new us)
notes_as (Ok x) old new ts us is notes = record { has = λ q. notes.has q ∙ ap (λ vs. type_or (type_at old q) (type_among q vs)) is }
notes_as (Err e) old new ts us is notes = notes

-- one name
kept_by : (b : Bool) (o : Option Typed) (t : Typed) (n : TypedName) → (b ≡ true → o ≡ Some t) → o ≡ type_or o (if b then Some n else None)
unfolding type_or
kept_by true o t n is = is refl ∙ ap (λ p. type_or p (Some n)) (sym (is refl))
kept_by false o t n is = sym (type_or_none o)

one_among : (q : Bytes) (n : TypedName) → type_among q (n ∷ []) ≡ (if bytes_eq n.item.name q then Some n else None)
unfolding type_among
one_among q n = refl

pub notes_old : (table : NameTable DeclaredType) (n : TypedName) (x : Bytes) (d : DeclaredType) → x ≡ n.item.name → value_of table x ≡ Some d → NotesTypes table table (n ∷ [])
unfolding type_at
notes_old table n x d named is = record {
  has = λ q.
      kept_by (bytes_eq n.item.name q) (type_at table q) (typed_of d) n
      (λ same. ap (λ y. option_map typed_of (value_of table y)) (sym ((bytes_eq-Decides n.item.name q).0 same) ∙ sym named) ∙ ap (option_map typed_of) is)
      ∙ ap (type_or (type_at table q)) (sym (one_among q n));
}

new_by : (b : Bool) (o : Option DeclaredType) (d : DeclaredType) (n : TypedName) → typed_of d ≡ type_in n → (b ≡ true → o ≡ None)
    → option_map typed_of (if b then Some d else o) ≡ type_or (option_map typed_of o) (if b then Some n else None)
unfolding type_or
new_by true o d n is none = ap (λ t. Some t) is ∙ ap (λ p. type_or (option_map typed_of p) (Some n)) (sym (none refl))
new_by false o d n is none = sym (type_or_none (option_map typed_of o))

pub notes_new : {A E : Type 0} (r : Result A E) (old new : NameTable DeclaredType) (n : TypedName) (x : Bytes) (d : DeclaredType) → x ≡ n.item.name → value_of old x ≡ None → typed_of d ≡ type_in n
    → OnOk r ((q : Bytes) → value_of new q ≡ (if bytes_eq x q then Some d else value_of old q)) → OnOk r (NotesTypes old new (n ∷ []))
unfolding type_at
notes_new (Ok a) old new n x d named none is put = record {
  has = λ q.
      ap (option_map typed_of) (put q ∙ ap (λ y. if bytes_eq y q then Some d else value_of old q) named)
      ∙ new_by (bytes_eq n.item.name q) (value_of old q) d n is (λ same. ap (value_of old) (sym ((bytes_eq-Decides n.item.name q).0 same) ∙ sym named) ∙ none)
      ∙ ap (type_or (type_at old q)) (sym (one_among q n));
}
notes_new (Err e) old new n x d named none is put = put

-- names one after the other
rest_is : {X : Type 0} (xs : List X) (i : ℕ) (x d : X) → i < length xs → x ≡ get_or xs i d → drop i xs ≡ x ∷ drop (i + 1) xs
rest_is xs i x d h is = drop-cons xs i d h ∙ ap (λ y. y ∷ drop (suc i) xs) (sym is) ∙ ap (λ n. x ∷ drop n xs) (let e : suc i ≡ i + 1 = omega arith in e)

module _ {X : Type 0} (rest : List X → List TypedName) (out : X → List TypedName) where
  pub notes_more : ((x : X) (xs : List X) → rest (x ∷ xs) ≡ out x ++ rest xs) → (xs : List X) (i : ℕ) (x d : X) (start : Bytes → Option Typed) (old new : NameTable DeclaredType) → i < length xs
      → x ≡ get_or xs i d → ((q : Bytes) → type_or (start q) (type_among q (rest xs)) ≡ type_or (type_at old q) (type_among q (rest (drop i xs)))) → NotesTypes old new (out x)
      → (q : Bytes) → type_or (start q) (type_among q (rest xs)) ≡ type_or (type_at new q) (type_among q (rest (drop (i + 1) xs)))
  notes_more step xs i x d start old new h is so_far notes q =
      so_far q ∙ ap (λ ts. type_or (type_at old q) (type_among q ts)) (ap rest (rest_is xs i x d h is) ∙ step x (drop (i + 1) xs))
      ∙ ap (type_or (type_at old q)) (among_both q (out x) (rest (drop (i + 1) xs))) ∙ type_or_first (type_at old q) (type_among q (out x)) (type_among q (rest (drop (i + 1) xs)))
      ∙ ap (λ o. type_or o (type_among q (rest (drop (i + 1) xs)))) (sym (notes.has q))

  pub notes_end : rest [] ≡ [] → (xs : List X) (i : ℕ) (start : Bytes → Option Typed) (old : NameTable DeclaredType) → length xs ≤ i
      → ((q : Bytes) → type_or (start q) (type_among q (rest xs)) ≡ type_or (type_at old q) (type_among q (rest (drop i xs))))
      → (q : Bytes) → type_at old q ≡ type_or (start q) (type_among q (rest xs))
  notes_end none xs i start old h so_far q =
      none_among (type_at old q) q ∙ ap (λ ts. type_or (type_at old q) (type_among q ts)) (sym (ap rest (drop_all i xs h) ∙ none)) ∙ sym (so_far q)

pub types_as : (old new : NameTable DeclaredType) (ts us : List TypedName) → ts ≡ us → NotesTypes old new ts → NotesTypes old new us
types_as old new ts us is notes = record { has = λ q. notes.has q ∙ ap (λ vs. type_or (type_at old q) (type_among q vs)) is }

pub type_new : (table : NameTable DeclaredType) (q : Bytes) → value_of table q ≡ None → type_at table q ≡ None
unfolding type_at
type_new table q none = ap (option_map typed_of) none

pub type_start : (o : Option TypedName) → type_or None o ≡ option_map type_in o
unfolding type_or
type_start o = refl

pub item_typed : (spec : TypeSpec) (item : Declarator) (d : DeclaredType) → typed_of d ≡ typed_by spec item.length → typed_of d ≡ type_in (record { spec = spec; item = item })
unfolding type_in
item_typed spec item d is = is
