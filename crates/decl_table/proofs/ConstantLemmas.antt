-- The constants of a unit, one definition after the other, and the lengths that they give.
use Rattle.std.proofs.Common.{◌≡◌, ℕ, ◌+◌, ◌<◌, ◌≤◌, ℤ, Bool, true, false, List, [], ◌∷◌, ◌++◌, take, get_or, length, Option, Some, None, Result, Ok, Err, OnOk, IfOk, option_map, if◌then◌else◌, bytes_eq, refl, ap, sym, subst, ◌∙◌, ◌⊎◌, inl, inr, true≢false, append-nil, append_assoc}
use Rattle.std.specs.Prelude.{nat_abs}
use Rattle.std.specs.Borrow.{Bor}
use Rattle.std.proofs.lemmas.List.{take_all}
use Rattle.f_tree.specs.declared.names.Basic.{Basic}
use Rattle.f_tree.specs.declared.names.Basic.TheVariants as basic
use Rattle.f_tree.specs.declared.expressions.Expr.{Expr}
use Rattle.f_tree.specs.declared.statements.Body.{Body, IfOne', more_of-Body}
use Rattle.f_tree.specs.declared.statements.Body as whole
use Rattle.f_tree.specs.declared.statements.Body.TheVariants as body
use Rattle.f_tree.specs.declared.statements.ConstantDefinition.{ConstantDefinition}
use Rattle.f_tree.specs.declared.statements.LengthSpec.{LengthSpec}
use Rattle.f_tree.specs.declared.statements.LengthSpec.TheVariants as length'
use Rattle.f_tree.specs.declared.statements.Stmt.{Stmt}
use Rattle.f_tree.specs.declared.units.Unit.{Unit as WrittenUnit}
use Rattle.f_tree.specs.Folds.{layer_of}
use Rattle.f_tree.specs.Values.{Bytes, Datum, IsInt, IsLog, IsText, IsLabel}
use Rattle.f_tree.specs.Store as store
use Rattle.f_tree.specs.Attributes as written
use Rattle.f_tree.specs.Attributes.{Constant, Typed, from_all, constants_in, constants_from, constants_of, fitted_to}
use Rattle.name_facts.specs.declared.fact.ConstantValue.{ConstantValue}
use Rattle.name_facts.specs.declared.fact.ConstantValue.TheVariants as value
use Rattle.name_facts.specs.GivenFacts.{datum_of}
use Rattle.constant_values.specs.declared.constants.Constants.{Constants}
use Rattle.constant_values.specs.KnownConstants.{entry_in, entry_among, first_entry, AreConstants, IsValueOf}
use Rattle.declared_types.specs.declared.types.DeclaredType.{DeclaredType}
use Rattle.declared_types.specs.TypeTables.{typed_of}
use Rattle.decl_table.specs.UnitFacts.{measured, IsLengthOf, IsWidthOf, IsFitted, IsDefinedValue, DefinesConstants, AreUnitConstants}
use Rattle.decl_table.proofs.BoundLemmas.{one-taken}
use Rattle.decl_table.proofs.FactLemmas.{constants-more, constants-both, defines-both, defines-nothing}

-- LENGTHS
length-read : (cs : List Constant) (e : Expr) → measured (written.constant_value cs e) ≡ written.width_by cs (record { basic = basic.Character; length = Some (length'.Value e) })
unfolding measured Rattle.f_tree.specs.Attributes.width_by
length-read cs e = by (written.constant_value cs e)
  where
    by : (o : Option Datum) → measured o ≡ (elim o [ Some d ↦ (elim d [ IsInt z ↦ Some (nat_abs z) | _ ↦ None ]) | None ↦ None ])
    by None = refl
    by (Some (IsInt z)) = refl
    by (Some _) = refl

star-read : (cs : List Constant) → None ≡ written.width_by cs (record { basic = basic.Character; length = Some length'.Star })
unfolding Rattle.f_tree.specs.Attributes.width_by
star-read cs = refl

abbrev of_length : LengthSpec → Typed
of_length l = record { basic = basic.Character; length = Some l }

pub length-star : (table : Constants) (l : LengthSpec) → l ≡ length'.Star → IsLengthOf table l None
length-star table l is = record { units = λ cs are. star-read cs ∙ ap (λ m. written.width_by cs (of_length m)) (sym is) }

pub length-value : (table : Constants) (l : LengthSpec) (e : Expr) (v : Option ConstantValue) (width : Option ℕ) → l ≡ length'.Value e → IsValueOf table e v
    → width ≡ measured (option_map datum_of v) → IsLengthOf table l width
length-value table l e v width is worth measures = record {
  units = λ cs are. measures ∙ ap measured (worth.value cs are) ∙ length-read cs e ∙ ap (λ m. written.width_by cs (of_length m)) (sym is);
}

-- WIDTHS
pub width-length : {E : Type 0} (table : Constants) (typed : DeclaredType) (l : Bor LengthSpec) (r : Result (Option ℕ) E) → typed.basic ≡ basic.Character → typed.length ≡ Some l
    → IfOk r (λ w. IsLengthOf table l.now w) → IfOk r (λ w. IsWidthOf table typed w)
unfolding typed_of
width-length table typed l (Ok w) b is h = record {
  units = λ cs are.
      h.units cs are
      ∙ ap (λ (o : Option (Bor LengthSpec)). written.width_by cs (record { basic = basic.Character; length = option_map (λ m. m.now) o })) (sym is)
      ∙ ap (λ (k : Basic). written.width_by cs (record { basic = k; length = option_map (λ m. m.now) typed.length })) (sym b);
}
width-length table typed l (Err x) b is h = h

one-unit : (cs : List Constant) → Some 1 ≡ written.width_by cs (record { basic = basic.Character; length = None })
unfolding Rattle.f_tree.specs.Attributes.width_by
one-unit cs = refl

pub width-one : (table : Constants) (typed : DeclaredType) → typed.basic ≡ basic.Character → typed.length ≡ None → IsWidthOf table typed (Some 1)
unfolding typed_of
width-one table typed b is = record {
  units = λ cs are.
      one-unit cs
      ∙ ap (λ (o : Option (Bor LengthSpec)). written.width_by cs (record { basic = basic.Character; length = option_map (λ m. m.now) o })) (sym is)
      ∙ ap (λ (k : Basic). written.width_by cs (record { basic = k; length = option_map (λ m. m.now) typed.length })) (sym b);
}

-- a type whose values have four units
abbrev has_four : Basic → Bool
has_four basic.Character = false
has_four _ = true

four-units : (cs : List Constant) (k : Basic) (o : Option LengthSpec) → has_four k ≡ true → Some 4 ≡ written.width_by cs (record { basic = k; length = o })
unfolding Rattle.f_tree.specs.Attributes.width_by
four-units cs basic.Character o four = absurd (true≢false (sym four))
four-units cs _ o four = refl

width-of-four : (table : Constants) (typed : DeclaredType) (k : Basic) → typed.basic ≡ k → has_four k ≡ true → IsWidthOf table typed (Some 4)
unfolding typed_of
width-of-four table typed k is four = record {
  units = λ cs are.
      four-units cs k (option_map (λ m. m.now) typed.length) four
      ∙ ap (λ (b : Basic). written.width_by cs (record { basic = b; length = option_map (λ m. m.now) typed.length })) (sym is);
}

pub width-four : (table : Constants) (typed : DeclaredType) → (typed.basic ≡ basic.Integer) ⊎ ((typed.basic ≡ basic.Logical) ⊎ (typed.basic ≡ basic.Untyped)) → IsWidthOf table typed (Some 4)
width-four table typed (inl is) = width-of-four table typed basic.Integer is refl
width-four table typed (inr (inl is)) = width-of-four table typed basic.Logical is refl
width-four table typed (inr (inr is)) = width-of-four table typed basic.Untyped is refl

-- A VALUE AT ITS LENGTH
pub fitted-text : (width : Option ℕ) (v : ConstantValue) (cs kept : Bytes) (n : ℕ) → v ≡ value.Text cs → width ≡ Some n → kept ≡ store.fitted n cs → IsFitted width v (value.Text kept)
unfolding datum_of fitted_to
fitted-text width v cs kept n is size found = record {
  fitted =
      ap (λ ds. Some (IsText ds)) found ∙ ap (λ w. fitted_to w (Some (IsText cs))) (sym size) ∙ ap (λ o. fitted_to width (Some (datum_of o))) (sym is);
}

unmeasured : (d : Datum) → Some d ≡ fitted_to None (Some d)
unfolding fitted_to
unmeasured (IsText cs) = refl
unmeasured _ = refl

pub fitted-free : (width : Option ℕ) (v kept : ConstantValue) → v ≡ kept → width ≡ None → IsFitted width v kept
fitted-free width v kept is size = record {
  fitted = unmeasured (datum_of kept) ∙ ap (λ w. fitted_to w (Some (datum_of kept))) (sym size) ∙ ap (λ o. fitted_to width (Some (datum_of o))) (sym is);
}

integer-fits : (width : Option ℕ) (z : ℤ) → Some (IsInt z) ≡ fitted_to width (Some (IsInt z))
unfolding fitted_to
integer-fits None z = refl
integer-fits (Some n) z = refl

logical-fits : (width : Option ℕ) (b : Bool) → Some (IsLog b) ≡ fitted_to width (Some (IsLog b))
unfolding fitted_to
logical-fits None b = refl
logical-fits (Some n) b = refl

label-fits : (width : Option ℕ) (l : ℕ) → Some (IsLabel l) ≡ fitted_to width (Some (IsLabel l))
unfolding fitted_to
label-fits None l = refl
label-fits (Some n) l = refl

pub fitted-integer : (width : Option ℕ) (v : ConstantValue) (z : ℤ) → v ≡ value.Integer z → IsFitted width v (value.Integer z)
unfolding datum_of
fitted-integer width v z is = record { fitted = integer-fits width z ∙ ap (λ o. fitted_to width (Some (datum_of o))) (sym is) }

pub fitted-logical : (width : Option ℕ) (v : ConstantValue) (b : Bool) → v ≡ value.Logical b → IsFitted width v (value.Logical b)
unfolding datum_of
fitted-logical width v b is = record { fitted = logical-fits width b ∙ ap (λ o. fitted_to width (Some (datum_of o))) (sym is) }

pub fitted-label : (width : Option ℕ) (v : ConstantValue) (l : ℕ) → v ≡ value.Label l → IsFitted width v (value.Label l)
unfolding datum_of
fitted-label width v l is = record { fitted = label-fits width l ∙ ap (λ o. fitted_to width (Some (datum_of o))) (sym is) }

-- THE VALUE OF A DEFINITION
pub defined-some : (table : Constants) (width : Option ℕ) (e : Expr) (o : Option ConstantValue) (v kept : ConstantValue) → o ≡ Some v → IsValueOf table e o → IsFitted width v kept
    → IsDefinedValue table width e (Some kept)
defined-some table width e o v kept is worth fits = record {
  value = λ cs are. fits.fitted ∙ ap (λ p. fitted_to width (option_map datum_of p)) (sym is) ∙ ap (fitted_to width) (worth.value cs are);
}

nothing-fits : (width : Option ℕ) → None ≡ fitted_to width None
unfolding fitted_to
nothing-fits None = refl
nothing-fits (Some n) = refl

pub defined-none : (table : Constants) (width : Option ℕ) (e : Expr) (o : Option ConstantValue) → o ≡ None → IsValueOf table e o → IsDefinedValue table width e None
defined-none table width e o is worth = record {
  value = λ cs are. nothing-fits width ∙ ap (λ p. fitted_to width (option_map datum_of p)) (sym is) ∙ ap (fitted_to width) (worth.value cs are);
}

-- DEFINITIONS
one-from : (u : WrittenUnit) (cs : List Constant) (d : ConstantDefinition) →
    cs ++ record { name = d.name; value = fitted_to (written.width_by cs (written.typed_name u d.name)) (written.constant_value cs d.value) } ∷ [] ≡ constants_from u cs (d ∷ [])
unfolding constants_from
one-from u cs d = refl

pub defines-one : {A E : Type 0} (r : Result A E) (u : WrittenUnit) (old new : Constants) (d : ConstantDefinition) (x : Bytes) (typed : DeclaredType) (width : Option ℕ) (v : Option ConstantValue)
    → x ≡ d.name → typed_of typed ≡ written.typed_name u x → IsWidthOf old typed width → IsDefinedValue old width d.value v
    → OnOk r ((y : Bytes) → entry_in new y ≡ (if bytes_eq x y then first_entry (entry_in old y) v else entry_in old y)) → OnOk r (DefinesConstants u old new (d ∷ []))
defines-one (Ok a) u old new d x typed width v named types wide worth put = record {
  defined = λ cs are.
      let same_value : option_map datum_of v ≡ fitted_to (written.width_by cs (written.typed_name u d.name)) (written.constant_value cs d.value) =
      worth.value cs are
      ∙ ap (λ w. fitted_to w (written.constant_value cs d.value)) (wide.units cs are ∙ ap (written.width_by cs) (types ∙ ap (written.typed_name u) named)) in
      subst (λ all. AreConstants all new) (one-from u cs d)
      (subst (λ (o : Option Datum). AreConstants (cs ++ record { name = d.name; value = o } ∷ []) new) same_value
      (subst (λ (y : Bytes). AreConstants (cs ++ record { name = y; value = option_map datum_of v } ∷ []) new) named (constants-more cs old new x v are put)));
}
defines-one (Err e) u old new d x typed width v named types wide worth put = put

pub defines-more : (u : WrittenUnit) (a b c : Constants) (ds : List ConstantDefinition) (i : ℕ) (d e : ConstantDefinition) → i < length ds → d ≡ get_or ds i e
    → DefinesConstants u a b (take i ds) → DefinesConstants u b c (d ∷ []) → DefinesConstants u a c (take (i + 1) ds)
defines-more u a b c ds i d e h is one other = subst (DefinesConstants u a c) (one-taken ds i d e h is) (defines-both u a b c (take i ds) (d ∷ []) one other)

pub defines-end : (u : WrittenUnit) (a b : Constants) (ds : List ConstantDefinition) (i : ℕ) → length ds ≤ i → DefinesConstants u a b (take i ds) → DefinesConstants u a b ds
defines-end u a b ds i h one = subst (DefinesConstants u a b) (take_all i ds h) one

pub defines-as : {A E : Type 0} (r : Result A E) (u : WrittenUnit) (a b : Constants) (ds es : List ConstantDefinition) → ds ≡ es → OnOk r (DefinesConstants u a b ds)
    → OnOk r (DefinesConstants u a b es)
defines-as (Ok x) u a b ds es is h = subst (DefinesConstants u a b) is h
defines-as (Err e) u a b ds es is h = h

-- STATEMENTS
pub constants-Parameter : (ds : List ConstantDefinition) → ds ≡ constants_in (body.Parameter ds)
unfolding constants_in layer_of
constants-Parameter ds = refl

pub constants-other : (b : Body) → ((ds : List ConstantDefinition) → b ≡ body.Parameter ds → ⊥) → [] ≡ constants_in b
unfolding constants_in layer_of
constants-other (whole.Parameter ds) h = absurd (h ds refl)
constants-other (IfOne' e s (more_of-Body b r)) h = refl
constants-other _ h = refl

pub defines-other : (u : WrittenUnit) (a : Constants) (ds : List ConstantDefinition) → [] ≡ ds → DefinesConstants u a a ds
defines-other u a ds is = subst (DefinesConstants u a a) is (defines-nothing u a)

abbrev constants_before : WrittenUnit → List Stmt → List Constant
constants_before u ss = constants_from u [] (from_all constants_in ss)

pub no-constants : (u : WrittenUnit) (table : Constants) → ((x : Bytes) → entry_in table x ≡ None) → AreConstants (constants_before u []) table
unfolding constants_from from_all entry_among
no-constants u table none = record { entries = λ x. ap (option_map (option_map datum_of)) (none x) }

from-both : (ss ts : List Stmt) → from_all constants_in (ss ++ ts) ≡ from_all constants_in ss ++ from_all constants_in ts
unfolding from_all
from-both [] ts = refl
from-both (s ∷ ss) ts = ap (λ ds. constants_in s.body ++ ds) (from-both ss ts) ∙ sym (append_assoc (constants_in s.body) (from_all constants_in ss) (from_all constants_in ts))

from-one : (s : Stmt) → from_all constants_in (s ∷ []) ≡ constants_in s.body
unfolding from_all
from-one s = append-nil (constants_in s.body)

pub statement-more : (u : WrittenUnit) (a b : Constants) (ss : List Stmt) (i : ℕ) (s d : Stmt) → i < length ss → s ≡ get_or ss i d
    → AreConstants (constants_before u (take i ss)) a → DefinesConstants u a b (constants_in s.body) → AreConstants (constants_before u (take (i + 1) ss)) b
statement-more u a b ss i s d h is one other =
    let all : constants_from u (constants_before u (take i ss)) (constants_in s.body) ≡ constants_before u (take (i + 1) ss) =
    sym (constants-both u [] (from_all constants_in (take i ss)) (constants_in s.body))
    ∙ ap (constants_from u []) (ap (λ ds. from_all constants_in (take i ss) ++ ds) (sym (from-one s)) ∙ sym (from-both (take i ss) (s ∷ [])))
    ∙ ap (constants_before u) (one-taken ss i s d h is) in
    subst (λ cs. AreConstants cs b) all (other.defined (constants_before u (take i ss)) one)

pub statements-end : (u : WrittenUnit) (a : Constants) (ss : List Stmt) (i : ℕ) → length ss ≤ i → AreConstants (constants_before u (take i ss)) a → AreConstants (constants_before u ss) a
statements-end u a ss i h one = subst (λ ts. AreConstants (constants_before u ts) a) (take_all i ss h) one

pub unit-constants : {E : Type 0} (r : Result Constants E) (u : WrittenUnit) (ss : List Stmt) → ss ≡ u.statements → IfOk r (λ table. AreConstants (constants_before u ss) table)
    → IfOk r (AreUnitConstants u)
unfolding constants_of
unit-constants (Ok table) u ss is h = record { constants = subst (λ ts. AreConstants (constants_before u ts) table) is h }
unit-constants (Err e) u ss is h = h
