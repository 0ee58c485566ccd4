-- The names of the list of a unit, and that a dummy argument of a unit without ENTRY is one of them.
use Rattle.std.specs.List.{list_any}
use Rattle.std.specs.Prelude.{◌≡◌, ◌≢◌, ℕ, suc, Bool, true, false, not, ◌&&◌, ◌||◌, List, [], ◌∷◌, ◌++◌, bytes_eq, if◌then◌else◌}
use Rattle.std.proofs.Common.{refl, ap, ◌∙◌, subst}
use Rattle.std.proofs.lemmas.Bool.{and_parts, or_parts, both_ways}
use Rattle.std.proofs.lemmas.Slice.Eq.{bytes_eq-Decides}
use Rattle.plain_mains.specs.f_tree.declared.names.Class.{Class}
use Rattle.plain_mains.specs.f_tree.declared.names.Class.TheVariants as class
use Rattle.plain_mains.specs.f_tree.declared.statements.Body.{Body, Entry, IfOne', more_of-Body}
use Rattle.plain_mains.specs.f_tree.declared.statements.DummyArgument.{DummyArgument}
use Rattle.plain_mains.specs.f_tree.declared.statements.DummyArgument.TheVariants as dummy
use Rattle.plain_mains.specs.f_tree.declared.statements.Stmt.{Stmt}
use Rattle.plain_mains.specs.f_tree.declared.statements.UnitKind.{UnitKind}
use Rattle.plain_mains.specs.f_tree.declared.statements.UnitKind.TheVariants as kind
use Rattle.plain_mains.specs.f_tree.declared.units.Unit.{Unit as WrittenUnit}
use Rattle.plain_mains.specs.f_tree.Folds.{layer_of}
use Rattle.plain_mains.specs.f_tree.Values.{Bytes}
use Rattle.plain_mains.specs.f_tree.Setting.{IsIn, first_in, later_in}
use Rattle.plain_mains.specs.f_tree.Uses.{is_among}
use Rattle.plain_mains.specs.f_tree.Attributes.{from_all, named_dummies, entry_dummies_in, own_class, Signs, class_by, all_dummies, signs_of, class_of, bare, with_class, with_dimensions, without_expansion, with_expansions, attribute_of, attribute_in, all_described}
use Rattle.plain_mains.specs.f_tree.Lines.{formals_of, entry_in, entries_from}
use Rattle.plain_mains.specs.faithful.Signatures.{named_formals}
use Rattle.plain_mains.proofs.linking_laws.Places.{same_bytes}
use Rattle.plain_mains.proofs.main_translation_laws.Lists.{AreApart, none_apart, one_apart}
use Rattle.plain_mains.proofs.Described.{own_described}
use Rattle.plain_mains.proofs.StoredNames.{either_class}
use Rattle.unit_translation_laws.specs.unit_forms.PlainProcedures.{each_stands_once, is_dummy_class}

-- ## The list

pub dummies_named : (ds : List DummyArgument) → named_formals (formals_of ds) ≡ named_dummies ds
unfolding named_formals formals_of named_dummies
dummies_named [] = refl
dummies_named (dummy.Named x ∷ ds) = ap (λ xs. x ∷ xs) (dummies_named ds)
dummies_named (dummy.AlternateReturn ∷ ds) = dummies_named ds

none_among : (x : Bytes) (xs : List Bytes) → list_any (bytes_eq x) xs ≡ false → (y : Bytes) → IsIn y xs → x ≢ y
none_among x [] none y o same = elim o [ ]
none_among x (z ∷ xs) none _ first_in same = both_ways (bytes_eq x z) (or_parts (bytes_eq x z) (list_any (bytes_eq x) xs) none).0 (same_bytes x z same)
none_among x (z ∷ xs) none y (later_in o) same = none_among x xs (or_parts (bytes_eq x z) (list_any (bytes_eq x) xs) none).1 y o same

denied : (b : Bool) → not b ≡ true → b ≡ false
denied true is = absurd (cc)
denied false is = refl

pub once_apart : (xs : List Bytes) → each_stands_once xs ≡ true → AreApart xs
unfolding each_stands_once
once_apart [] is = none_apart
once_apart (x ∷ xs) is =
    let parts = and_parts (not (list_any (bytes_eq x) xs)) (each_stands_once xs) is in one_apart (none_among x xs (denied (list_any (bytes_eq x) xs) parts.0)) (once_apart xs parts.1)

among_in : (x : Bytes) (xs ys : List Bytes) → ys ≡ [] → is_among x (xs ++ ys) ≡ true → IsIn x xs
unfolding is_among
among_in x [] ys none is = absurd (let no : is_among x ys ≡ false = ap (is_among x) none in cc)
among_in x (z ∷ xs) ys none is = by (bytes_eq x z) refl is (among_in x xs ys none)
  where
    by : (t : Bool) → bytes_eq x z ≡ t → (t || is_among x (xs ++ ys)) ≡ true → (is_among x (xs ++ ys) ≡ true → IsIn x xs) → IsIn x (z ∷ xs)
    by true same is later = subst (λ y. IsIn x (y ∷ xs)) ((bytes_eq-Decides x z).0 same) first_in
    by false other is later = later_in (later is)

-- ## No ENTRY has dummies

no_dummies : (i : ℕ) (b : Body) → entry_in i b ≡ [] → entry_dummies_in b ≡ []
unfolding entry_in entry_dummies_in layer_of
no_dummies i (Entry x ds) is = absurd (cc)
no_dummies i (IfOne' e s (more_of-Body b r)) is = refl
no_dummies i _ is = refl

append_none : {A : Type 0} (xs ys : List A) → xs ++ ys ≡ [] → (xs ≡ []) × (ys ≡ [])
append_none [] ys is = (refl, is)
append_none (x ∷ xs) ys is = absurd (cc)

no_more_dummies : (i : ℕ) (ss : List Stmt) → entries_from i ss ≡ [] → from_all entry_dummies_in ss ≡ []
unfolding entries_from from_all
no_more_dummies i [] is = refl
no_more_dummies i (s ∷ ss) is =
    let parts = append_none (entry_in i s.body) (entries_from (suc i) ss) is in
    ap (λ ds. ds ++ from_all entry_dummies_in ss) (no_dummies i s.body parts.0) ∙ no_more_dummies (suc i) ss parts.1

-- ## A name of the class of dummies is one of them

-- a class of what is no dummy
abbrev IsOther : Class → Type 0
IsOther k = is_dummy_class k ≡ false

by_third : (P : Class → Type 0) (a b : Bool) (k l m : Class) → b ≡ false → P k → P m → P (if a then k else if b then l else m)
by_third P true b k l m none first third = first
by_third P false true k l m none first third = absurd (cc)
by_third P false false k l m none first third = third

other_class : (own : Class) (g : Signs) → IsOther own → g.is_dummy ≡ false → IsOther (class_by own g)
unfolding class_by is_dummy_class
other_class own g other none =
    by_third IsOther g.is_constant g.is_dummy class.Constant _ _ none refl
    (either_class IsOther g.is_own_name own _ other
    (either_class IsOther g.is_array class.Stored _ refl
    (either_class IsOther (g.is_external || g.is_called) class.Procedure _ refl
    (either_class IsOther g.is_assigned_with_list class.StatementFunction _ refl
    (either_class IsOther (g.is_intrinsic || (g.has_list && g.is_known_function)) class.Intrinsic _ refl
    (either_class IsOther g.has_list class.Procedure class.Stored refl refl))))))

own_is_other : (u : WrittenUnit) (k : UnitKind) → u.kind ≡ k → IsOther (own_class u)
unfolding own_class is_dummy_class
own_is_other u kind.Main is = rw is refl
own_is_other u kind.Subroutine is = rw is refl
own_is_other u (kind.Function spec) is = rw is refl
own_is_other u kind.BlockData is = rw is refl

dummy_signed : (own : Class) (g : Signs) → IsOther own → is_dummy_class (class_by own g) ≡ true → g.is_dummy ≡ true
dummy_signed own g other is = by g.is_dummy refl
  where
    by : (t : Bool) → g.is_dummy ≡ t → g.is_dummy ≡ true
    by true same = same
    by false none = absurd (both_ways (is_dummy_class (class_by own g)) (other_class own g other none) is)

pub dummy_listed : (u : WrittenUnit) → entries_from 0 u.statements ≡ [] → (x : Bytes) → is_dummy_class (attribute_in (all_described u) x).class ≡ true → IsIn x (named_dummies u.dummies)
unfolding all_described bare is_dummy_class attribute_of with_expansions without_expansion with_dimensions with_class class_of signs_of all_dummies
dummy_listed u none x is =
    own_described (λ a. is_dummy_class a.class ≡ true → IsIn x (named_dummies u.dummies)) u _ _ _ _ x (λ unknown. absurd (cc))
    (λ known. among_in x (named_dummies u.dummies) _ (no_more_dummies 0 u.statements none) (dummy_signed (own_class u) (signs_of u _ x) (own_is_other u u.kind refl) known)) is
