-- The bounds of dummy arrays that are kept are found where they are listed, and of other names none is found; what the test of adjustable bounds says.
use Rattle.std.specs.List.{list_all}
use Rattle.std.specs.Prelude.{◌≡◌, ℕ, zero, suc, ◌<◌, ◌≤◌, nat_eq, Bool, true, false, ◌&&◌, ◌||◌, List, [], ◌∷◌, length, position, Option, Some, None, is_some, option_map, slice_get, bytes_eq}
use Rattle.std.proofs.Common.{refl, sym, ap, ◌∙◌, subst, arith}
use Rattle.std.proofs.lemmas.Bool.{and_parts, eqb-true, eq-eqb}
use Rattle.std.proofs.lemmas.Slice.Eq.{bytes_eq-Decides}
use Rattle.unit_translation.specs.f_tree.Values.{Bytes}
use Rattle.unit_translation.specs.f_tree.Terms.{Term}
use Rattle.unit_translation.specs.f_tree.Facts.{Dimension, ProgramUnit}
use Rattle.unit_translation.specs.f_tree.Setting.{IsIn, first_in, later_in}
use Rattle.unit_translation.specs.l_core.Pures.{Pure}
use Rattle.unit_translation.specs.faithful.Signatures.{named_formals}
use Rattle.unit_translation.specs.procedure_emission.kept_bounds.KeptBounds.{bound_pure, is_adjustable, upper_is_pure, dimension_is_pure, only_last_assumes}
use Rattle.unit_translation.specs.unit_file.UnitFile.{BoundKind, LowerOf, SizeOf, KeptBound, is_same_kind, is_bound}
use Rattle.unit_translation.specs.UnitBounds.{formals_in, bounds_kept}
use Rattle.main_translation_laws.proofs.linking_laws.Places.{same_bytes, taken, skipped, position_step, some_same}
use Rattle.main_translation_laws.proofs.Lists.{in_at}
use Rattle.unit_translation_laws.proofs.KeptBounds.{IsBoundOf, dummy_is, place_is, kept_in, kept_there, same_kept}

-- ## Places

record IsPlaced {A : Type 0} (test : A → Bool) (xs : List A) : Type 0 where
  index : ℕ
  one : A
  place : position test xs ≡ Some index
  at : slice_get xs index ≡ Some one
  passes : test one ≡ true

first_placed : {A : Type 0} (test : A → Bool) (x : A) (xs : List A) → test x ≡ true → IsPlaced test (x ∷ xs)
first_placed test x xs is = record {
  index = 0;
  one = x;
  place = position_step test x xs ∙ taken (test x) (Some 0) (option_map suc (position test xs)) is;
  at = refl;
  passes = is;
}

later_placed : {A : Type 0} (test : A → Bool) (x : A) (xs : List A) → test x ≡ false → IsPlaced test xs → IsPlaced test (x ∷ xs)
later_placed test x xs other later = record {
  index = suc later.index;
  one = later.one;
  place = position_step test x xs ∙ skipped (test x) (Some 0) (option_map suc (position test xs)) other ∙ ap (option_map suc) later.place;
  at = later.at;
  passes = later.passes;
}

placed_by : {A : Type 0} (test : A → Bool) (x : A) (xs : List A) → IsIn x xs → test x ≡ true → IsPlaced test xs
placed_by test x _ (first_in {as' = xs}) is = first_placed test x xs is
placed_by test x _ (later_in {b = y} {as' = xs} o) is = by (test y) refl (placed_by test x xs o is)
  where
    by : (t : Bool) → test y ≡ t → IsPlaced test xs → IsPlaced test (y ∷ xs)
    by true here later = first_placed test y xs here
    by false other later = later_placed test y xs other later

none_placed : {A : Type 0} (test : A → Bool) (xs : List A) → ((x : A) → IsIn x xs → test x ≡ false) → position test xs ≡ None
none_placed test [] none = refl
none_placed test (x ∷ xs) none =
    position_step test x xs ∙ skipped (test x) (Some 0) (option_map suc (position test xs)) (none x first_in) ∙ ap (option_map suc) (none_placed test xs (λ y o. none y (later_in o)))

-- ## What is looked for

kind_same : (kind : BoundKind) → is_same_kind kind kind ≡ true
unfolding is_same_kind
kind_same LowerOf = refl
kind_same SizeOf = refl

same_kind : (one other : BoundKind) → is_same_kind one other ≡ true → one ≡ other
unfolding is_same_kind
same_kind LowerOf LowerOf h = refl
same_kind SizeOf SizeOf h = refl
same_kind LowerOf SizeOf h = absurd (cc)
same_kind SizeOf LowerOf h = absurd (cc)

is_itself : (one : KeptBound) → is_bound one.dummy one.place one.kind one ≡ true
unfolding is_bound
is_itself one = λ i. same_bytes one.dummy one.dummy refl i && (eq-eqb one.place one.place refl i && kind_same one.kind i)

record IsTold (x : Bytes) (k : ℕ) (kind : BoundKind) (one : KeptBound) : Type 0 where
  dummy : x ≡ one.dummy
  place : k ≡ one.place
  kind_is : kind ≡ one.kind

told : (x : Bytes) (k : ℕ) (kind : BoundKind) (one : KeptBound) → is_bound x k kind one ≡ true → IsTold x k kind one
unfolding is_bound
told x k kind one h =
    let parts = and_parts (bytes_eq x one.dummy) (nat_eq k one.place && is_same_kind kind one.kind) h in
    let rest = and_parts (nat_eq k one.place) (is_same_kind kind one.kind) parts.1 in
    record { dummy = (bytes_eq-Decides x one.dummy).0 parts.0; place = eqb-true k one.place rest.0; kind_is = same_kind kind one.kind rest.1 }

-- a bound of a dummy array that is adjustable is found where it is listed
pub record IsKeptThere (unit : ProgramUnit) (x : Bytes) (k : ℕ) (one : KeptBound) : Type 0 where
  pub index : ℕ
  pub found : KeptBound
  pub place : position (is_bound x k one.kind) (bounds_kept unit) ≡ Some index
  pub at : slice_get (bounds_kept unit) index ≡ Some found
  pub same : found ≡ one

pub found_there : (unit : ProgramUnit) (x : Bytes) (k : ℕ) (d : Dimension) (one : KeptBound) → IsIn x (named_formals (formals_in unit.entries)) → is_adjustable (unit.attribute x) ≡ true → slice_get (unit.attribute x).dimensions k ≡ Some d
    → IsBoundOf x k d one → IsKeptThere unit x k one
found_there unit x k d one among adjustable stands bound =
    let there = kept_there unit x k d one among adjustable stands bound in
    let dummy = dummy_is x k d one bound in
    let place = place_is x k d one bound in
    let passes : is_bound x k one.kind one ≡ true = (λ i. is_bound (sym dummy i) (sym place i) one.kind one) ∙ is_itself one in
    let p = placed_by (is_bound x k one.kind) one (bounds_kept unit) there passes in
    let t = told x k one.kind p.one p.passes in
    record {
      index = p.index;
      found = p.one;
      place = p.place;
      at = p.at;
      same = same_kept unit p.one one (in_at (bounds_kept unit) p.index p.one p.at) there (sym t.dummy ∙ sym dummy) (sym t.place ∙ sym place) (sym t.kind_is);
    }

-- and of a name that is no dummy or not adjustable none is
pub none_there : (unit : ProgramUnit) (x : Bytes) → (IsIn x (named_formals (formals_in unit.entries)) → is_adjustable (unit.attribute x) ≡ true → ⊥) → (k : ℕ) (kind : BoundKind) → position (is_bound x k kind) (bounds_kept unit) ≡ None
none_there unit x none k kind = none_placed (is_bound x k kind) (bounds_kept unit) (λ one o. by one o (is_bound x k kind one) refl)
  where
    by : (one : KeptBound) → IsIn one (bounds_kept unit) → (t : Bool) → is_bound x k kind one ≡ t → is_bound x k kind one ≡ false
    by one o false is = is
    by one o true is =
        let found = kept_in unit one o in
        let same : found.array ≡ x = sym (dummy_is found.array found.index found.dimension one found.bound) ∙ sym (told x k kind one is).dummy in
        absurd (none (subst (λ y. IsIn y (named_formals (formals_in unit.entries))) same found.among) (subst (λ y. is_adjustable (unit.attribute y) ≡ true) same found.adjustable))

-- ## Dimensions

each_pure : (ds : List Dimension) (k : ℕ) (d : Dimension) → list_all dimension_is_pure ds ≡ true → slice_get ds k ≡ Some d → dimension_is_pure d ≡ true
each_pure [] k d pure stands = absurd (cc)
each_pure (e ∷ ds) zero d pure stands = subst (λ f. dimension_is_pure f ≡ true) (some_same e d stands) (and_parts (dimension_is_pure e) (list_all dimension_is_pure ds) pure).0
each_pure (e ∷ ds) (suc k) d pure stands = each_pure ds k d (and_parts (dimension_is_pure e) (list_all dimension_is_pure ds) pure).1 stands

some_pure : (found : Option Pure) → is_some found ≡ true → (p : Pure) × (found ≡ Some p)
some_pure (Some p) is = (p, refl)
some_pure None is = absurd (cc)

pub lower_value : (ds : List Dimension) (k : ℕ) (d : Dimension) → list_all dimension_is_pure ds ≡ true → slice_get ds k ≡ Some d → (p : Pure) × (bound_pure d.lower ≡ Some p)
unfolding dimension_is_pure
lower_value ds k d pure stands = some_pure (bound_pure d.lower) (and_parts (is_some (bound_pure d.lower)) (upper_is_pure d.upper) (each_pure ds k d pure stands)).0

pub upper_value : (ds : List Dimension) (k : ℕ) (d : Dimension) (t : Term) → list_all dimension_is_pure ds ≡ true → slice_get ds k ≡ Some d → d.upper ≡ Some t → (p : Pure) × (bound_pure t ≡ Some p)
unfolding dimension_is_pure upper_is_pure
upper_value ds k d t pure stands upper =
    some_pure (bound_pure t) (subst (λ o. upper_is_pure o ≡ true) upper (and_parts (is_some (bound_pure d.lower)) (upper_is_pure d.upper) (each_pure ds k d pure stands)).1)

last_by : (upper : Option Term) (n : ℕ) → (is_some upper || nat_eq n 0) ≡ true → 1 ≤ n → (t : Term) × (upper ≡ Some t)
last_by (Some t) n is more = (t, refl)
last_by None n is more = let none : n ≡ 0 = eqb-true n 0 is in absurd (let no : ⊥ = omega (arith, none, more) in no)

pub has_upper : (ds : List Dimension) (k : ℕ) (d : Dimension) → only_last_assumes ds ≡ true → slice_get ds k ≡ Some d → suc k < length ds → (t : Term) × (d.upper ≡ Some t)
unfolding only_last_assumes
has_upper [] k d is stands more = absurd (cc)
has_upper (e ∷ ds) zero d is stands more =
    subst (λ (f : Dimension). (t : Term) × (f.upper ≡ Some t)) (some_same e d stands) (last_by e.upper (length ds) (and_parts (is_some e.upper || nat_eq (length ds) 0) (only_last_assumes ds) is).0 (omega (arith, more)))
has_upper (e ∷ ds) (suc k) d is stands more = has_upper ds k d (and_parts (is_some e.upper || nat_eq (length ds) 0) (only_last_assumes ds) is).1 stands (omega (arith, more))
