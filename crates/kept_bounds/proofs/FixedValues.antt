-- The bounds that a call fixes are those of the dimensions of its dummies.
use Rattle.std.specs.Prelude.{◌≡◌, ℕ, zero, suc, Bool, true, false, List, [], ◌∷◌, bytes_eq, Option, Some, None, slice_get, if◌then◌else◌}
use Rattle.std.proofs.Common.{refl, sym, ap, ◌∙◌, subst}
use Rattle.std.proofs.lemmas.Slice.Eq.{bytes_eq-Decides}
use Rattle.l_core.specs.f_tree.Values.{Bytes, Checked, Gives, Fails, given_that}
use Rattle.l_core.specs.f_tree.Store.{Store}
use Rattle.l_core.specs.f_tree.Facts.{Dimension, Bounds, Facts, Frame}
use Rattle.l_core.specs.f_tree.Setting.{IsIn, first_in, later_in}
use Rattle.l_core.specs.f_tree.Association.{dimension_by, dimensions_by, all_dimensions_by, bounds_for}
use Rattle.kept_bounds.specs.FixedBounds.{IsOfDimension, AreOfDimensions, DimensionsAreFixed, IsGivenBounds, IsFound, NamesAreFixed}

gives_same : {A : Type 0} (a b : A) → Gives a ≡ Gives b → a ≡ b
gives_same a b h = cc

some_same : {A : Type 0} (a b : A) → Some a ≡ Some b → a ≡ b
some_same a b h = cc

none_some : {A B : Type 0} (b : B) → None ≡ Some b → A
none_some b h = absurd (cc)

record IsGot {A B : Type 0} (x : Checked A) (go : A → Checked B) (b : B) : Type 0 where
  value : A
  is : x ≡ Gives value
  goes : go value ≡ Gives b

got : {A B : Type 0} (x : Checked A) (go : A → Checked B) (b : B) → given_that x go ≡ Gives b → IsGot x go b
unfolding given_that
got (Gives a) go b h = record { value = a; is = refl; goes = h }
got (Fails act) go b h = absurd (cc)

not_here : (y x : Bytes) (names : List Bytes) → (x ≡ y → ⊥) → (IsIn x names → ⊥) → IsIn x (y ∷ names) → ⊥
not_here y _ names other is first_in = other refl
not_here y x names other is (later_in among) = is among

module _ (c : Facts) (f : Frame) (s : Store) where
  no_dimension : AreOfDimensions c f s [] []
  no_dimension = record { as_many = refl; each = λ k b at. nothing k b at }
    where
      nothing : {A : Type 0} (k : ℕ) (b : Bounds) → (let none : List Bounds = [] in slice_get none k ≡ Some b) → A
      nothing zero b h = none_some b h
      nothing (suc k) b h = none_some b h

  one_dimension : (d : Dimension) (ds : List Dimension) (b : Bounds) (bs : List Bounds) → dimension_by c f s d ≡ Gives b → AreOfDimensions c f s ds bs → AreOfDimensions c f s (d ∷ ds) (b ∷ bs)
  one_dimension d ds b bs fixed later = record { as_many = ap suc later.as_many; each = each }
    where
      each : (k : ℕ) (x : Bounds) → slice_get (b ∷ bs) k ≡ Some x → IsOfDimension c f s (d ∷ ds) k x
      each zero x at = record { dimension = d; at = refl; fixed = fixed ∙ ap Gives (some_same b x at) }
      each (suc k) x at = let one = later.each k x at in record { dimension = one.dimension; at = one.at; fixed = one.fixed }

  dimensions_fixed : (ds : List Dimension) (bs : List Bounds) → dimensions_by c f s ds ≡ Gives bs → AreOfDimensions c f s ds bs
  unfolding dimensions_by
  dimensions_fixed [] bs h = subst (AreOfDimensions c f s []) (gives_same [] bs h) no_dimension
  dimensions_fixed (d ∷ ds) bs h =
      let one = got (dimension_by c f s d) _ bs h in
      let rest = got (dimensions_by c f s ds) _ bs one.goes in
      subst (AreOfDimensions c f s (d ∷ ds)) (gives_same (one.value ∷ rest.value) bs rest.goes) (one_dimension d ds one.value rest.value one.is (dimensions_fixed ds rest.value rest.is))

  none_among : {A : Type 0} (x : Bytes) → IsIn x [] → A
  none_among x among = elim among [ ]

  found_later : (y x : Bytes) (names : List Bytes) (found : Option (List Bounds)) → bytes_eq x y ≡ false → IsFound c f s names x found → IsFound c f s (y ∷ names) x found
  found_later y x names None apart is = λ among. not_here y x names other is among
    where
      other : x ≡ y → ⊥
      other same = let no : true ≡ false = sym ((bytes_eq-Decides x y).1 same) ∙ apart in absurd (cc)
  found_later y x names (Some bs) apart is = record { among = later_in is.among; fixed = is.fixed }

  names_fixed : (names : List Bytes) (all : List (List Bounds)) → all_dimensions_by c f s names ≡ Gives all → (x : Bytes) → IsFound c f s names x (bounds_for x names all)
  unfolding all_dimensions_by bounds_for
  names_fixed [] all h x = λ among. none_among x among
  names_fixed (y ∷ names) all h x =
      let one = got (dimensions_by c f s (c.program.attribute y).dimensions) _ all h in
      let rest = got (all_dimensions_by c f s names) _ all one.goes in
      subst (λ found. IsFound c f s (y ∷ names) x (bounds_for x (y ∷ names) found)) (gives_same (one.value ∷ rest.value) all rest.goes)
      (by one.value rest.value one.is (names_fixed names rest.value rest.is x) (bytes_eq x y) refl)
    where
      by : (first : List Bounds) (later : List (List Bounds)) → dimensions_by c f s (c.program.attribute y).dimensions ≡ Gives first → IsFound c f s names x (bounds_for x names later) → (test : Bool) → bytes_eq x y ≡ test
          → IsFound c f s (y ∷ names) x (if test then Some first else bounds_for x names later)
      by first later fixed behind true same =
          let name : y ≡ x = sym ((bytes_eq-Decides x y).0 same) in
          subst (λ z. IsGivenBounds c f s (y ∷ names) z first) name (record { among = first_in; fixed = fixed })
      by first later fixed behind false apart = found_later y x names (bounds_for x names later) apart behind

pub dimensions_are_fixed : DimensionsAreFixed
dimensions_are_fixed c f s ds bs h = dimensions_fixed c f s ds bs h

pub names_are_fixed : NamesAreFixed
names_are_fixed c f s names all h x = names_fixed c f s names all h x
