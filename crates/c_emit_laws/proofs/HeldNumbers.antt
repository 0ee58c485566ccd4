-- What holds a value that is passed by its address: the object of a constant or of a temporary, or a place. It holds the value there.
use Rattle.std.specs.Prelude.{◌≡◌, ℕ, ℤ, pos, Bool, true, false, List, [], ◌∷◌, map, Option, Some, None, Ok}
use Rattle.std.proofs.Common.{refl, sym, ap, ◌∙◌, subst}
use Rattle.c_emit.specs.f_tree.Values.{Datum, IsInt, IsLog, IsText, IsSpot, Gives, given_that}
use Rattle.c_emit.specs.f_tree.Values as fortran_values
use Rattle.c_emit.specs.f_tree.Store.{Store, Whole, Number as ANumber, Truth}
use Rattle.c_emit.specs.f_tree.Facts.{Frame}
use Rattle.c_emit.specs.f_tree.Valuing.{fetched as fetched_there}
use Rattle.c_emit.specs.l_core.Pures.{Pure, Constant, Temporary, Load, Name, AllOf, ElementOf, FirstOf, Substring, Concatenated, Prefixed, Operated, Applied, Chosen, Pures, NoPure, AndPure, Temporaries, if_kept, meant, all_meant}
use Rattle.c_emit.specs.c_tree.declared.outcome.CValue.TheVariants.{Number, Pointer}
use Rattle.c_emit.specs.c_tree.Faults.{after}
use Rattle.c_emit.specs.c_tree.Access.{ToNumber}
use Rattle.c_emit.specs.c_tree.Objects.{Object, plain, as_number, fetched}
use Rattle.c_emit.specs.c_tree.Terms.{Term, Variable}
use Rattle.c_emit.specs.c_tree.Values as c_values
use Rattle.c_emit.specs.c_tree.LibraryArguments.{number_through}
use Rattle.c_emit.specs.faithful.StorageImage.{number_for}
use Rattle.c_emit.specs.c_image.World.{World}
use Rattle.c_emit.specs.c_image.Standing.{Stands}
use Rattle.c_emit.specs.c_image.Held.{whole_for, Holds}
use Rattle.c_image_laws.specs.Meanings.{Means, IsPlace}
use Rattle.c_image_laws.proofs.Keeping.{held_means}
use Rattle.c_emit.specs.Numbers.{Writing, value_term, place_term, if_number, one_more}
use Rattle.c_emit.specs.Calls.{if_held, constant_held, held_term, held_terms}
use Rattle.c_emit_laws.specs.EmittedNumbers.{IsKnown}
use Rattle.c_emit_laws.proofs.Choices.{got, some_same}
use Rattle.c_emit_laws.proofs.NumberLaws.{numbers_are_emitted, places_are_emitted}

pub record IsHeldBy (objects : List Object) (term : Term) (z : ℤ) : Type 0 where
  pub object : ℕ
  pub offset : ℕ
  pub named : IsPlace objects term object offset ToNumber
  pub holds : fetched objects (record { at = Pointer object offset; access = ToNumber }) ≡ Ok (plain (Number z))

-- integers, and terms that hold them
pub data AreIntegers : List Datum → Type 0 where
  no_integers : AreIntegers []
  more_integers : (z : ℤ) (ds : List Datum) → AreIntegers ds → AreIntegers (IsInt z ∷ ds)

pub data AreHeld (objects : List Object) : List Term → List Datum → Type 0 where
  none_held : AreHeld objects [] []
  more_held : (term : Term) (z : ℤ) (terms : List Term) (ds : List Datum) → IsHeldBy objects term z → AreHeld objects terms ds → AreHeld objects (term ∷ terms) (IsInt z ∷ ds)

pub variable_place : (objects : List Object) (k : ℕ) → IsPlace objects (Variable k ToNumber) k 0 ToNumber
unfolding c_values.seen
variable_place objects k = record { names = refl; holds = refl }

pub held_by : (objects : List Object) (term : Term) (object offset : ℕ) (d : Datum) (whole : Whole) → IsPlace objects term object offset ToNumber → Means objects term d → whole_for d ≡ Some whole → IsHeldBy objects term (number_for whole)
held_by objects term object offset d whole named means is =
    let same : means.whole ≡ whole = some_same means.whole whole (sym means.is ∙ is) in
    record { object = object; offset = offset; named = named; holds = sym named.holds ∙ means.counts ∙ ap (λ v. Ok (plain (Number (number_for v)))) same }

pub number_there : (objects : List Object) (object offset : ℕ) (z : ℤ) → fetched objects (record { at = Pointer object offset; access = ToNumber }) ≡ Ok (plain (Number z)) → number_through objects (Pointer object offset) ≡ Ok z
number_there objects object offset z holds = ap (λ r. after r λ typed. as_number typed.value) holds

module _ (μ : World) (s : Store) (objects : List Object) (w : Writing) (frame : Frame) (temporaries : Temporaries) (stands : Stands μ s objects) (known : IsKnown μ w frame temporaries)
    (constants : (z : ℤ) → w.library.has z ≡ true → Holds (μ.frozen (w.library.constant z)) (IsInt z)) where
  constant_at : (holds : Bool) (z : ℤ) (term : Term) → w.library.has z ≡ holds → if_number holds (Some (Variable (w.library.constant z) ToNumber)) ≡ Some term → IsHeldBy objects term z
  unfolding if_number
  constant_at true z term has h =
      subst (λ t. IsHeldBy objects t z) (some_same (Variable (w.library.constant z) ToNumber) term h)
      (held_by objects (Variable (w.library.constant z) ToNumber) (w.library.constant z) 0 (IsInt z) (ANumber z) (variable_place objects (w.library.constant z))
      (held_means μ s objects (w.library.constant z) (IsInt z) (ANumber z) stands (constants z has) refl) refl)
  constant_at false z term has h = absurd (cc)

  constant_holds : (e d : Datum) (whole : Whole) (term : Term) → e ≡ d → whole_for d ≡ Some whole → constant_held w e ≡ Some term → IsHeldBy objects term (number_for whole)
  unfolding constant_held if_held
  constant_holds (IsInt z) d whole term same is h =
      let found : ANumber z ≡ whole = some_same (ANumber z) whole (ap whole_for same ∙ is) in
      subst (λ v. IsHeldBy objects term (number_for v)) found (constant_at (w.library.has z) z term refl h)
  constant_holds (IsLog true) d whole term same is h =
      let found : Truth true ≡ whole = some_same (Truth true) whole (ap whole_for same ∙ is) in
      subst (λ v. IsHeldBy objects term (number_for v)) found (constant_at (w.library.has (pos 1)) (pos 1) term refl h)
  constant_holds (IsLog false) d whole term same is h =
      let found : Truth false ≡ whole = some_same (Truth false) whole (ap whole_for same ∙ is) in
      subst (λ v. IsHeldBy objects term (number_for v)) found (constant_at (w.library.has (pos 0)) (pos 0) term refl h)
  constant_holds (IsText cs) d whole term same is h = absurd (cc)
  constant_holds (IsSpot p) d whole term same is h = absurd (cc)
  constant_holds (fortran_values.IsProc y) d whole term same is h = absurd (cc)
  constant_holds (fortran_values.IsLabel l) d whole term same is h = absurd (cc)
  constant_holds fortran_values.Nothing d whole term same is h = absurd (cc)

  gives_same : (a b : Datum) → Gives a ≡ Gives b → a ≡ b
  gives_same a b h = cc

  kept_holds : (k : ℕ) (found : Option Datum) (holds : Bool) (d : Datum) (whole : Whole) (term : Term) → temporaries k ≡ found → whole_for d ≡ Some whole → if_number holds (Some (Variable (w.naming.temporary k) ToNumber)) ≡ Some term
      → if_kept found ≡ Gives d → IsHeldBy objects term (number_for whole)
  unfolding if_number if_kept
  kept_holds k (Some e) true d whole term has is h gives =
      subst (λ t. IsHeldBy objects t (number_for whole)) (some_same (Variable (w.naming.temporary k) ToNumber) term h)
      (held_by objects (Variable (w.naming.temporary k) ToNumber) (w.naming.temporary k) 0 d whole (variable_place objects (w.naming.temporary k))
      (held_means μ s objects (w.naming.temporary k) d whole stands (known.knows.kept k d (has ∙ ap Some (gives_same e d gives))) is) is)
  kept_holds k (Some e) false d whole term has is h gives = absurd (cc)
  kept_holds k None holds d whole term has is h gives = absurd (cc)

  place_holds : (p : Pure) (d : Datum) (whole : Whole) (term : Term) → whole_for d ≡ Some whole → place_term w p ≡ Some term → given_that (meant w.facts frame temporaries s p) (fetched_there s) ≡ Gives d → IsHeldBy objects term (number_for whole)
  unfolding value_term meant
  place_holds p d whole term is emitted gives =
      let spot = got (meant w.facts frame temporaries s p) (fetched_there s) d gives in
      let at = places_are_emitted μ s objects w frame temporaries p term spot.value stands known emitted spot.is in
      held_by objects term at.object at.place.first d whole at.named (numbers_are_emitted μ s objects w frame temporaries (Load p) term d stands known emitted gives) is

  pub value_holds : (p : Pure) (d : Datum) (whole : Whole) (term : Term) → meant w.facts frame temporaries s p ≡ Gives d → whole_for d ≡ Some whole → held_term w p ≡ Some term → IsHeldBy objects term (number_for whole)
  unfolding held_term meant
  value_holds (Constant e) d whole term gives is h = constant_holds e d whole term (gives_same e d gives) is h
  value_holds (Temporary k) d whole term gives is h = kept_holds k (temporaries k) (w.is_number k) d whole term refl is h gives
  value_holds (Load p) d whole term gives is h = place_holds p d whole term is h gives
  value_holds (Name y) d whole term gives is h = absurd (cc)
  value_holds (AllOf y) d whole term gives is h = absurd (cc)
  value_holds (ElementOf y ps) d whole term gives is h = absurd (cc)
  value_holds (FirstOf p) d whole term gives is h = absurd (cc)
  value_holds (Substring y p from upto) d whole term gives is h = absurd (cc)
  value_holds (Concatenated ps) d whole term gives is h = absurd (cc)
  value_holds (Prefixed op p) d whole term gives is h = absurd (cc)
  value_holds (Operated op p q) d whole term gives is h = absurd (cc)
  value_holds (Applied f ps) d whole term gives is h = absurd (cc)
  value_holds (Chosen p q r) d whole term gives is h = absurd (cc)

  -- ## Values in a row

  same_list : (a b : List Datum) → Gives a ≡ Gives b → a ≡ b
  same_list a b h = cc

  more_parts : (x : Option Term) (xs : Option (List Term)) (terms : List Term) → one_more x xs ≡ Some terms → (term : Term) × (later : List Term) × (x ≡ Some term) × (xs ≡ Some later) × (term ∷ later ≡ terms)
  unfolding one_more
  more_parts (Some term) (Some later) terms h = (term, later, refl, refl, some_same (term ∷ later) terms h)
  more_parts (Some term) None terms h = absurd (cc)
  more_parts None xs terms h = absurd (cc)

  first_holds : (p : Pure) (d : Datum) (ds later : List Datum) (term : Term) (terms : List Term) → AreIntegers ds → meant w.facts frame temporaries s p ≡ Gives d → held_term w p ≡ Some term → (AreIntegers later → AreHeld objects terms later) → d ∷ later ≡ ds
      → AreHeld objects (term ∷ terms) ds
  first_holds p d _ later term terms no_integers gives held others same = absurd (cc)
  first_holds p d _ later term terms (more_integers z ds whole_numbers) gives held others same =
      let first : d ≡ IsInt z = cc in
      let rest : later ≡ ds = cc in
      more_held term z terms ds (value_holds p (IsInt z) (ANumber z) term (gives ∙ ap Gives first) refl held) (subst (AreHeld objects terms) rest (others (subst AreIntegers (sym rest) whole_numbers)))

  -- each term holds its integer
  pub values_hold : (ps : Pures) (ds : List Datum) (terms : List Term) → AreIntegers ds → all_meant w.facts frame temporaries s ps ≡ Gives ds → held_terms w ps ≡ Some terms → AreHeld objects terms ds
  unfolding all_meant held_terms
  values_hold NoPure ds terms whole_numbers gives held =
      let none : [] ≡ ds = same_list [] ds gives in
      let nothing : [] ≡ terms = some_same [] terms held in
      subst (λ ts. AreHeld objects ts ds) nothing (subst (AreHeld objects []) none none_held)
  values_hold (AndPure p ps) ds terms whole_numbers gives held =
      let first = got (meant w.facts frame temporaries s p) (λ d. given_that (all_meant w.facts frame temporaries s ps) (λ later. Gives (d ∷ later))) ds gives in
      let rest = got (all_meant w.facts frame temporaries s ps) (λ later. Gives (first.value ∷ later)) ds first.gives in
      let parts = more_parts (held_term w p) (held_terms w ps) terms held in
      subst (λ ts. AreHeld objects ts ds) parts.4
      (first_holds p first.value ds rest.value parts.0 parts.1 whole_numbers first.is parts.2 (λ later. values_hold ps rest.value parts.1 later rest.is parts.3) (same_list (first.value ∷ rest.value) ds rest.gives))
