-- The sequences of units with storage of their own, and the objects in which they stand.
use Rattle.std.specs.Prelude.{◌≡◌, ℕ, zero, suc, ◌+◌, ◌<◌, nat_lt, Bool, true, false, List, [], ◌∷◌, length, Some, slice_get}
use Rattle.std.proofs.Common.{refl, sym, ap, ◌∙◌, arith}
use Rattle.std.proofs.lemmas.Bool.{ltb-true, ltb-false}
use Rattle.emitted_procedures.specs.f_tree.Facts.{Member, ProgramUnit}
use Rattle.unit_file_laws.proofs.linking_laws.Places.{some_same, get_front, get_back, IsAt, in_first, in_second, at_one}
use Rattle.unit_forms.specs.plain_forms.OwnStorage.{homes_from}
use Rattle.unit_file_laws.specs.unit_file.UnitFile.{Variable, WrittenUnit, object_count}
use Rattle.unit_file_laws.specs.unit_sites.UnitSites.{UnitsOfFile, all_units, Site, sites_of}
use Rattle.unit_file_laws.proofs.unit_places.Sites.{rising}
use Rattle.unit_programs.specs.OwnStorage.{own_homes, numbered, variable_objects}
use Rattle.unit_programs.proofs.Pieces.{before}

abbrev pub stored_of : ProgramUnit → List Member
stored_of u = u.stored

abbrev pub variables_of : WrittenUnit → List Variable
variables_of w = w.inventory.variables

-- ## Homes

pub homes_there : (n : ℕ) (us : List ProgramUnit) (j m : ℕ) (u : ProgramUnit) → slice_get us j ≡ Some u → m ≡ n + before stored_of us j → slice_get (own_homes n us) j ≡ Some (homes_from m u.stored)
homes_there n [] j m u at is = absurd (cc)
homes_there n (z ∷ us) zero m u at is = (λ i. Some (homes_from (here (sym is) i) (some_same z u at i).stored))
  where
    here : n + 0 ≡ m → n ≡ m
    here h = omega (arith, h)
homes_there n (z ∷ us) (suc j) m u at is = homes_there (n + length z.stored) us j m u at (omega (arith, is))

-- ## Objects of variables

numbered_there : (first n i : ℕ) → i < n → slice_get (numbered first n) i ≡ Some (first + i)
numbered_there first zero i below = absurd (let no : ⊥ = omega (arith, below) in no)
numbered_there first (suc n) zero below = ap Some {x = first} {y = first + 0} (omega arith)
numbered_there first (suc n) (suc i) below = numbered_there (suc first) n i (omega (arith, below)) ∙ ap Some {x = suc first + i} {y = first + suc i} (omega arith)

numbered_back : (first n i object : ℕ) → slice_get (numbered first n) i ≡ Some object → (i < n) × (object ≡ first + i)
numbered_back first zero i object at = absurd (cc)
numbered_back first (suc n) zero object at = let same = some_same first object at in (omega arith, omega (arith, same))
numbered_back first (suc n) (suc i) object at = let later = numbered_back (suc first) n i object at in let below = later.0 in let is = later.1 in (omega (arith, below), omega (arith, is))

numbered_many : (first n : ℕ) → length (numbered first n) ≡ n
numbered_many first zero = refl
numbered_many first (suc n) = ap suc (numbered_many (suc first) n)

pub variable_there : (ss : List Site) (ws : List WrittenUnit) (j : ℕ) (s : Site) (w : WrittenUnit) (i : ℕ) → slice_get ss j ≡ Some s → slice_get ws j ≡ Some w → i < length w.inventory.variables
    → slice_get (variable_objects ss ws) (before variables_of ws j + i) ≡ Some (s.bases.function + i)
variable_there [] ws j s w i here at below = absurd (cc)
variable_there (t ∷ ss) [] j s w i here at below = absurd (cc)
variable_there (t ∷ ss) (x ∷ ws) zero s w i here at below =
    let many = ap (λ (a : WrittenUnit). length a.inventory.variables) (some_same x w at) in
    ap (slice_get (variable_objects (t ∷ ss) (x ∷ ws))) {x = 0 + i} {y = i} (omega arith)
    ∙ get_front (numbered t.bases.function (length x.inventory.variables)) (variable_objects ss ws) i (t.bases.function + i) (numbered_there t.bases.function (length x.inventory.variables) i (omega (arith, below, many)))
    ∙ ap (λ (a : Site). Some (a.bases.function + i)) (some_same t s here)
variable_there (t ∷ ss) (x ∷ ws) (suc j) s w i here at below =
    let many = numbered_many t.bases.function (length x.inventory.variables) in
    get_back (numbered t.bases.function (length x.inventory.variables)) (variable_objects ss ws) (length x.inventory.variables + before variables_of ws j + i) (before variables_of ws j + i) (s.bases.function + i) (omega (arith, many))
    (variable_there ss ws j s w i here at below)

-- the variable of an object
pub record IsOfVariable (ss : List Site) (ws : List WrittenUnit) (n object : ℕ) : Type 0 where
  pub piece : ℕ
  pub site : Site
  pub here : slice_get ss piece ≡ Some site
  pub whole : WrittenUnit
  pub at : slice_get ws piece ≡ Some whole
  pub place : ℕ
  pub below : place < length whole.inventory.variables
  pub is : n ≡ before variables_of ws piece + place
  pub stands : object ≡ site.bases.function + place

pub variable_back : (ss : List Site) (ws : List WrittenUnit) (n object : ℕ) → slice_get (variable_objects ss ws) n ≡ Some object → IsOfVariable ss ws n object
variable_back [] ws n object h = absurd (cc)
variable_back (s ∷ ss) [] n object h = absurd (cc)
variable_back (s ∷ ss) (w ∷ ws) n object h = by (at_one (numbered s.bases.function (length w.inventory.variables)) (variable_objects ss ws) n object h) (λ m at. variable_back ss ws m object at)
  where
    by : IsAt (numbered s.bases.function (length w.inventory.variables)) (variable_objects ss ws) n object → ((m : ℕ) → slice_get (variable_objects ss ws) m ≡ Some object → IsOfVariable ss ws m object) → IsOfVariable (s ∷ ss) (w ∷ ws) n object
    by (in_first at) back =
        let found = numbered_back s.bases.function (length w.inventory.variables) n object at in
        record { piece = 0; site = s; here = refl; whole = w; at = refl; place = n; below = found.0; is = omega arith; stands = found.1 }
    by (in_second m apart at) back =
        let later = back m at in
        let there = later.is in
        let many = numbered_many s.bases.function (length w.inventory.variables) in
        record { piece = suc later.piece; site = later.site; here = later.here; whole = later.whole; at = later.at; place = later.place; below = later.below; is = omega (arith, apart, there, many); stands = later.stands }

-- ## Objects of functions

-- an object belongs to one function
pub same_unit : (fs : List UnitsOfFile) (i j : ℕ) (s t : Site) (w x : WrittenUnit) (a b : ℕ) → slice_get (sites_of fs) i ≡ Some s → slice_get (all_units fs) i ≡ Some w → slice_get (sites_of fs) j ≡ Some t → slice_get (all_units fs) j ≡ Some x
    → a < object_count w.inventory → b < object_count x.inventory → s.bases.function + a ≡ t.bases.function + b → i ≡ j
same_unit fs i j s t w x a b here at there other below below' same = by (nat_lt i j) refl (nat_lt j i) refl
  where
    by : (p : Bool) → nat_lt i j ≡ p → (q : Bool) → nat_lt j i ≡ q → i ≡ j
    by true less q h = let before' = rising fs i j s t w (ltb-true i j less) here at there in absurd (let no : ⊥ = omega (arith, before', below, same) in no)
    by false more true less = let before' = rising fs j i t s x (ltb-true j i less) there other here in absurd (let no : ⊥ = omega (arith, before', below', same) in no)
    by false more false more' = let one = ltb-false i j more in let two = ltb-false j i more' in omega (arith, one, two)
