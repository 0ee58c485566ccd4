-- The sites of the units of several files: one for each unit, one behind the other, and apart from the constants of every file.
use Rattle.std.specs.Prelude.{◌≡◌, ℕ, zero, suc, ◌+◌, ◌<◌, ◌≤◌, ℤ, List, [], ◌∷◌, map, length, take, Some, slice_get}
use Rattle.std.proofs.Common.{refl, ap, ◌∙◌, subst, arith}
use Rattle.std.proofs.lemmas.List.{length-append, length-map}
use Rattle.main_file_laws.specs.c_tree.Linking.{all_functions}
use Rattle.main_file_laws.specs.linking_laws.Linked.{functions_before}
use Rattle.main_file_laws.proofs.linking_laws.Places.{some_same, within, some_at, IsAt, in_first, in_second, at_one}
use Rattle.unit_sites.specs.unit_file.UnitFile.{Inventory, WrittenUnit, unit_function, object_count, first_object}
use Rattle.unit_sites.specs.UnitSites.{UnitsOfFile, files_of, all_units, inventories, contents_of, all_inventories, Site, sites_in, behind, sites_from, sites_of}

-- ## The functions of a file

pub first_behind : (first : ℕ) (vs : List Inventory) (i : ℕ) → first ≤ first_object first vs i
first_behind first [] i = omega arith
first_behind first (v ∷ vs) zero = omega arith
first_behind first (v ∷ vs) (suc i) = let later = first_behind (first + object_count v) vs i in omega (arith, later)

first_rises : (first : ℕ) (vs : List Inventory) (i j : ℕ) (v : Inventory) → i < j → slice_get vs i ≡ Some v → first_object first vs i + object_count v ≤ first_object first vs j
first_rises first [] i j v below at = absurd (cc)
first_rises first (u ∷ vs) zero zero v below at = absurd (let no : ⊥ = omega (arith, below) in no)
first_rises first (u ∷ vs) zero (suc j) v below at =
    let same = ap object_count (some_same u v at) in
    let later = first_behind (first + object_count u) vs j in
    omega (arith, same, later)
first_rises first (u ∷ vs) (suc i) zero v below at = absurd (let no : ⊥ = omega (arith, below) in no)
first_rises first (u ∷ vs) (suc i) (suc j) v below at = first_rises (first + object_count u) vs i j v (omega (arith, below)) at

pub last_behind : (first : ℕ) (vs : List Inventory) → first ≤ behind first vs
last_behind first [] = omega arith
last_behind first (v ∷ vs) = let later = last_behind (first + object_count v) vs in omega (arith, later)

-- the objects of a function end before those of all do
pub ends_before : (first : ℕ) (vs : List Inventory) (i : ℕ) (v : Inventory) → slice_get vs i ≡ Some v → first_object first vs i + object_count v ≤ behind first vs
ends_before first [] i v at = absurd (cc)
ends_before first (u ∷ vs) zero v at =
    let same = ap object_count (some_same u v at) in
    let later = last_behind (first + object_count u) vs in
    omega (arith, same, later)
ends_before first (u ∷ vs) (suc i) v at = ends_before (first + object_count u) vs i v at

pub inventory_at : (ws : List WrittenUnit) (i : ℕ) (w : WrittenUnit) → slice_get ws i ≡ Some w → slice_get (inventories ws) i ≡ Some w.inventory
inventory_at [] i w at = absurd (cc)
inventory_at (u ∷ ws) zero w at = ap (λ (z : WrittenUnit). Some z.inventory) (some_same u w at)
inventory_at (u ∷ ws) (suc i) w at = inventory_at ws i w at

-- ## The sites of a file

pub sites_in_many : (own file : ℕ) (constants : List ℤ) (function : ℕ) (vs : List Inventory) → length (sites_in own file constants function vs) ≡ length vs
sites_in_many own file constants function [] = refl
sites_in_many own file constants function (v ∷ vs) = ap suc (sites_in_many own file constants (function + object_count v) vs)

pub site_known : (own file : ℕ) (constants : List ℤ) (function : ℕ) (vs : List Inventory) (i : ℕ) (s : Site) → slice_get (sites_in own file constants function vs) i ≡ Some s →
    record { constants = constants; bases = record { own = own; file = file; function = first_object function vs i } } ≡ s
site_known own file constants function [] i s at = absurd (cc)
site_known own file constants function (v ∷ vs) zero s at = some_same _ s at
site_known own file constants function (v ∷ vs) (suc i) s at = site_known own file constants (function + object_count v) vs i s at

-- ## The sites of all files

-- the number behind the objects of a file
abbrev pub file_end : ℕ → UnitsOfFile → ℕ
file_end first f = behind (first + length f.constants) (inventories f.units)

-- the site of a unit of a file, by its place in that
abbrev pub site_in : ℕ → ℕ → UnitsOfFile → ℕ → Site
site_in own first f i = record {
  constants = f.constants;
  bases = record { own = own; file = first; function = first_object (first + length f.constants) (inventories f.units) i };
}

-- the sites of the units of files, where the program has so many functions, and the objects of the first file begin at a number
abbrev pub sites_behind : ℕ → ℕ → List UnitsOfFile → List Site
sites_behind own first fs = sites_from own first (map contents_of fs)

many : (own first : ℕ) (fs : List UnitsOfFile) → length (sites_behind own first fs) ≡ length (all_units fs)
many own first [] = refl
many own first (f ∷ fs) =
    let one = length-append (sites_in own first f.constants (first + length f.constants) (inventories f.units)) (sites_behind own (file_end first f) fs) in
    let other = length-append f.units (all_units fs) in
    let mine = sites_in_many own first f.constants (first + length f.constants) (inventories f.units) in
    let mapped = length-map f.units (λ (w : WrittenUnit). w.inventory) in
    let later = many own (file_end first f) fs in
    omega (arith, one, other, mine, mapped, later)

-- a unit stands in the first file, or in one of those behind it
data Stands (own first : ℕ) (f : UnitsOfFile) (fs : List UnitsOfFile) (j : ℕ) (s : Site) (w : WrittenUnit) : Type 0 where
  in_file : site_in own first f j ≡ s → slice_get f.units j ≡ Some w → Stands own first f fs j s w
  in_later : (i : ℕ) → j ≡ length f.units + i → slice_get (sites_behind own (file_end first f) fs) i ≡ Some s → slice_get (all_units fs) i ≡ Some w → Stands own first f fs j s w

stands : (own first : ℕ) (f : UnitsOfFile) (fs : List UnitsOfFile) (j : ℕ) (s : Site) (w : WrittenUnit) → slice_get (sites_behind own first (f ∷ fs)) j ≡ Some s → slice_get (all_units (f ∷ fs)) j ≡ Some w → Stands own first f fs j s w
stands own first f fs j s w at unit =
    by (at_one (sites_in own first f.constants (first + length f.constants) (inventories f.units)) (sites_behind own (file_end first f) fs) j s at) (at_one f.units (all_units fs) j w unit)
  where
    as_many : length (sites_in own first f.constants (first + length f.constants) (inventories f.units)) ≡ length f.units
    as_many = sites_in_many own first f.constants (first + length f.constants) (inventories f.units) ∙ length-map f.units (λ (z : WrittenUnit). z.inventory)

    by : IsAt (sites_in own first f.constants (first + length f.constants) (inventories f.units)) (sites_behind own (file_end first f) fs) j s → IsAt f.units (all_units fs) j w → Stands own first f fs j s w
    by (in_first one) (in_first two) = in_file (site_known own first f.constants (first + length f.constants) (inventories f.units) j s one) two
    by (in_second i there one) (in_second k other two) =
        let same : k ≡ i = let count = as_many in omega (arith, there, other, count) in
        in_later k other (ap (slice_get (sites_behind own (file_end first f) fs)) same ∙ one) two
    by (in_first one) (in_second k other two) =
        absurd (let below = within (sites_in own first f.constants (first + length f.constants) (inventories f.units)) j s one in let count = as_many in let no : ⊥ = omega (arith, below, count, other) in no)
    by (in_second i there one) (in_first two) = absurd (let below = within f.units j w two in let count = as_many in let no : ⊥ = omega (arith, below, count, there) in no)

-- what holds of a site
record IsBounded (own first : ℕ) (s : Site) : Type 0 where
  counted : s.bases.own ≡ own
  low : first ≤ s.bases.file
  before : s.bases.file + length s.constants ≤ s.bases.function

module _ (own : ℕ) where
  bounded_in : (first : ℕ) (f : UnitsOfFile) (i : ℕ) → IsBounded own first (site_in own first f i)
  bounded_in first f i = let before = first_behind (first + length f.constants) (inventories f.units) i in record { counted = refl; low = omega arith; before = before }

  file_rises : (first : ℕ) (f : UnitsOfFile) → first + length f.constants ≤ file_end first f
  file_rises first f = last_behind (first + length f.constants) (inventories f.units)

  bounded_later : (first : ℕ) (f : UnitsOfFile) (s : Site) → IsBounded own (file_end first f) s → IsBounded own first s
  bounded_later first f s is = let more = file_rises first f in let low = is.low in record { counted = is.counted; low = omega (arith, more, low); before = is.before }

  bounded_by : (first : ℕ) (f : UnitsOfFile) (fs : List UnitsOfFile) (j : ℕ) (s : Site) (w : WrittenUnit) → Stands own first f fs j s w →
      ((i : ℕ) → slice_get (sites_behind own (file_end first f) fs) i ≡ Some s → slice_get (all_units fs) i ≡ Some w → IsBounded own (file_end first f) s) → IsBounded own first s
  bounded_by first f fs j s w (in_file is unit) later = subst (IsBounded own first) is (bounded_in first f j)
  bounded_by first f fs j s w (in_later i there at unit) later = bounded_later first f s (later i at unit)

  bounded : (first : ℕ) (fs : List UnitsOfFile) (j : ℕ) (s : Site) (w : WrittenUnit) → slice_get (sites_behind own first fs) j ≡ Some s → slice_get (all_units fs) j ≡ Some w → IsBounded own first s
  bounded first [] j s w at unit = absurd (cc)
  bounded first (f ∷ fs) j s w at unit = bounded_by first f fs j s w (stands own first f fs j s w at unit) (λ i its another. bounded (file_end first f) fs i s w its another)

-- the objects of a function end before those of its file do
ends_in_file : (own first : ℕ) (f : UnitsOfFile) (j : ℕ) (s : Site) (w : WrittenUnit) → site_in own first f j ≡ s → slice_get f.units j ≡ Some w → s.bases.function + object_count w.inventory ≤ file_end first f
ends_in_file own first f j s w is unit =
    subst (λ (t : Site). t.bases.function + object_count w.inventory ≤ file_end first f) is (ends_before (first + length f.constants) (inventories f.units) j w.inventory (inventory_at f.units j w unit))

-- ## One behind the other

module _ (own : ℕ) where
  rises_by : (first : ℕ) (f : UnitsOfFile) (fs : List UnitsOfFile) (i j : ℕ) (s t : Site) (w u : WrittenUnit) → i < j → Stands own first f fs i s w → Stands own first f fs j t u →
      ((k m : ℕ) → k < m → slice_get (sites_behind own (file_end first f) fs) k ≡ Some s → slice_get (all_units fs) k ≡ Some w → slice_get (sites_behind own (file_end first f) fs) m ≡ Some t → slice_get (all_units fs) m ≡ Some u → s.bases.function + object_count w.inventory ≤ t.bases.function)
      → s.bases.function + object_count w.inventory ≤ t.bases.function
  rises_by first f fs i j s t w u below (in_file is unit) (in_file same other) later =
      let less = first_rises (first + length f.constants) (inventories f.units) i j w.inventory below (inventory_at f.units i w unit) in
      let one = ap (λ (z : Site). z.bases.function) is in
      let two = ap (λ (z : Site). z.bases.function) same in
      omega (arith, less, one, two)
  rises_by first f fs i j s t w u below (in_file is unit) (in_later m there at other) later =
      let ends = ends_in_file own first f i s w is unit in
      let next = bounded own (file_end first f) fs m t u at other in
      let low = next.low in
      let before = next.before in
      omega (arith, ends, low, before)
  rises_by first f fs i j s t w u below (in_later k here at unit) (in_file same other) later = absurd (let less = within f.units j u other in let no : ⊥ = omega (arith, below, here, less) in no)
  rises_by first f fs i j s t w u below (in_later k here at unit) (in_later m there other another) later = later k m (omega (arith, below, here, there)) at unit other another

  rises : (first : ℕ) (fs : List UnitsOfFile) (i j : ℕ) (s t : Site) (w u : WrittenUnit) → i < j → slice_get (sites_behind own first fs) i ≡ Some s → slice_get (all_units fs) i ≡ Some w → slice_get (sites_behind own first fs) j ≡ Some t →
      slice_get (all_units fs) j ≡ Some u → s.bases.function + object_count w.inventory ≤ t.bases.function
  rises first [] i j s t w u below at unit other another = absurd (cc)
  rises first (f ∷ fs) i j s t w u below at unit other another =
      rises_by first f fs i j s t w u below (stands own first f fs i s w at unit) (stands own first f fs j t u other another) (λ k m less one two three four. rises (file_end first f) fs k m s t w u less one two three four)

-- the constants of the file of one unit stand apart from the objects of another's function
pub data AreApart (s : Site) (w : WrittenUnit) (t : Site) : Type 0 where
  constants_first : t.bases.file + length t.constants ≤ s.bases.function → AreApart s w t
  objects_first : s.bases.function + object_count w.inventory ≤ t.bases.file → AreApart s w t

module _ (own : ℕ) where
  apart_by : (first : ℕ) (f : UnitsOfFile) (fs : List UnitsOfFile) (i j : ℕ) (s t : Site) (w u : WrittenUnit) → Stands own first f fs i s w → Stands own first f fs j t u →
      ((k m : ℕ) → slice_get (sites_behind own (file_end first f) fs) k ≡ Some s → slice_get (all_units fs) k ≡ Some w → slice_get (sites_behind own (file_end first f) fs) m ≡ Some t → slice_get (all_units fs) m ≡ Some u → AreApart s w t) → AreApart s w t
  apart_by first f fs i j s t w u (in_file is unit) (in_file same other) later =
      constants_first
      (let behind = first_behind (first + length f.constants) (inventories f.units) i in
      let one = ap (λ (z : Site). z.bases.function) is in
      let two = ap (λ (z : Site). z.bases.file + length z.constants) same in
      omega (arith, behind, one, two))
  apart_by first f fs i j s t w u (in_file is unit) (in_later m there at other) later =
      objects_first
      (let ends = ends_in_file own first f i s w is unit in
      let low = (bounded own (file_end first f) fs m t u at other).low in
      omega (arith, ends, low))
  apart_by first f fs i j s t w u (in_later k here at unit) (in_file same other) later =
      constants_first
      (let more = file_rises own first f in
      let next = bounded own (file_end first f) fs k s w at unit in
      let low = next.low in
      let before = next.before in
      let two = ap (λ (z : Site). z.bases.file + length z.constants) same in
      omega (arith, more, low, before, two))
  apart_by first f fs i j s t w u (in_later k here at unit) (in_later m there other another) later = later k m at unit other another

  apart : (first : ℕ) (fs : List UnitsOfFile) (i j : ℕ) (s t : Site) (w u : WrittenUnit) → slice_get (sites_behind own first fs) i ≡ Some s → slice_get (all_units fs) i ≡ Some w → slice_get (sites_behind own first fs) j ≡ Some t →
      slice_get (all_units fs) j ≡ Some u → AreApart s w t
  apart first [] i j s t w u at unit other another = absurd (cc)
  apart first (f ∷ fs) i j s t w u at unit other another =
      apart_by first f fs i j s t w u (stands own first f fs i s w at unit) (stands own first f fs j t u other another) (λ k m one two three four. apart (file_end first f) fs k m s t w u one two three four)

-- ## The sites of a program

own_is : (fs : List UnitsOfFile) → length (all_inventories (map contents_of fs)) ≡ length (all_units fs)
own_is [] = refl
own_is (f ∷ fs) =
    let one = length-append (inventories f.units) (all_inventories (map contents_of fs)) in
    let other = length-append f.units (all_units fs) in
    let mapped = length-map f.units (λ (w : WrittenUnit). w.inventory) in
    let later = own_is fs in
    omega (arith, one, other, mapped, later)

module _ (fs : List UnitsOfFile) where
  abbrev functions : ℕ
  functions = length (all_inventories (map contents_of fs))

  pub sites_many : length (sites_of fs) ≡ length (all_units fs)
  sites_many = many functions 0 fs

  -- each unit has a site, and each site is that of a unit
  pub site_at : (j : ℕ) (w : WrittenUnit) → slice_get (all_units fs) j ≡ Some w → (s : Site) × (slice_get (sites_of fs) j ≡ Some s)
  site_at j w unit = let below = within (all_units fs) j w unit in let count = sites_many in some_at (sites_of fs) j (omega (arith, below, count))

  pub unit_at : (j : ℕ) (s : Site) → slice_get (sites_of fs) j ≡ Some s → (w : WrittenUnit) × (slice_get (all_units fs) j ≡ Some w)
  unit_at j s at = let below = within (sites_of fs) j s at in let count = sites_many in some_at (all_units fs) j (omega (arith, below, count))

  is_bounded : (j : ℕ) (s : Site) → slice_get (sites_of fs) j ≡ Some s → IsBounded functions 0 s
  is_bounded j s at = let unit = unit_at j s at in bounded functions 0 fs j s unit.0 at unit.1

  -- the program has as many functions as the files have units
  pub owned : (j : ℕ) (s : Site) → slice_get (sites_of fs) j ≡ Some s → s.bases.own ≡ length (all_units fs)
  owned j s at = (is_bounded j s at).counted ∙ own_is fs

  -- the constants of a file stand before the objects of its functions
  pub constants_before : (j : ℕ) (s : Site) → slice_get (sites_of fs) j ≡ Some s → s.bases.file + length s.constants ≤ s.bases.function
  constants_before j s at = (is_bounded j s at).before

  pub rising : (i j : ℕ) (s t : Site) (w : WrittenUnit) → i < j → slice_get (sites_of fs) i ≡ Some s → slice_get (all_units fs) i ≡ Some w → slice_get (sites_of fs) j ≡ Some t → s.bases.function + object_count w.inventory ≤ t.bases.function
  rising i j s t w below at unit other = let another = unit_at j t other in rises functions 0 fs i j s t w another.0 below at unit other another.1

  pub constants_apart : (i j : ℕ) (s t : Site) (w : WrittenUnit) → slice_get (sites_of fs) i ≡ Some s → slice_get (all_units fs) i ≡ Some w → slice_get (sites_of fs) j ≡ Some t → AreApart s w t
  constants_apart i j s t w at unit other = let another = unit_at j t other in apart functions 0 fs i j s t w another.0 at unit other another.1

-- ## The file of a unit

-- where the objects of a file begin
abbrev pub file_start : ℕ → List UnitsOfFile → ℕ → ℕ
file_start first [] k = first
file_start first (f ∷ fs) zero = first
file_start first (f ∷ fs) (suc k) = file_start (file_end first f) fs k

-- the file of a unit, and its place in that
pub record IsPlaced (own first : ℕ) (fs : List UnitsOfFile) (j : ℕ) (s : Site) (w : WrittenUnit) : Type 0 where
  pub file : ℕ
  pub place : ℕ
  pub one : UnitsOfFile
  pub file_at : slice_get fs file ≡ Some one
  pub unit_at : slice_get one.units place ≡ Some w
  pub number : functions_before (files_of fs) file + place ≡ j
  pub site : site_in own (file_start first fs file) one place ≡ s

placed_by : (own first : ℕ) (f : UnitsOfFile) (fs : List UnitsOfFile) (j : ℕ) (s : Site) (w : WrittenUnit) → Stands own first f fs j s w →
    ((i : ℕ) → slice_get (sites_behind own (file_end first f) fs) i ≡ Some s → slice_get (all_units fs) i ≡ Some w → IsPlaced own (file_end first f) fs i s w) → IsPlaced own first (f ∷ fs) j s w
placed_by own first f fs j s w (in_file is unit) later = record { file = 0; place = j; one = f; file_at = refl; unit_at = unit; number = omega arith; site = is }
placed_by own first f fs j s w (in_later i there at unit) later =
    let behind = later i at unit in
    let mapped = length-map f.units unit_function in
    let count = length-append (map unit_function f.units) (all_functions (take behind.file (files_of fs))) in
    let number = behind.number in
    record { file = suc behind.file; place = behind.place; one = behind.one; file_at = behind.file_at; unit_at = behind.unit_at; number = omega (arith, there, mapped, count, number); site = behind.site }

pub placed : (own first : ℕ) (fs : List UnitsOfFile) (j : ℕ) (s : Site) (w : WrittenUnit) → slice_get (sites_behind own first fs) j ≡ Some s → slice_get (all_units fs) j ≡ Some w → IsPlaced own first fs j s w
placed own first [] j s w at unit = absurd (cc)
placed own first (f ∷ fs) j s w at unit = placed_by own first f fs j s w (stands own first f fs j s w at unit) (λ i its another. placed own (file_end first f) fs i s w its another)
