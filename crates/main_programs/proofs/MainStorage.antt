-- The storage of a main program, name by name.
use Rattle.std.specs.Prelude.{◌≡◌, ℕ, zero, suc, ◌+◌, ◌*◌, ◌-◌, ◌%◌, ◌≤◌, Bool, true, false, List, [], ◌∷◌, map, length, replicate, position, Option, Some, None, option_map, slice_get, bytes_eq, if◌then◌else◌}
use Rattle.std.proofs.Common.{refl, sym, ap, ◌∙◌, arith}
use Rattle.std.proofs.lemmas.List.{length-map, length-replicate}
use Rattle.std.proofs.lemmas.Slice.Eq.{bytes_eq-Decides}
use Rattle.main_file_laws.specs.run_state.Units.{Units}
use Rattle.main_file_laws.specs.f_tree.declared.names.Basic.{Basic}
use Rattle.main_file_laws.specs.f_tree.declared.names.Basic.TheVariants as basic
use Rattle.main_file_laws.specs.f_tree.declared.names.Class.TheVariants as class
use Rattle.main_file_laws.specs.f_tree.Values.{Bytes, Spot, Datum, IsProc, IsSpot, Checked, Gives, Fails, NoMeaning}
use Rattle.main_file_laws.specs.f_tree.Store.{Cell, Undefined, undefined_units}
use Rattle.main_file_laws.specs.f_tree.Facts.{Attribute, Home, Member, ProgramUnit, Facts, Frame}
use Rattle.main_file_laws.specs.f_tree.Setting.{IsIn, first_in, later_in, home_among, homes_at, unit_home}
use Rattle.main_file_laws.specs.f_tree.Valuing.{extent_of, elements_of, if_bound, if_there, stored_at, named_as, whole}
use Rattle.main_file_laws.specs.f_tree.Images.{imaged, images_from, undefined_store, image_store}
use Rattle.main_file_laws.specs.f_tree.Meaning.{world_with, start_world}
use Rattle.main_file_laws.specs.c_tree.Objects as objects_of
use Rattle.main_file_laws.specs.c_tree.Objects.{Object}
use Rattle.main_file_laws.specs.c_tree.Declarations.{Declared}
use Rattle.main_file_laws.specs.c_image.Addresses.{HasShape}
use Rattle.main_file_laws.specs.c_emit.Numbers.{is_numeric}
use Rattle.main_file_laws.specs.linking_laws.Linked.{AreDistinct, names_of}
use Rattle.main_file_laws.proofs.linking_laws.Places.{some_same, map_at, distinct_later, same_bytes, other_bytes, taken, skipped, position_step}
use Rattle.main_file_laws.proofs.Listed.{object_by}
use Rattle.main_programs.specs.MainRuns.{homes_from, sizes_of, plain_setting, plain_facts, bytes_in}

-- ## Homes

pub record IsHomeOf (x : Bytes) (n : ℕ) (ms : List Member) (h : Home) : Type 0 where
  pub place : ℕ
  pub member : Member
  pub at : slice_get ms place ≡ Some member
  pub named : member.name ≡ x
  pub is : record { sequence = n + place; first = 0 } ≡ h

home_later : (x : Bytes) (n : ℕ) (m : Member) (ms : List Member) (h : Home) → IsHomeOf x (suc n) ms h → IsHomeOf x n (m ∷ ms) h
home_later x n m ms h is = record {
  place = suc is.place;
  member = is.member;
  at = is.at;
  named = is.named;
  is = ap (λ k. record { sequence = k; first = 0 }) {x = n + suc is.place} {y = suc n + is.place} (omega arith) ∙ is.is;
}

pub home_found : (x : Bytes) (n : ℕ) (ms : List Member) (h : Home) → home_among x ms (homes_from n ms) ≡ Some h → IsHomeOf x n ms h
unfolding home_among
home_found x n [] h is = absurd (cc)
home_found x n (m ∷ ms) h is = by (bytes_eq m.name x) refl is (home_found x (suc n) ms h)
  where
    by : (t : Bool) → bytes_eq m.name x ≡ t → (if t then Some (record { sequence = n; first = 0 }) else home_among x ms (homes_from (suc n) ms)) ≡ Some h → (home_among x ms (homes_from (suc n) ms) ≡ Some h → IsHomeOf x (suc n) ms h)
        → IsHomeOf x n (m ∷ ms) h
    by true same g later = record {
      place = 0;
      member = m;
      at = refl;
      named = (bytes_eq-Decides m.name x).0 same;
      is = ap (λ k. record { sequence = k; first = 0 }) {x = n + 0} {y = n} (omega arith) ∙ some_same (record { sequence = n; first = 0 }) h g;
    }
    by false other g later = home_later x n m ms h (later g)

pub home_there : (m : Member) (n : ℕ) (ms : List Member) → IsIn m ms → (h : Home) × (home_among m.name ms (homes_from n ms) ≡ Some h)
unfolding home_among
home_there m n _ (first_in {as' = ms}) = (record { sequence = n; first = 0 }, taken (bytes_eq m.name m.name) (Some (record { sequence = n; first = 0 })) (home_among m.name ms (homes_from (suc n) ms)) (same_bytes m.name m.name refl))
home_there m n (k ∷ ms) (later_in among) = by (bytes_eq k.name m.name) (home_there m (suc n) ms among)
  where
    by : (t : Bool) → (h : Home) × (home_among m.name ms (homes_from (suc n) ms) ≡ Some h)
        → (h : Home) × ((if t then Some (record { sequence = n; first = 0 }) else home_among m.name ms (homes_from (suc n) ms)) ≡ Some h)
    by true later = (record { sequence = n; first = 0 }, refl)
    by false later = later

-- ## Places

pub named_stored : (c : Facts) (f : Frame) (x : Bytes) (a : Attribute) → a.class ≡ class.Stored → named_as c f x a ≡ stored_at a a.width (c.home x)
unfolding named_as
named_stored c f x a is = ap (λ k. elim k [
  | class.Stored ↦ stored_at a a.width (c.home x)
  | class.Dummy ↦ if_bound (f.bound x)
  | class.DummyProcedure ↦ if_bound (f.bound x)
  | class.Result ↦ if_there a.basic f.result
  | class.Procedure ↦ Gives (IsProc x)
  | class.Intrinsic ↦ Gives (IsProc x)
  | _ ↦ Fails NoMeaning
]) is

spot_in : Spot → Checked Datum → Spot
spot_in p (Gives (IsSpot q)) = q
spot_in p r = p

pub record IsStoredAt (a : Attribute) (width : Option ℕ) (home : Option Home) (p : Spot) : Type 0 where
  pub wide : ℕ
  pub at : Home
  pub width_is : width ≡ Some wide
  pub home_is : home ≡ Some at
  pub is : record { basic = a.basic; sequence = at.sequence; first = at.first; extent = extent_of (elements_of a.bounds) wide; width = wide } ≡ p

pub stored_by : (a : Attribute) (width : Option ℕ) (home : Option Home) (p : Spot) → stored_at a width home ≡ Gives (IsSpot p) → IsStoredAt a width home p
unfolding stored_at spot_in
stored_by a (Some w) (Some h) p g = record { wide = w; at = h; width_is = refl; home_is = refl; is = ap (spot_in p) g }
stored_by a (Some w) None p g = absurd (cc)
stored_by a None home p g = absurd (cc)

-- where a stored name stands
pub record IsPlaced (unit : ProgramUnit) (x : Bytes) (p : Spot) : Type 0 where
  pub place : ℕ
  pub member : Member
  pub at : slice_get unit.stored place ≡ Some member
  pub named : member.name ≡ x
  pub wide : ℕ
  pub width_is : (unit.attribute x).width ≡ Some wide
  pub is : record { basic = (unit.attribute x).basic; sequence = place; first = 0; extent = extent_of (elements_of (unit.attribute x).bounds) wide; width = wide } ≡ p

pub placed : (unit : ProgramUnit) (f : Frame) (x : Bytes) (p : Spot) → (unit.attribute x).class ≡ class.Stored → whole (plain_facts unit) f x ≡ Gives (IsSpot p) → IsPlaced unit x p
unfolding whole unit_home homes_at
placed unit f x p stored h =
    let s = stored_by (unit.attribute x) (unit.attribute x).width (unit_home (plain_setting unit) 0 unit x) p (sym (named_stored (plain_facts unit) f x (unit.attribute x) stored) ∙ h) in
    let home = home_found x 0 unit.stored s.at s.home_is in
    let here : 0 + home.place ≡ home.place = omega arith in
    record {
      place = home.place;
      member = home.member;
      at = home.at;
      named = home.named;
      wide = s.wide;
      width_is = s.width_is;
      is = (λ i. record { basic = (unit.attribute x).basic; sequence = sym here i; first = 0; extent = extent_of (elements_of (unit.attribute x).bounds) s.wide; width = s.wide })
          ∙ ap (λ (k : Home). record { basic = (unit.attribute x).basic; sequence = k.sequence; first = k.first; extent = extent_of (elements_of (unit.attribute x).bounds) s.wide; width = s.wide }) home.is ∙ s.is;
    }

pub shaped : (b : Basic) (p : Spot) → is_numeric b ≡ true → p.first % 4 ≡ 0 → p.width ≡ 4 → HasShape b p
unfolding is_numeric
shaped basic.Integer p numeric first wide = (first, wide)
shaped basic.Logical p numeric first wide = (first, wide)
shaped basic.Character p numeric first wide = absurd (cc)
shaped basic.Untyped p numeric first wide = absurd (cc)

-- ## The store

pub store_is : (unit : ProgramUnit) (units : Units) → unit.images ≡ [] → (start_world (plain_setting unit) (unit ∷ []) units).store ≡ map undefined_units (sizes_of unit.stored)
unfolding start_world world_with image_store images_from imaged undefined_store
store_is unit units none = ap (λ is. (world_with (plain_setting unit) units (imaged (plain_facts unit) (Gives (undefined_store (plain_setting unit))) is)).store) none

pub map_back : {A B : Type 0} (f : A → B) (xs : List A) (n : ℕ) (y : B) → slice_get (map f xs) n ≡ Some y → (x : A) × (slice_get xs n ≡ Some x) × (f x ≡ y)
map_back f [] n y at = absurd (cc)
map_back f (x ∷ xs) zero y at = (x, refl, some_same (f x) y at)
map_back f (x ∷ xs) (suc n) y at = map_back f xs n y at

pub all_undefined : (size place : ℕ) (cell : Cell) → slice_get (replicate size Undefined) place ≡ Some cell → Undefined ≡ cell
all_undefined zero place cell at = absurd (cc)
all_undefined (suc size) zero cell at = some_same Undefined cell at
all_undefined (suc size) (suc place) cell at = all_undefined size place cell at

-- an object of a variable has room for it
pub room_of : (count : Option ℕ) → (bytes : List (Option ℕ)) × (object_by count ≡ objects_of.Bytes bytes) × (bytes_in count ≤ length bytes)
room_of None = (Some 0 ∷ Some 0 ∷ Some 0 ∷ Some 0 ∷ [], refl, omega arith)
room_of (Some count) =
    let zeros : List ℕ = replicate (4 * count - 0) 0 in
    (map Some zeros, refl, (let long = length-map zeros Some in let many = length-replicate {A = ℕ} (4 * count - 0) 0 in omega (arith, long, many)))

-- ## Names of objects

pub position_named : (ds : List Declared) (j : ℕ) (d : Declared) → AreDistinct (names_of ds) → slice_get ds j ≡ Some d → position (λ (e : Declared). bytes_eq e.name d.name) ds ≡ Some j
position_named [] j d distinct at = absurd (cc)
position_named (e ∷ ds) zero d distinct at =
    position_step (λ (c : Declared). bytes_eq c.name d.name) e ds
    ∙ taken (bytes_eq e.name d.name) (Some 0) (option_map suc (position (λ (c : Declared). bytes_eq c.name d.name) ds)) (same_bytes e.name d.name (ap (λ (c : Declared). c.name) (some_same e d at)))
position_named (e ∷ ds) (suc j) d distinct at =
    position_step (λ (c : Declared). bytes_eq c.name d.name) e ds
    ∙ skipped (bytes_eq e.name d.name) (Some 0) (option_map suc (position (λ (c : Declared). bytes_eq c.name d.name) ds))
    (other_bytes e.name d.name (λ same. let zero_is : 0 ≡ suc j = distinct 0 (suc j) e.name refl (map_at (λ (c : Declared). c.name) ds j d at ∙ ap Some (sym same)) in let no : ⊥ = omega (arith, zero_is) in no))
    ∙ ap (option_map suc) (position_named ds j d (distinct_later e.name (names_of ds) distinct) at)
