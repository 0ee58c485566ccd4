-- The storage of the units stands in the objects of the files before the first step, each name in its object.
use Rattle.std.specs.List.{cons_option, list_any, flat_map}
use Rattle.std.specs.Option.{option_flatten}
use Rattle.std.specs.Prelude.{◌≡◌, ℕ, suc, ◌+◌, ◌-◌, ◌<◌, ◌≤◌, nat_eq, true, false, ◌&&◌, ◌||◌, List, [], ◌∷◌, ◌++◌, map, length, position, Option, Some, None, is_none, option_map, option_and_then, unwrap_or, slice_get, bytes_eq, find, filter_map, if◌then◌else◌}
use Rattle.std.proofs.Common.{refl, sym, ap, ◌∙◌, subst, arith}
use Rattle.std.proofs.lemmas.List.{length-map, length-replicate}
use Rattle.emitted_procedures.specs.run_state.Units.{Units}
use Rattle.emitted_procedures.specs.f_tree.declared.names.Class.TheVariants as class
use Rattle.emitted_procedures.specs.f_tree.CNames.{variable_name}
use Rattle.emitted_procedures.specs.f_tree.Values.{Bytes, Spot, IsSpot, Checked, Gives}
use Rattle.emitted_procedures.specs.f_tree.Store.{Store, Sequence, Cell, Undefined, undefined_units}
use Rattle.emitted_procedures.specs.f_tree.Facts.{Home, Member, Block, Tie, ProgramUnit, Frame}
use Rattle.emitted_procedures.specs.f_tree.Setting.{Setting, HasUnit, IsIn, home_among, homes_at, unit_home}
use Rattle.emitted_procedures.specs.f_tree.Valuing.{elements_of, extent_of, whole}
use Rattle.emitted_procedures.specs.f_tree.Images.{imaged, images_from, undefined_store, image_store}
use Rattle.emitted_procedures.specs.f_tree.Meaning.{facts_at, world_with, start_world}
use Rattle.emitted_procedures.specs.c_tree.Objects.{Object}
use Rattle.emitted_procedures.specs.c_tree.Declarations.{Declared, declared_statics}
use Rattle.emitted_procedures.specs.c_tree.FlatForm.{whole_body}
use Rattle.emitted_procedures.specs.c_tree.Linking as linking
use Rattle.emitted_procedures.specs.faithful.StorageImage.{byte_for, cell_of, is_sequence, block_from, block_of, is_tied, class_of, each_once, classes, first_lasting, static_object, static_object_at, local_object, object_of, object_for, StandsInItsObject, NamesStand}
use Rattle.emitted_procedures.specs.c_image.World.{World, IsIdle}
use Rattle.emitted_procedures.specs.c_image.Standing.{Stands, IsHoused, IsInRange, HasRoom}
use Rattle.emitted_procedures.specs.c_image.Addresses.{Reaches, IsSound, Alone}
use Rattle.emitted_procedures.specs.c_emit.Numbers.{is_numeric}
use Rattle.unit_file_laws.specs.linking_laws.Linked.{AreDistinct}
use Rattle.unit_file_laws.proofs.linking_laws.Places.{some_same, map_at, within, some_at}
use Rattle.unit_file_laws.proofs.main_file_laws.Listed.{declared_variable}
use Rattle.main_programs.proofs.MainStorage.{home_found, home_there, named_stored, stored_by, shaped, map_back, all_undefined, room_of, position_named}
use Rattle.unit_forms.specs.plain_forms.OwnStorage.{homes_from, sizes_of}
use Rattle.unit_file_laws.specs.unit_file.UnitFile.{Variable, Inventory, WrittenUnit, unit_function, unit_locals, object_count, frame_count, first_parameter, place_or_none, place_of_variable}
use Rattle.unit_file_laws.specs.unit_sites.UnitSites.{UnitsOfFile, files_of, all_units, Site, sites_of}
use Rattle.unit_file_laws.specs.unit_places.UnitPlaces.{linked_unit, variable_object}
use Rattle.unit_file_laws.proofs.unit_places.Declared.{unit_strings, unit_statics_count, unit_lasting_names, unit_variable}
use Rattle.unit_programs.specs.OwnStorage.{own_setting, bytes_in, held_in, first_world}
use Rattle.unit_programs.specs.TranslatedUnits.{Rendering, units_of, facts_of, IsTranslatedSet}
use Rattle.unit_programs.proofs.Pieces.{before, flat_there, flat_back, as_long}
use Rattle.unit_programs.proofs.Sequences.{stored_of, variables_of, homes_there, variable_there, variable_back, same_unit}
use Rattle.unit_programs.proofs.Held.{not_held, frame_blank, held_there}
use Rattle.unit_programs.proofs.Objects.{unit_at, of_unit, of_written, unit_written, site_at, places, function_stands, unit_named}

-- ## Without COMMON, EQUIVALENCE and DATA

images_none : (g : Setting) (k : ℕ) (s : Checked Store) (us : List ProgramUnit) → ((i : ℕ) (u : ProgramUnit) → slice_get us i ≡ Some u → u.images ≡ []) → images_from g k s us ≡ s
unfolding images_from imaged
images_none g k s [] none = refl
images_none g k s (u ∷ us) none =
    ap (λ is. images_from g (suc k) (imaged (record { program = u; home = unit_home g k u }) s is) us) (none 0 u refl) ∙ images_none g (suc k) s us (λ i v at. none (suc i) v at)

no_block : (k : ℕ) (us : List ProgramUnit) (g : Setting) (sequence : ℕ) → ((i : ℕ) (u : ProgramUnit) → slice_get us i ≡ Some u → u.blocks ≡ []) → block_from k us g sequence ≡ None
unfolding block_from
no_block k [] g sequence none = refl
no_block k (u ∷ us) g sequence none =
    ap (λ bs. linking.or_else (find (λ (block : Block). list_any (λ (member : Member). is_sequence sequence (unit_home g k u member.name)) block.members) bs) (block_from (suc k) us g sequence)) (none 0 u refl)
    ∙ no_block (suc k) us g sequence (λ i v at. none (suc i) v at)

none_filtered : {A : Type 0} (f : A → Option ℕ) (xs : List A) → ((x : A) → f x ≡ None) → filter_map f xs ≡ []
none_filtered f [] none = refl
none_filtered f (x ∷ xs) none = ap (λ o. cons_option o (filter_map f xs)) (none x) ∙ none_filtered f xs none

-- the part behind a home that is none
home_part : (x : Bytes) (ms : List Member) (found : Option (List Home)) (hs : List Home) → found ≡ Some hs → home_among x ms (homes_at found) ≡ home_among x ms hs
unfolding homes_at
home_part x ms found hs is = ap (λ o. home_among x ms (homes_at o)) is

module _ (fs : List UnitsOfFile) (rs : List Rendering) (is : IsTranslatedSet fs rs) where
  abbrev ws : List WrittenUnit
  ws = all_units fs

  abbrev ss : List Site
  ss = sites_of fs

  abbrev us : List ProgramUnit
  us = units_of rs

  abbrev g : Setting
  g = own_setting us

  abbrev world : World
  world = first_world fs g

  abbrev sizes_in : ProgramUnit → List ℕ
  sizes_in u = sizes_of u.stored

  -- ## Sequences and members

  same_rendering : (j : ℕ) (r q : Rendering) → slice_get rs j ≡ Some r → slice_get rs j ≡ Some q → r ≡ q
  same_rendering j r q one other = some_same r q (sym one ∙ other)

  as_high : length us ≡ length ws
  as_high = length-map rs (λ (r : Rendering). r.unit) ∙ sym (length-map rs (λ (r : Rendering). r.written)) ∙ ap length is.written

  sequences_same : (j : ℕ) → before stored_of us j ≡ before variables_of ws j
  sequences_same j = as_long stored_of variables_of us ws j as_many as_high
    where
      as_many : (i : ℕ) (u : ProgramUnit) (w : WrittenUnit) → slice_get us i ≡ Some u → slice_get ws i ≡ Some w → length u.stored ≡ length w.inventory.variables
      as_many i u w at other =
          let r = of_unit fs rs is i u at in
          let q = of_written fs rs is i w other in
          let same = same_rendering i r.0 q.0 r.1 q.1 in
          ap (λ (z : ProgramUnit). length z.stored) (sym r.2) ∙ sym (is.units i r.0 r.1).storage.as_many ∙ ap (λ (z : Rendering). length z.written.inventory.variables) same ∙ ap (λ (z : WrittenUnit). length z.inventory.variables) q.2

  sizes_same : (j : ℕ) → before sizes_in us j ≡ before stored_of us j
  sizes_same j = as_long sizes_in stored_of us us j (λ i u v at other. length-map u.stored (λ (m : Member). m.size) ∙ ap (λ (z : ProgramUnit). length z.stored) (some_same u v (sym at ∙ other))) refl

  pub home_there_at : (j : ℕ) (r : Rendering) → slice_get rs j ≡ Some r → (i : ℕ) → i < length r.written.inventory.variables → world.homes (before stored_of us j + i) ≡ Some (r.site.bases.function + i)
  home_there_at j r at i below =
      ap (λ n. world.homes (n + i)) (sequences_same j) ∙ variable_there ss ws j r.site r.written i (site_at fs rs is j r at) (unit_written fs rs is j r at) below

  -- a sequence is that of a stored name
  pub record IsMemberAt (n : ℕ) : Type 0 where
    pub unit : ℕ
    pub rendering : Rendering
    pub has : slice_get rs unit ≡ Some rendering
    pub place : ℕ
    pub member : Member
    pub at : slice_get rendering.unit.stored place ≡ Some member
    pub there : n ≡ before stored_of us unit + place
    pub one : Variable
    pub variable : slice_get rendering.written.inventory.variables place ≡ Some one
    pub size : member.size ≡ bytes_in one.count

  member_by : (n j : ℕ) (r : Rendering) (i : ℕ) (m : Member) → slice_get rs j ≡ Some r → slice_get r.unit.stored i ≡ Some m → n ≡ before stored_of us j + i → IsMemberAt n
  member_by n j r i m has at there =
      let l = (is.units j r has).storage.listed i m at in
      record { unit = j; rendering = r; has = has; place = i; member = m; at = at; there = there; one = l.0; variable = l.1; size = l.3 }

  -- by its size
  sized : (n size : ℕ) → slice_get g.sizes n ≡ Some size → (m : IsMemberAt n) × (m.member.size ≡ size)
  unfolding member_by
  sized n size at =
      let f = flat_back sizes_in us n size at in
      let r = of_unit fs rs is f.piece f.whole f.at in
      let m = map_back (λ (k : Member). k.size) f.whole.stored f.place size f.got in
      let same = sizes_same f.piece in
      let there = f.is in
      (member_by n f.piece r.0 f.place m.0 r.1 (ap (λ (u : ProgramUnit). slice_get u.stored f.place) r.2 ∙ m.1) (omega (arith, there, same)), m.2)

  size_is : (n : ℕ) (m : IsMemberAt n) → slice_get g.sizes n ≡ Some m.member.size
  size_is n m =
      let same = sizes_same m.unit in
      let there = m.there in
      ap (slice_get g.sizes) {x = n} {y = before sizes_in us m.unit + m.place} (omega (arith, same, there))
      ∙ flat_there sizes_in us m.unit m.rendering.unit m.place m.member.size (unit_at fs rs is m.unit m.rendering m.has) (map_at (λ (k : Member). k.size) m.rendering.unit.stored m.place m.member m.at)

  pub world_size : (n : ℕ) (m : IsMemberAt n) → world.size n ≡ m.member.size
  world_size n m = ap (λ found. unwrap_or found 0) (size_is n m)

  pub below_height : (n : ℕ) (m : IsMemberAt n) → n < length g.sizes
  below_height n m = within g.sizes n m.member.size (size_is n m)

  member_below : (n : ℕ) → n < length g.sizes → IsMemberAt n
  member_below n below = let found = some_at g.sizes n below in (sized n found.0 found.1).0

  -- ## The world is sane

  variables_few : (w : WrittenUnit) (i : ℕ) → i < length w.inventory.variables → i < object_count w.inventory
  variables_few w i below = omega (arith, below)

  alone_in : (n m object : ℕ) → world.homes n ≡ Some object → world.homes m ≡ Some object → m ≡ n
  alone_in n m object one other =
      let a = variable_back ss ws n object one in
      let b = variable_back ss ws m object other in
      let left = a.stands in
      let right = b.stands in
      let same = same_unit fs a.piece b.piece a.site b.site a.whole b.whole a.place b.place a.here a.at b.here b.at (variables_few a.whole a.place a.below) (variables_few b.whole b.place b.below) (omega (arith, left, right)) in
      let bases = ap (λ (s : Site). s.bases.function) (some_same a.site b.site (sym a.here ∙ ap (slice_get ss) same ∙ b.here)) in
      let sequences = ap (before variables_of ws) same in
      let here = a.is in
      let there = b.is in
      omega (arith, left, right, bases, sequences, here, there)

  free_of : (n object : ℕ) → world.homes n ≡ Some object → world.frozen object ≡ None
  free_of n object home =
      let a = variable_back ss ws n object home in
      ap (λ k. option_flatten (slice_get (flat_map held_in fs) k)) a.stands ∙ not_held fs a.piece a.site a.whole a.here a.at a.place a.below

  small_at : (n : ℕ) → n < length g.sizes → world.size n < 2147483648
  small_at n below =
      let m = member_below n below in
      let few = (is.units m.unit m.rendering m.has).storage.small m.place m.member m.at in
      let same = world_size n m in
      omega (arith, few, same)

  -- ## The store

  undefined_in : (size place : ℕ) (cell : Cell) → slice_get (undefined_units size).cells place ≡ Some cell → Undefined ≡ cell
  unfolding undefined_units
  undefined_in size place cell at = all_undefined size place cell at

  units_long : (size : ℕ) → length (undefined_units size).cells ≡ size
  unfolding undefined_units
  units_long size = length-replicate size Undefined

  units_open : (size : ℕ) → (undefined_units size).read_only ≡ false
  unfolding undefined_units
  units_open size = refl

  room_by : (count : Option ℕ) (size : ℕ) (found : Option Object) → size ≡ bytes_in count → found ≡ Some (variable_object count) → HasRoom size found
  room_by None size found worth at = let room = room_of None in let fits = room.2 in record { bytes = room.0; is = at ∙ ap Some room.1; room = omega (arith, fits, worth) }
  room_by (Some count) size found worth at = let room = room_of (Some count) in let fits = room.2 in record { bytes = room.0; is = at ∙ ap Some room.1; room = omega (arith, fits, worth) }

  room_at : (n object : ℕ) (m : IsMemberAt n) → world.homes n ≡ Some object → HasRoom (length (undefined_units m.member.size).cells) (slice_get (linking.program (files_of fs)).objects object)
  room_at n object m home =
      let below = within m.rendering.written.inventory.variables m.place m.one m.variable in
      let there : m.rendering.site.bases.function + m.place ≡ object =
      some_same (m.rendering.site.bases.function + m.place) object (sym (ap world.homes m.there ∙ home_there_at m.unit m.rendering m.has m.place below) ∙ home) in
      room_by m.one.count (length (undefined_units m.member.size).cells) (slice_get (linking.program (files_of fs)).objects object) (units_long m.member.size ∙ m.size)
      (ap (slice_get (linking.program (files_of fs)).objects) (sym there) ∙ (function_stands fs rs is m.unit m.rendering m.has).variable m.place m.one m.variable)

  housed_by : (n : ℕ) (m : IsMemberAt n) → IsHoused world (linking.program (files_of fs)).objects n (undefined_units m.member.size)
  housed_by n m = record {
    sized = units_long m.member.size ∙ sym (world_size n m);
    locked = units_open m.member.size;
    in_range = λ place cell at. subst IsInRange (undefined_in m.member.size place cell at) tt;
    room = λ object home. room_at n object m home;
  }

  housed : (n : ℕ) (q : Sequence) → slice_get (map undefined_units g.sizes) n ≡ Some q → IsHoused world (linking.program (files_of fs)).objects n q
  housed n q at =
      let size = map_back undefined_units g.sizes n q at in
      let m = sized n size.0 size.1 in
      subst (IsHoused world (linking.program (files_of fs)).objects n) (ap undefined_units m.1 ∙ size.2) (housed_by n m.0)

  no_byte : {A : Type 0} (size place byte : ℕ) (cell : Cell) → slice_get (undefined_units size).cells place ≡ Some cell → byte_for cell ≡ Some byte → A
  unfolding byte_for
  no_byte size place byte cell at gives = let none : None ≡ Some byte = ap byte_for (undefined_in size place cell at) ∙ gives in absurd (cc)

  nothing_stands : {A : Type 0} (n place byte : ℕ) (cell : Cell) (found : Option Sequence) → slice_get (map undefined_units g.sizes) n ≡ found → cell_of found place ≡ Some cell → byte_for cell ≡ Some byte → A
  nothing_stands n place byte cell None at there gives = absurd (cc)
  nothing_stands n place byte cell (Some q) at there gives =
      let size = map_back undefined_units g.sizes n q at in
      no_byte size.0 place byte cell (ap (λ (s : Sequence). slice_get s.cells place) size.2 ∙ there) gives

  stands_undefined : Stands world (map undefined_units g.sizes) (linking.program (files_of fs)).objects
  stands_undefined = record {
    sane = record {
      small = small_at;
      alone = λ n m object below below' fixed one other. alone_in n m object one other;
      free = λ n object below fixed one. free_of n object one;
    };
    as_high = length-map g.sizes undefined_units;
    housed = housed;
    units = λ n number place byte cell home at gives. nothing_stands n place byte cell (slice_get (map undefined_units g.sizes) n) refl at gives;
    held = held_there fs (places fs rs is);
  }

  store_is : (units : Units) → (start_world g us units).store ≡ map undefined_units g.sizes
  unfolding start_world world_with image_store undefined_store
  store_is units =
      ap (λ s. (world_with g units s).store)
      (images_none g 0 (Gives (undefined_store g)) us (λ i u at. let r = of_unit fs rs is i u at in ap (λ (z : ProgramUnit). z.images) (sym r.2) ∙ (is.units i r.0 r.1).storage.images))

  pub stands : (units : Units) → Stands world (start_world g us units).store (linking.program (files_of fs)).objects
  stands units = subst (λ s. Stands world s (linking.program (files_of fs)).objects) (sym (store_is units)) stands_undefined

  -- ## Places of names

  pub program_is : (j : ℕ) (r : Rendering) → slice_get rs j ≡ Some r → r.text.facts.program ≡ r.unit
  unfolding facts_at
  program_is j r at = ap (λ c. c.program) (is.units j r at).facts

  homes_are : (j : ℕ) (r : Rendering) → slice_get rs j ≡ Some r → slice_get g.homes j ≡ Some (homes_from (before stored_of us j) r.unit.stored)
  homes_are j r at = homes_there 0 us j (before stored_of us j) r.unit (unit_at fs rs is j r at) (omega arith)

  home_is : (j : ℕ) (r : Rendering) → slice_get rs j ≡ Some r → (x : Bytes) → unit_home g j r.unit x ≡ home_among x r.unit.stored (homes_from (before stored_of us j) r.unit.stored)
  unfolding unit_home
  home_is j r at x = home_part x r.unit.stored (slice_get g.homes j) (homes_from (before stored_of us j) r.unit.stored) (homes_are j r at)

  -- where a stored name of a unit stands
  pub record IsPlaced (j : ℕ) (r : Rendering) (x : Bytes) (p : Spot) : Type 0 where
    pub place : ℕ
    pub member : Member
    pub at : slice_get r.unit.stored place ≡ Some member
    pub named : member.name ≡ x
    pub wide : ℕ
    pub width_is : (r.unit.attribute x).width ≡ Some wide
    pub spot : record { basic = (r.unit.attribute x).basic; sequence = before stored_of us j + place; first = 0; extent = extent_of (elements_of (r.unit.attribute x).bounds) wide; width = wide } ≡ p

  placed : (j : ℕ) (r : Rendering) → slice_get rs j ≡ Some r → (f : Frame) (x : Bytes) (p : Spot) → (r.unit.attribute x).class ≡ class.Stored → whole (facts_of rs j r) f x ≡ Gives (IsSpot p) → IsPlaced j r x p
  unfolding whole facts_at
  placed j r at f x p stored h =
      let s = stored_by (r.unit.attribute x) (r.unit.attribute x).width (unit_home g j r.unit x) p (sym (named_stored (facts_of rs j r) f x (r.unit.attribute x) stored) ∙ h) in
      let home = home_found x (before stored_of us j) r.unit.stored s.at (sym (home_is j r at x) ∙ s.home_is) in
      record {
        place = home.place;
        member = home.member;
        at = home.at;
        named = home.named;
        wide = s.wide;
        width_is = s.width_is;
        spot = ap (λ (k : Home). record { basic = (r.unit.attribute x).basic; sequence = k.sequence; first = k.first; extent = extent_of (elements_of (r.unit.attribute x).bounds) s.wide; width = s.wide }) home.is ∙ s.is;
      }

  sound_at : (j : ℕ) (r : Rendering) → slice_get rs j ≡ Some r → (x : Bytes) (p : Spot) → IsPlaced j r x p → IsSound world p
  unfolding member_by
  sound_at j r at x p pl =
      let storage = (is.units j r at).storage in
      let widths = subst (λ y. (r.unit.attribute y).width ≡ Some 4) pl.named (storage.wide pl.place pl.member pl.at) in
      let four : pl.wide ≡ 4 = some_same pl.wide 4 (sym pl.width_is ∙ widths) in
      let fits = subst (λ y. extent_of (elements_of (r.unit.attribute y).bounds) 4 ≤ pl.member.size) pl.named (storage.within pl.place pl.member pl.at) in
      let sized' = worth j r at pl in
      let below = under j r at pl in
      let numeric = subst (λ y. is_numeric (r.unit.attribute y).basic ≡ true) pl.named (storage.numbers pl.place pl.member pl.at) in
      subst (IsSound world) pl.spot (record {
        there = below;
        shaped = shaped (r.unit.attribute x).basic _ numeric refl four;
        inside = subst (λ w. 0 + extent_of (elements_of (r.unit.attribute x).bounds) w ≤ world.size (before stored_of us j + pl.place)) (sym four) (omega (arith, fits, sized'));
      })
    where
      worth : (j : ℕ) (r : Rendering) → slice_get rs j ≡ Some r → {x : Bytes} {p : Spot} (pl : IsPlaced j r x p) → world.size (before stored_of us j + pl.place) ≡ pl.member.size
      worth j r at pl = world_size (before stored_of us j + pl.place) (member_by (before stored_of us j + pl.place) j r pl.place pl.member at pl.at refl)

      under : (j : ℕ) (r : Rendering) → slice_get rs j ≡ Some r → {x : Bytes} {p : Spot} (pl : IsPlaced j r x p) → before stored_of us j + pl.place < length g.sizes
      under j r at pl = below_height (before stored_of us j + pl.place) (member_by (before stored_of us j + pl.place) j r pl.place pl.member at pl.at refl)

  reached_at : (j : ℕ) (r : Rendering) → slice_get rs j ≡ Some r → (x : Bytes) (p : Spot) → IsPlaced j r x p → Reaches world p (Alone (r.site.bases.function + place_or_none (place_of_variable r.written.inventory x)))
  reached_at j r at x p pl =
      let storage = (is.units j r at).storage in
      let place : place_of_variable r.written.inventory x ≡ Some pl.place = subst (λ y. place_of_variable r.written.inventory y ≡ Some pl.place) pl.named (storage.first pl.place pl.member pl.at) in
      let below = within r.unit.stored pl.place pl.member pl.at in
      let many = storage.as_many in
      subst (λ q. Reaches world q (Alone (r.site.bases.function + place_or_none (place_of_variable r.written.inventory x)))) pl.spot
      (home_there_at j r at pl.place (omega (arith, below, many)) ∙ ap (λ found. Some (r.site.bases.function + place_or_none found)) (sym place), refl)

  pub sound : (j : ℕ) (r : Rendering) → slice_get rs j ≡ Some r → (f : Frame) (x : Bytes) (p : Spot) → (r.text.facts.program.attribute x).class ≡ class.Stored → whole r.text.facts f x ≡ Gives (IsSpot p) → IsSound world p
  unfolding facts_at
  sound j r at = subst (λ c. (f : Frame) (x : Bytes) (p : Spot) → (c.program.attribute x).class ≡ class.Stored → whole c f x ≡ Gives (IsSpot p) → IsSound world p) (sym (is.units j r at).facts) (λ f x p stored h. sound_at j r at x p (placed j r at f x p stored h))

  pub reached : (j : ℕ) (r : Rendering) → slice_get rs j ≡ Some r → (f : Frame) (x : Bytes) (p : Spot) → (r.text.facts.program.attribute x).class ≡ class.Stored → whole r.text.facts f x ≡ Gives (IsSpot p)
      → Reaches world p (Alone (r.site.bases.function + place_or_none (place_of_variable r.written.inventory x)))
  unfolding facts_at
  reached j r at = subst (λ c. (f : Frame) (x : Bytes) (p : Spot) → (c.program.attribute x).class ≡ class.Stored → whole c f x ≡ Gives (IsSpot p) → Reaches world p (Alone (r.site.bases.function + place_or_none (place_of_variable r.written.inventory x))))
      (sym (is.units j r at).facts) (λ f x p stored h. reached_at j r at x p (placed j r at f x p stored h))

  -- ## Frames

  module _ (j : ℕ) (r : Rendering) (at : slice_get rs j ≡ Some r) where
    abbrev v : Inventory
    v = r.written.inventory

    abbrev first : ℕ
    first = first_parameter v r.site.bases

    no_variable : (n object : ℕ) → world.homes n ≡ Some object → first ≤ object → object < first + frame_count v → ⊥
    no_variable n object home from before' =
        let a = variable_back ss ws n object home in
        let there = a.stands in
        let same = same_unit fs a.piece j a.site r.site a.whole r.written a.place (object - r.site.bases.function) a.here a.at (site_at fs rs is j r at) (unit_written fs rs is j r at) (variables_few a.whole a.place a.below)
        (omega (arith, from, before')) (omega (arith, there, from)) in
        let bases = ap (λ (s : Site). s.bases.function) (some_same a.site r.site (sym a.here ∙ ap (slice_get ss) same ∙ site_at fs rs is j r at)) in
        let whole' = ap (λ (w : WrittenUnit). length w.inventory.variables) (some_same a.whole r.written (sym a.at ∙ ap (slice_get ws) same ∙ unit_written fs rs is j r at)) in
        let few = a.below in
        omega (arith, there, bases, whole', few, from)

    pub idle : IsIdle first (frame_count v) world
    idle = record {
      no_home = λ n object below home from before'. no_variable n object home from before';
      not_held = λ k from before'. frame_blank fs j r.site r.written (site_at fs rs is j r at) (unit_written fs rs is j r at) (k - first) k (omega (arith, from)) (omega (arith, from, before'));
    }

  -- ## Names and objects

  no_block_at : (sequence : ℕ) → block_of us g sequence ≡ None
  unfolding block_of
  no_block_at sequence = no_block 0 us g sequence (λ i u at. let r = of_unit fs rs is i u at in ap (λ (z : ProgramUnit). z.blocks) (sym r.2) ∙ (is.units i r.0 r.1).storage.blocks)

  no_class_of : (name : Bytes) (home : Option Home) (ties : List Tie) → ties ≡ [] → class_of us g ties name home ≡ None
  unfolding class_of is_tied
  no_class_of name None ties none = refl
  no_class_of name (Some home) ties none = ap (λ ts. if list_any (λ (tie : Tie). bytes_eq tie.one.name name || bytes_eq tie.other.name name) ts && is_none (block_of us g home.sequence) then Some home.sequence else None) none

  no_classes : (j : ℕ) (r : Rendering) → slice_get rs j ≡ Some r → classes us g j r.unit ≡ []
  unfolding classes each_once
  no_classes j r at = ap (each_once []) (none_filtered (λ (member : Member). class_of us g r.unit.ties member.name (unit_home g j r.unit member.name)) r.unit.stored
      (λ m. no_class_of m.name (unit_home g j r.unit m.name) r.unit.ties (is.units j r at).storage.ties))

  -- the function of a unit, as linking makes it
  abbrev linked : (j : ℕ) (r : Rendering) → slice_get rs j ≡ Some r → linking.Function
  linked j r at = linked_unit fs (function_stands fs rs is j r at).functions r.site r.written

  static_is : (j : ℕ) (r : Rendering) (at : slice_get rs j ≡ Some r) (i : ℕ) (one : Variable) (name : Bytes) → slice_get r.written.inventory.variables i ≡ Some one → one.name ≡ name
      → static_object (variable_name name) (unit_function r.written) (linked j r at) ≡ Some (r.site.bases.function + i)
  static_is j r at i one name there same =
      let v = r.written.inventory in
      let d = declared_variable one in
      let called : variable_name one.name ≡ variable_name name = ap variable_name same in
      let place = position_named (declared_statics (unit_locals v)) i d (subst AreDistinct (sym (unit_lasting_names v)) (is.units j r at).built.differ.lasting) (unit_variable v i one there) in
      let frame = (function_stands fs rs is j r at).frame in
      let statics = unit_statics_count v in
      let strings = strings_in j r at in
      ap (λ nm. option_map (λ p. first_lasting (unit_function r.written) (linked j r at) + p) (position (λ (e : Declared). bytes_eq e.name nm) (declared_statics (unit_locals v)))) (sym called)
      ∙ ap (option_map (λ p. first_lasting (unit_function r.written) (linked j r at) + p)) place
      ∙ ap Some {x = first_lasting (unit_function r.written) (linked j r at) + i} {y = r.site.bases.function + i} (omega (arith, frame, statics, strings))
    where
      strings_in : (j : ℕ) (r : Rendering) → slice_get rs j ≡ Some r → length (linking.strings_of (declared_statics (unit_locals r.written.inventory)) ++ (whole_body r.written.body).items.strings) ≡ length r.written.inventory.strings
      strings_in j r at = ap (λ ss. length (ss ++ (whole_body r.written.body).items.strings)) (unit_strings r.written.inventory) ∙ (is.units j r at).built.as_many

  local_is : (j : ℕ) (r : Rendering) (at : slice_get rs j ≡ Some r) (name : Bytes) (object : ℕ) → static_object (variable_name name) (unit_function r.written) (linked j r at) ≡ Some object
      → local_object (files_of fs) r.unit (variable_name name) ≡ Some object
  local_is j r at name object static =
      let stands' = function_stands fs rs is j r at in
      ap (option_and_then (λ number. static_object_at (variable_name name) (slice_get (linking.all_functions (files_of fs)) number) (slice_get (linking.program (files_of fs)).functions number))) (unit_named fs rs is j r at)
      ∙ (λ i. static_object_at (variable_name name) (stands'.written i) (stands'.function_is i)) ∙ static

  object_is : (j : ℕ) (r : Rendering) → slice_get rs j ≡ Some r → (name : Bytes) (home : Home) (object : ℕ) → local_object (files_of fs) r.unit (variable_name name) ≡ Some object → object_for us g (files_of fs) j r.unit name home ≡ Some object
  unfolding object_for
  object_is j r at name home object here =
      (λ i. object_of (files_of fs) r.unit name (no_block_at home.sequence i) (position (nat_eq home.sequence) (no_classes j r at i))) ∙ here

  in_its_object : (j : ℕ) (r : Rendering) → slice_get rs j ≡ Some r → (member : Member) → IsIn member r.unit.stored → StandsInItsObject us g (files_of fs) world.homes j r.unit member.name
  in_its_object j r at member among =
      let h = home_there member (before stored_of us j) r.unit.stored among in
      let f = home_found member.name (before stored_of us j) r.unit.stored h.0 h.1 in
      let l = (is.units j r at).storage.listed f.place f.member f.at in
      let below = within r.written.inventory.variables f.place l.0 l.1 in
      record {
        home = h.0;
        is = home_is j r at member.name ∙ h.1;
        object = λ takes. (
          r.site.bases.function + f.place,
          object_is j r at member.name h.0 (r.site.bases.function + f.place) (local_is j r at member.name (r.site.bases.function + f.place) (static_is j r at f.place l.0 member.name l.1 (l.2 ∙ f.named))),
          subst (λ (k : Home). world.homes k.sequence ≡ Some (r.site.bases.function + f.place)) f.is (home_there_at j r at f.place below),
        );
      }

  pub names_stand : NamesStand us g (files_of fs) world.homes
  names_stand k unit member has among =
      let r = of_unit fs rs is k unit has in
      subst (λ (z : ProgramUnit). StandsInItsObject us g (files_of fs) world.homes k z member.name) r.2 (in_its_object k r.0 r.1 member (subst (λ (z : ProgramUnit). IsIn member z.stored) (sym r.2) among))

  low_at : (j : ℕ) (r : Rendering) → slice_get rs j ≡ Some r → (member : Member) (home : Home) → unit_home g j r.unit member.name ≡ Some home → home.sequence < length g.sizes
  low_at j r at member home h =
      let f = home_found member.name (before stored_of us j) r.unit.stored home (sym (home_is j r at member.name) ∙ h) in
      subst (λ (k : Home). k.sequence < length g.sizes) f.is (below_height (before stored_of us j + f.place) (member_by (before stored_of us j + f.place) j r f.place f.member at f.at refl))

  pub low : (k : ℕ) (unit : ProgramUnit) (member : Member) (home : Home) → HasUnit us k unit → IsIn member unit.stored → unit_home g k unit member.name ≡ Some home → home.sequence < length g.sizes
  low k unit member home has among h =
      let r = of_unit fs rs is k unit has in
      low_at k r.0 r.1 member home (ap (λ (z : ProgramUnit). unit_home g k z member.name) r.2 ∙ h)
