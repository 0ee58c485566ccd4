-- Each stored name of a set stands in one of the sequences of its setting.
use Rattle.std.specs.Prelude.{◌≡◌, ℕ, zero, suc, Bool, true, false, List, [], ◌∷◌, length, map, bytes_eq, Some, None, slice_get, if◌then◌else◌}
use Rattle.std.proofs.Common.{refl, ap, ◌∙◌, subst}
use Rattle.std.proofs.lemmas.Option.{slice_get_within}
use Rattle.std.proofs.lemmas.Slice.Eq.{bytes_eq-Decides}
use Rattle.f_tree.specs.declared.names.Class.TheVariants as class
use Rattle.f_tree.specs.declared.names.Options.{Options}
use Rattle.f_tree.specs.declared.units.Unit.{Unit as WrittenUnit}
use Rattle.f_tree.specs.Values.{Bytes}
use Rattle.f_tree.specs.Facts.{Attribute, Home, Member, ProgramUnit}
use Rattle.f_tree.specs.Attributes.{bare, Described, attribute_in, all_described}
use Rattle.f_tree.specs.Lines.{size_of, is_stored, stored_among, program_of, with_ties, unit_read}
use Rattle.f_tree.specs.Setting.{IsIn, first_in, later_in, IsMember, here, there, HasUnit, home_among, homes_at, unit_home, EachStoredNameStands}

some_injective : {A : Type 0} {a b : A} → Some a ≡ Some b → a ≡ b
some_injective e = cc

-- a unit has as many homes as stored names
as_many_homes : (homes : List (List Home)) (S : List ProgramUnit) → map length homes ≡ map (λ u. length u.stored) S → (k : ℕ) (u : ProgramUnit) → HasUnit S k u →
    length (homes_at (slice_get homes k)) ≡ length u.stored
unfolding homes_at
as_many_homes homes [] same k u at = absurd (cc)
as_many_homes [] (v ∷ S) same k u at = absurd (cc)
as_many_homes (hs ∷ homes) (v ∷ S) same zero u at = let first : length hs ≡ length v.stored = cc in first ∙ ap (λ w. length w.stored) (some_injective at)
as_many_homes (hs ∷ homes) (v ∷ S) same (suc k) u at = let rest : map length homes ≡ map (λ w. length w.stored) S = cc in as_many_homes homes S rest k u at

-- a name that stands among some is found among as many homes
record IsPlaced (x : Bytes) (ms : List Member) (hs : List Home) : Type 0 where
  home : Home
  found : home_among x ms hs ≡ Some home

found_at : (x : Bytes) (m : Member) (ms : List Member) (h : Home) (hs : List Home) (b : Bool) → bytes_eq m.name x ≡ b → (b ≡ false → IsPlaced x ms hs) → IsPlaced x (m ∷ ms) (h ∷ hs)
unfolding home_among
found_at x m ms h hs true is later = record { home = h; found = ap (λ b. if b then Some h else home_among x ms hs) is }
found_at x m ms h hs false is later = let l = later refl in record { home = l.home; found = ap (λ b. if b then Some h else home_among x ms hs) is ∙ l.found }

differs : (x : Bytes) → bytes_eq x x ≡ false → ⊥
differs x apart = let same : bytes_eq x x ≡ true = (bytes_eq-Decides x x).1 refl in absurd (cc)

placed_among : (x : Bytes) (ms : List Member) (hs : List Home) → IsMember x ms → length hs ≡ length ms → IsPlaced x ms hs
placed_among x [] hs is same = elim is [ ]
placed_among x (m ∷ ms) [] is same = absurd (cc)
placed_among x (m ∷ ms) (h ∷ hs) here same = found_at x m ms h hs (bytes_eq m.name x) refl (λ apart. absurd (differs x apart))
placed_among x (m ∷ ms) (h ∷ hs) (there is) same = found_at x m ms h hs (bytes_eq m.name x) refl (λ apart. placed_among x ms hs is (let e : length hs ≡ length ms = cc in e))

-- a name of a list has a size in it
record HasSize (x : Bytes) (ms : List Member) : Type 0 where
  member : Member
  is_in : IsIn member ms
  is_name : member.name ≡ x

sized_among : (x : Bytes) (ms : List Member) → IsMember x ms → HasSize x ms
sized_among x [] is = elim is [ ]
sized_among x (m ∷ ms) here = record { member = m; is_in = first_in; is_name = refl }
sized_among x (m ∷ ms) (there is) = let r = sized_among x ms is in record { member = r.member; is_in = later_in r.is_in; is_name = r.is_name }

pub each_stored_name : EachStoredNameStands
unfolding unit_home
each_stored_name S g setting k u at x is =
    let p : IsPlaced x u.stored (homes_at (slice_get g.homes k)) = placed_among x u.stored (homes_at (slice_get g.homes k)) is (as_many_homes g.homes S setting.complete k u at) in
    let m : HasSize x u.stored = sized_among x u.stored is in
    let r = setting.within k u m.member p.home at m.is_in (ap (λ y. home_among y u.stored (homes_at (slice_get g.homes k))) m.is_name ∙ p.found) in
    (p.home, p.found, slice_get_within g.sizes p.home.sequence r.0 r.1)

-- a name of class Stored is kept among the names that stand in storage
stored_by_class : (a : Attribute) → a.class ≡ class.Stored → is_stored a ≡ true
unfolding is_stored
stored_by_class a e = rw e refl

unit_is_not_stored : (bare class.Unit None).class ≡ class.Stored → ⊥
unfolding bare
unit_is_not_stored e = absurd (cc)

kept_if : (b : Bool) (x : Bytes) (m : Member) (ms : List Member) → b ≡ true → m.name ≡ x → IsMember x (if b then m ∷ ms else ms)
kept_if true x m ms e is = subst (λ y. IsMember y (m ∷ ms)) is here
kept_if false x m ms e is = absurd (cc)

later_if : (b : Bool) (x : Bytes) (m : Member) (ms : List Member) → IsMember x ms → IsMember x (if b then m ∷ ms else ms)
later_if true x m ms is = there is
later_if false x m ms is = is

abbrev the_member : Described → Member
the_member d = record { name = d.name; size = size_of d.attribute }

described_if : (x : Bytes) (d : Described) (ds : List Described) (b : Bool) → bytes_eq d.name x ≡ b → (if b then d.attribute else attribute_in ds x).class ≡ class.Stored →
    ((attribute_in ds x).class ≡ class.Stored → IsMember x (stored_among ds)) → IsMember x (stored_among (d ∷ ds))
unfolding stored_among
described_if x d ds true is stored later =
    kept_if (is_stored d.attribute) x (the_member d) (stored_among ds) (stored_by_class d.attribute stored) ((bytes_eq-Decides d.name x).0 is)
described_if x d ds false is stored later = later_if (is_stored d.attribute) x (the_member d) (stored_among ds) (later stored)

pub stored_in_list : (ds : List Described) (x : Bytes) → (attribute_in ds x).class ≡ class.Stored → IsMember x (stored_among ds)
unfolding attribute_in
stored_in_list [] x stored = absurd (unit_is_not_stored stored)
stored_in_list (d ∷ ds) x stored = described_if x d ds (bytes_eq d.name x) refl stored (stored_in_list ds x)

pub stored_in_unit : (options : Options) (u : WrittenUnit) (x : Bytes) → ((unit_read options u).attribute x).class ≡ class.Stored → IsMember x (unit_read options u).stored
unfolding unit_read with_ties program_of
stored_in_unit options u x stored = stored_in_list (all_described u) x stored
