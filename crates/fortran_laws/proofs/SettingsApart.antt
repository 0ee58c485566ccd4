-- A set without common blocks and EQUIVALENCE has a setting: each stored name in a sequence of its own.
use Rattle.std.proofs.Common.{◌≡◌, ℕ, zero, suc, ◌+◌, ◌≤◌, ◌<◌, Bool, true, false, List, [], ◌∷◌, length, Some, refl, sym, ap, ◌∙◌, subst, arith}
use Rattle.std.specs.Prelude.{◌++◌, map, slice_get, bytes_eq, not, ◌&&◌, ◌||◌}
use Rattle.std.proofs.lemmas.Slice.Eq.{bytes_eq-Decides}
use Rattle.std.proofs.lemmas.Option.{slice_get_within}
use Rattle.f_tree.specs.Values.{Bytes}
use Rattle.f_tree.specs.Facts.{Home, Member, Block, Tie, ProgramUnit}
use Rattle.f_tree.specs.Setting.{IsSetting, IsIn, IsMember, here, there, AreDistinct, no_names, another_name, Spoken, AreTied, itself, back, along, by_block, by_equivalence, HasUnit, StandsAt, unit_home, home_among, homes_at, all_homes, IsNumbered, none_left}
use Rattle.f_tree.specs.Runs.{homes_apart, all_homes_apart, all_sizes, setting_apart, is_named_in, names_differ, shares_nothing, share_nothing, ApartIsASetting}
use Rattle.f_tree.specs.Attributes.{is_not_empty}
use Rattle.fortran_laws.proofs.SettingLaws.{home_at, some_inj, Found, found, at_is_in, home_of, numbered_with, lengths_apart, place_of}

-- a unit without common blocks and EQUIVALENCE, in which no stored name stands twice
pub record IsApart (u : ProgramUnit) : Type 0 where
  pub no_blocks : u.blocks ≡ []
  pub no_ties : u.ties ≡ []
  pub distinct : AreDistinct u.stored

-- how many names are stored in the units before
names_before : List ProgramUnit → ℕ → ℕ
names_before [] k = 0
names_before (u ∷ S) zero = 0
names_before (u ∷ S) (suc k) = length u.stored + names_before S k

homes_of : (n : ℕ) (S : List ProgramUnit) (k : ℕ) (u : ProgramUnit) → HasUnit S k u → homes_at (slice_get (all_homes_apart n S) k) ≡ homes_apart (n + names_before S k) u.stored
unfolding homes_at all_homes_apart names_before
homes_of n [] k u e = absurd (cc)
homes_of n (v ∷ S) zero u e = ap (λ w. homes_apart n w.stored) (some_inj e) ∙ ap (λ z. homes_apart z u.stored) (let q : n ≡ n + 0 = omega arith in q)
homes_of n (v ∷ S) (suc k) u e =
    homes_of (n + length v.stored) S k u e ∙
    ap (λ z. homes_apart z u.stored) (let q : (n + length v.stored) + names_before S k ≡ n + (length v.stored + names_before S k) = omega arith in q)

-- names of two units have places of their own
one_unit : (S : List ProgramUnit) (j k : ℕ) (u v : ProgramUnit) → HasUnit S j u → HasUnit S k v → (p q : ℕ) → p < length u.stored → q < length v.stored →
    names_before S j + p ≡ names_before S k + q → j ≡ k
unfolding names_before
one_unit [] j k u v hu hv p q below under same = absurd (cc)
one_unit (w ∷ S) zero zero u v hu hv p q below under same = refl
one_unit (w ∷ S) zero (suc k) u v hu hv p q below under same =
    let e : length w.stored ≡ length u.stored = ap (λ z. length z.stored) (some_inj hu) in let bad : ⊥ = omega arith in absurd bad
one_unit (w ∷ S) (suc j) zero u v hu hv p q below under same =
    let e : length w.stored ≡ length v.stored = ap (λ z. length z.stored) (some_inj hv) in let bad : ⊥ = omega arith in absurd bad
one_unit (w ∷ S) (suc j) (suc k) u v hu hv p q below under same =
    ap suc (one_unit S j k u v hu hv p q below under (let rest : names_before S j + p ≡ names_before S k + q = omega arith in rest))

numbered_all : (n : ℕ) (S : List ProgramUnit) → IsNumbered n (all_homes (all_homes_apart n S))
unfolding all_homes all_homes_apart
numbered_all n [] = none_left
numbered_all n (u ∷ S) = numbered_with n u.stored (all_homes (all_homes_apart (n + length u.stored) S)) (numbered_all (n + length u.stored) S)

complete_all : (n : ℕ) (S : List ProgramUnit) → map length (all_homes_apart n S) ≡ map (λ u. length u.stored) S
unfolding all_homes_apart
complete_all n [] = refl
complete_all n (u ∷ S) = ap (λ z. z ∷ map length (all_homes_apart (n + length u.stored) S)) (lengths_apart n u.stored) ∙ ap (λ ns. length u.stored ∷ ns) (complete_all (n + length u.stored) S)

-- the size of a name, by its place among all
size_before : (ms : List Member) (rest : List ℕ) (k : ℕ) (m : Member) → slice_get ms k ≡ Some m → slice_get (map (λ z. z.size) ms ++ rest) k ≡ Some m.size
size_before [] rest k m e = absurd (cc)
size_before (a ∷ ms) rest zero m e = ap (λ z. Some z.size) (some_inj e)
size_before (a ∷ ms) rest (suc k) m e = size_before ms rest k m e

size_behind : (ms : List Member) (rest : List ℕ) (k : ℕ) → slice_get (map (λ z. z.size) ms ++ rest) (length ms + k) ≡ slice_get rest k
size_behind [] rest k = ap (slice_get rest) (let q : 0 + k ≡ k = omega arith in q)
size_behind (m ∷ ms) rest k =
    ap (slice_get (m.size ∷ (map (λ z. z.size) ms ++ rest))) (let q : suc (length ms) + k ≡ suc (length ms + k) = omega arith in q) ∙ size_behind ms rest k

size_among : (S : List ProgramUnit) (k : ℕ) (u : ProgramUnit) → HasUnit S k u → (p : ℕ) (m : Member) → slice_get u.stored p ≡ Some m →
    slice_get (all_sizes S) (names_before S k + p) ≡ Some m.size
unfolding all_sizes names_before
size_among [] k u hu p m e = absurd (cc)
size_among (v ∷ S) zero u hu p m e =
    ap (slice_get (map (λ w. w.size) v.stored ++ all_sizes S)) (let q : 0 + p ≡ p = omega arith in q) ∙
    size_before v.stored (all_sizes S) p m (subst (λ w. slice_get w.stored p ≡ Some m) (sym (some_inj hu)) e)
size_among (v ∷ S) (suc k) u hu p m e =
    ap (λ z. slice_get (map (λ w. w.size) v.stored ++ all_sizes S) z) (let q : (length v.stored + names_before S k) + p ≡ length v.stored + (names_before S k + p) = omega arith in q) ∙
    size_behind v.stored (all_sizes S) (names_before S k + p) ∙ size_among S k u hu p m e

-- each size is that of a name
record Sized (S : List ProgramUnit) (n size : ℕ) : Type 0 where
  number : ℕ
  unit : ProgramUnit
  there : HasUnit S number unit
  place : ℕ
  member : Member
  is_at : slice_get unit.stored place ≡ Some member
  is_size : member.size ≡ size
  counted : n ≡ names_before S number + place

data Splits (ms : List Member) (rest : List ℕ) (n size : ℕ) : Type 0 where
  before : (m : Member) → slice_get ms n ≡ Some m → m.size ≡ size → Splits ms rest n size
  behind : (k : ℕ) → n ≡ length ms + k → slice_get rest k ≡ Some size → Splits ms rest n size

split_later : (m : Member) (ms : List Member) (rest : List ℕ) (n size : ℕ) → Splits ms rest n size → Splits (m ∷ ms) rest (suc n) size
split_later m ms rest n size (before a e s) = before a e s
split_later m ms rest n size (behind k e s) = behind k (let q : suc n ≡ suc (length ms) + k = omega arith in q) s

splits : (ms : List Member) (rest : List ℕ) (n size : ℕ) → slice_get (map (λ m. m.size) ms ++ rest) n ≡ Some size → Splits ms rest n size
splits [] rest n size e = behind n (let q : n ≡ 0 + n = omega arith in q) e
splits (m ∷ ms) rest zero size e = before m refl (some_inj e)
splits (m ∷ ms) rest (suc n) size e = split_later m ms rest n size (splits ms rest n size e)

sized_if : (u : ProgramUnit) (S : List ProgramUnit) (n size : ℕ) → Splits u.stored (all_sizes S) n size → ((k : ℕ) → slice_get (all_sizes S) k ≡ Some size → Sized S k size) → Sized (u ∷ S) n size
unfolding names_before
sized_if u S n size (before m e s) later = record { number = 0; unit = u; there = refl; place = n; member = m; is_at = e; is_size = s; counted = let q : n ≡ 0 + n = omega arith in q }
sized_if u S n size (behind k e s) later =
    let r = later k s in
    record {
      number = suc r.number;
      unit = r.unit;
      there = r.there;
      place = r.place;
      member = r.member;
      is_at = r.is_at;
      is_size = r.is_size;
      counted = let c : k ≡ names_before S r.number + r.place = r.counted in let q : n ≡ (length u.stored + names_before S r.number) + r.place = omega arith in q;
    }

sized : (S : List ProgramUnit) (n size : ℕ) → slice_get (all_sizes S) n ≡ Some size → Sized S n size
unfolding all_sizes
sized [] n size e = absurd (cc)
sized (u ∷ S) n size e = sized_if u S n size (splits u.stored (all_sizes S) n size e) (λ k s. sized S k size s)

sequence_of : (n : ℕ) (h : Home) → h ≡ home_at n → h.sequence ≡ n
unfolding home_at
sequence_of n h e = ap (λ z. z.sequence) e

first_of : (n : ℕ) (h : Home) → h ≡ home_at n → h.first ≡ 0
unfolding home_at
first_of n h e = ap (λ z. z.first) e

spoken_same : (x y : Spoken) → x.unit ≡ y.unit → x.name ≡ y.name → x ≡ y
spoken_same x y e f = ap (λ k. let z : Spoken = record { unit = k; name = x.name } in z) e ∙ ap (λ n. let z : Spoken = record { unit = y.unit; name = n } in z) f

same_unit : (S : List ProgramUnit) (j k : ℕ) (u v : ProgramUnit) → HasUnit S j u → HasUnit S k v → j ≡ k → u ≡ v
same_unit S j k u v hu hv e = some_inj (sym hu ∙ ap (slice_get S) e ∙ hv)

module _ (S : List ProgramUnit) (each : (k : ℕ) (u : ProgramUnit) → HasUnit S k u → IsApart u) where
  home_for : (k : ℕ) (u : ProgramUnit) → HasUnit S k u → (x : Bytes) → unit_home (setting_apart S) k u x ≡ home_among x u.stored (homes_apart (names_before S k) u.stored)
  unfolding unit_home setting_apart
  home_for k u hu x =
      ap (home_among x u.stored) (homes_of 0 S k u hu) ∙
      ap (λ n. home_among x u.stored (homes_apart n u.stored)) (let q : 0 + names_before S k ≡ names_before S k = omega arith in q)

  no_block : (k : ℕ) (u : ProgramUnit) → HasUnit S k u → (b : Block) → IsIn b u.blocks → ⊥
  no_block k u hu b i = let h : IsIn b [] = subst (λ bs. IsIn b bs) (each k u hu).no_blocks i in elim h [ ]

  no_tie : (k : ℕ) (u : ProgramUnit) → HasUnit S k u → (t : Tie) → IsIn t u.ties → ⊥
  no_tie k u hu t i = let h : IsIn t [] = subst (λ ts. IsIn t ts) (each k u hu).no_ties i in elim h [ ]

  tied_same : (x y : Spoken) → AreTied S x y → x ≡ y
  tied_same x y itself = refl
  tied_same x y (back t) = sym (tied_same y x t)
  tied_same x y (along {y = z} t r) = tied_same x z t ∙ tied_same z y r
  tied_same x y (by_block {j = j} {u = u} {b = b} hu hv ib ic e mx my) = absurd (no_block j u hu b ib)
  tied_same x y (by_equivalence {k = k} {u = u} {t = t} hu it) = absurd (no_tie k u hu t it)

  found_of : (x : Spoken) (h : Home) → (s : StandsAt S (setting_apart S) x h) → Found (names_before S x.unit) s.0.stored x.name h
  found_of x h s = found (names_before S x.unit) s.0.stored x.name h (sym (home_for x.unit s.0 s.1 x.name) ∙ s.2)

  one_place : (x y : Spoken) (h i : Home) → StandsAt S (setting_apart S) x h → StandsAt S (setting_apart S) y i → h.sequence ≡ i.sequence → x ≡ y
  one_place x y h i sx sy e =
      let a = found_of x h sx in
      let b = found_of y i sy in
      let p : h.sequence ≡ names_before S x.unit + a.place = sequence_of (names_before S x.unit + a.place) h a.stands in
      let q : i.sequence ≡ names_before S y.unit + b.place = sequence_of (names_before S y.unit + b.place) i b.stands in
      let below = slice_get_within sx.0.stored a.place a.member a.is_at in
      let under = slice_get_within sy.0.stored b.place b.member b.is_at in
      let units : x.unit ≡ y.unit = one_unit S x.unit y.unit sx.0 sy.0 sx.1 sy.1 a.place b.place below under (sym p ∙ e ∙ q) in
      let before' : names_before S x.unit ≡ names_before S y.unit = ap (names_before S) units in
      let places : a.place ≡ b.place = omega arith in
      let u : sx.0 ≡ sy.0 = same_unit S x.unit y.unit sx.0 sy.0 sx.1 sy.1 units in
      let at : slice_get sy.0.stored b.place ≡ Some a.member = subst (λ w. slice_get w.stored b.place ≡ Some a.member) u (subst (λ z. slice_get sx.0.stored z ≡ Some a.member) places a.is_at) in
      let m : a.member ≡ b.member = some_inj (sym at ∙ b.is_at) in
      spoken_same x y units (sym a.named ∙ ap (λ z. z.name) m ∙ b.named)

  one_home : (x y : Spoken) (h i : Home) → StandsAt S (setting_apart S) x h → StandsAt S (setting_apart S) y i → x ≡ y → h.sequence ≡ i.sequence
  one_home x y h i sx sy e =
      let other : StandsAt S (setting_apart S) x i = subst (λ z. StandsAt S (setting_apart S) z i) (sym e) sy in
      let u : sx.0 ≡ other.0 = same_unit S x.unit x.unit sx.0 other.0 sx.1 other.1 refl in
      ap (λ z. z.sequence) (some_inj (sym sx.2 ∙ ap (λ v. unit_home (setting_apart S) x.unit v x.name) u ∙ other.2))

  home_at_place : (k : ℕ) (u : ProgramUnit) → HasUnit S k u → (p : ℕ) (m : Member) → slice_get u.stored p ≡ Some m →
      unit_home (setting_apart S) k u m.name ≡ Some (home_at (names_before S k + p))
  home_at_place k u hu p m e = home_for k u hu m.name ∙ home_of (names_before S k) u.stored (each k u hu).distinct p m e

  size_of_place : (k : ℕ) (u : ProgramUnit) → HasUnit S k u → (p : ℕ) (m : Member) → slice_get u.stored p ≡ Some m → (n : ℕ) → n ≡ names_before S k + p →
      slice_get (setting_apart S).sizes n ≡ Some m.size
  unfolding setting_apart
  size_of_place k u hu p m e n same = ap (λ z. slice_get (all_sizes S) z) same ∙ size_among S k u hu p m e

  size_is : (n size : ℕ) → slice_get (setting_apart S).sizes n ≡ Some size → Sized S n size
  unfolding setting_apart
  size_is n size e = sized S n size e

  least_apart : (n size : ℕ) → slice_get (setting_apart S).sizes n ≡ Some size → (x : Spoken) × StandsAt S (setting_apart S) x (record { sequence = n; first = 0 })
  unfolding home_at
  least_apart n size e =
      let r = size_is n size e in
      (record { unit = r.number; name = r.member.name }, (r.unit, r.there, home_at_place r.number r.unit r.there r.place r.member r.is_at ∙ ap (λ z. Some (home_at z)) (sym r.counted)))

  within_apart : (k : ℕ) (u : ProgramUnit) (m : Member) (h : Home) → HasUnit S k u → IsIn m u.stored → unit_home (setting_apart S) k u m.name ≡ Some h →
      (size : ℕ) × (slice_get (setting_apart S).sizes h.sequence ≡ Some size) × (h.first + m.size ≤ size)
  within_apart k u m h hu i e =
      let p = place_of m u.stored i in
      let s : h ≡ home_at (names_before S k + p.place) = some_inj (sym e ∙ home_at_place k u hu p.place m p.is_at) in
      let f : h.first ≡ 0 = first_of (names_before S k + p.place) h s in
      (m.size, size_of_place k u hu p.place m p.is_at h.sequence (sequence_of (names_before S k + p.place) h s), omega arith)

  reached_apart : (n size : ℕ) → slice_get (setting_apart S).sizes n ≡ Some size →
      (k : ℕ) × (u : ProgramUnit) × (m : Member) × (first : ℕ) × HasUnit S k u × IsIn m u.stored ×
      (unit_home (setting_apart S) k u m.name ≡ Some (record { sequence = n; first = first })) × (first + m.size ≡ size)
  unfolding home_at
  reached_apart n size e =
      let r = size_is n size e in
      let z : r.member.size ≡ size = r.is_size in (
        r.number,
        r.unit,
        r.member,
        0,
        r.there,
        at_is_in r.unit.stored r.place r.member r.is_at,
        home_at_place r.number r.unit r.there r.place r.member r.is_at ∙ ap (λ z. Some (home_at z)) (sym r.counted),
        omega arith,
      )

  complete_apart : map length (setting_apart S).homes ≡ map (λ w. length w.stored) S
  unfolding setting_apart
  complete_apart = complete_all 0 S

  numbered_apart : IsNumbered 0 (all_homes (setting_apart S).homes)
  unfolding setting_apart
  numbered_apart = numbered_all 0 S

  -- the setting of such units
  pub apart_setting : IsSetting S (setting_apart S)
  apart_setting = record {
    complete = complete_apart;
    blocks = λ k u hu b i. absurd (no_block k u hu b i);
    equivalenced = λ k u hu t i one other h1 h2. absurd (no_tie k u hu t i);
    tied = λ x y h i sx sy. (λ e. subst (λ z. AreTied S x z) (one_place x y h i sx sy e) itself, λ t. one_home x y h i sx sy (tied_same x y t));
    numbered = numbered_apart;
    least = least_apart;
    within = within_apart;
    reached = reached_apart;
  }

only_unit : (u : ProgramUnit) → IsApart u → (k : ℕ) (v : ProgramUnit) → HasUnit (u ∷ []) k v → IsApart v
only_unit u is zero v e = subst IsApart (some_inj e) is
only_unit u is (suc k) v e = absurd (cc)

pub unit_setting : (u : ProgramUnit) → u.blocks ≡ [] → u.ties ≡ [] → AreDistinct u.stored → IsSetting (u ∷ []) (setting_apart (u ∷ []))
unit_setting u no_blocks no_ties distinct = apart_setting (u ∷ []) (only_unit u (record { no_blocks = no_blocks; no_ties = no_ties; distinct = distinct }))

-- a set of units of which it is computed that they share nothing
empty_by : {A : Type 0} (xs : List A) → not (is_not_empty xs) ≡ true → xs ≡ []
unfolding is_not_empty
empty_by [] t = refl
empty_by (x ∷ xs) t = absurd (cc)

both_true : (a b : Bool) → (a && b) ≡ true → (a ≡ true) × (b ≡ true)
both_true true true t = (refl, refl)
both_true true false t = absurd (cc)
both_true false b t = absurd (cc)

not_true : (b : Bool) → not b ≡ true → b ≡ false
not_true true t = absurd (cc)
not_true false t = refl

either_false : (a b : Bool) → (a || b) ≡ false → (a ≡ false) × (b ≡ false)
either_false true b f = absurd (cc)
either_false false b f = (refl, f)

not_named : (x : Bytes) (ms : List Member) → is_named_in x ms ≡ false → IsMember x ms → ⊥
unfolding is_named_in
not_named x [] f member = elim member [ ]
not_named x (m ∷ ms) f here = absurd (let same : bytes_eq x x ≡ true = (bytes_eq-Decides x x).1 refl in let other : bytes_eq x x ≡ false = (either_false (bytes_eq x x) (is_named_in x ms) f).0 in cc)
not_named x (m ∷ ms) f (there deep) = not_named x ms (either_false (bytes_eq x m.name) (is_named_in x ms) f).1 deep

names_apart : (ms : List Member) → names_differ ms ≡ true → AreDistinct ms
unfolding names_differ
names_apart [] t = no_names
names_apart (m ∷ ms) t =
    let parts : (not (is_named_in m.name ms) ≡ true) × (names_differ ms ≡ true) = both_true (not (is_named_in m.name ms)) (names_differ ms) t in
    another_name (not_named m.name ms (not_true (is_named_in m.name ms) parts.0)) (names_apart ms parts.1)

apart_by : (u : ProgramUnit) → shares_nothing u ≡ true → IsApart u
unfolding shares_nothing
apart_by u t =
    let parts : (not (is_not_empty u.blocks) ≡ true) × ((not (is_not_empty u.ties) && names_differ u.stored) ≡ true) = both_true (not (is_not_empty u.blocks)) (not (is_not_empty u.ties) && names_differ u.stored) t in
    let others : (not (is_not_empty u.ties) ≡ true) × (names_differ u.stored ≡ true) = both_true (not (is_not_empty u.ties)) (names_differ u.stored) parts.1 in
    record { no_blocks = empty_by u.blocks parts.0; no_ties = empty_by u.ties others.0; distinct = names_apart u.stored others.1 }

each_apart : (S : List ProgramUnit) → share_nothing S ≡ true → (k : ℕ) (u : ProgramUnit) → HasUnit S k u → IsApart u
unfolding share_nothing
each_apart [] t k u at = absurd (cc)
each_apart (v ∷ S) t zero u at = subst IsApart (some_inj at) (apart_by v (both_true (shares_nothing v) (share_nothing S) t).0)
each_apart (v ∷ S) t (suc k) u at = each_apart S (both_true (shares_nothing v) (share_nothing S) t).1 k u at

pub apart_is_a_setting : ApartIsASetting
apart_is_a_setting S t = apart_setting S (each_apart S t)
