-- A set of program units has one setting: where its names stand leaves no choice.
use Rattle.std.proofs.Common.{◌≡◌, ℕ, zero, suc, ◌+◌, ◌<◌, ◌≤◌, Bool, true, false, List, [], ◌∷◌, ◌++◌, length, Option, Some, None, refl, sym, ap, ◌∙◌, subst, arith, cond, inl, inr}
use Rattle.std.proofs.Math.Nat.{eq-or-lt_of_le}
use Rattle.std.specs.Prelude.{◌⊎◌, map, slice_get, bytes_eq}
use Rattle.std.proofs.lemmas.Slice.Eq.{bytes_eq-Decides}
use Rattle.f_tree.specs.Values.{Bytes}
use Rattle.f_tree.specs.Facts.{Home, Member, Block, Tie, ProgramUnit}
use Rattle.f_tree.specs.Setting.{Setting, IsSetting, IsIn, first_in, later_in, IsMember, here, there, Spoken, AreTied, itself, back, along, by_block, by_equivalence, HasUnit, StandsAt, unit_home, home_among, homes_at, all_homes, IsNumbered, seen_before, is_next, EndToEnd, one_more, AreDistinct, another_name, IsNamed, EachSetHasOneSetting}

some_same : {A : Type 0} {a b : A} → Some a ≡ Some b → a ≡ b
some_same e = cc

-- a member of a list whose name this is
record MemberNamed (x : Bytes) (ms : List Member) : Type 0 where
  member : Member
  is_in : IsIn member ms
  named : member.name ≡ x

member_named : (x : Bytes) (ms : List Member) → IsMember x ms → MemberNamed x ms
member_named x [] i = elim i [ ]
member_named x (m ∷ ms) here = record { member = m; is_in = first_in; named = refl }
member_named x (m ∷ ms) (there i) = let r = member_named x ms i in record { member = r.member; is_in = later_in r.is_in; named = r.named }

first_named : (x : Bytes) (m : Member) (ms : List Member) → m.name ≡ x → IsMember x (m ∷ ms)
first_named x m ms e = subst (λ y. IsMember y (m ∷ ms)) e here

-- a name that has a home is in the list, and each name of the list has a home where there are as many homes as names
among_if : (x : Bytes) (m : Member) (ms : List Member) (i h : Home) (rest : Option Home) (b : Bool) → bytes_eq m.name x ≡ b →
    cond b (Some i) rest ≡ Some h → (rest ≡ Some h → IsMember x ms) → IsMember x (m ∷ ms)
among_if x m ms i h rest true t e later = first_named x m ms ((bytes_eq-Decides m.name x).0 t)
among_if x m ms i h rest false t e later = there (later e)

is_among : (x : Bytes) (ms : List Member) (hs : List Home) (h : Home) → home_among x ms hs ≡ Some h → IsMember x ms
unfolding home_among
is_among x [] hs h e = absurd (cc)
is_among x (m ∷ ms) [] h e = absurd (cc)
is_among x (m ∷ ms) (i ∷ hs) h e = among_if x m ms i h (home_among x ms hs) (bytes_eq m.name x) refl e (is_among x ms hs h)

-- a home that is there
record Housed (o : Option Home) : Type 0 where
  home : Home
  is_home : o ≡ Some home

housed_if : (i : Home) (rest : Option Home) (b : Bool) → Housed rest → Housed (cond b (Some i) rest)
housed_if i rest true h = record { home = i; is_home = refl }
housed_if i rest false h = h

first_housed : (i : Home) (rest : Option Home) (b : Bool) → b ≡ true → Housed (cond b (Some i) rest)
first_housed i rest true e = record { home = i; is_home = refl }
first_housed i rest false e = absurd (cc)

suc_same : (n m : ℕ) → suc n ≡ suc m → n ≡ m
suc_same n m e = omega arith

housed : (x : Bytes) (ms : List Member) (hs : List Home) → IsMember x ms → length hs ≡ length ms → Housed (home_among x ms hs)
unfolding home_among
housed x [] hs i e = elim i [ ]
housed x (m ∷ ms) [] i e = absurd (let q : zero ≡ suc (length ms) = e in omega arith)
housed x (m ∷ ms) (h ∷ hs) here e = first_housed h (home_among x ms hs) (bytes_eq m.name x) ((bytes_eq-Decides m.name x).1 refl)
housed x (m ∷ ms) (h ∷ hs) (there i) e = housed_if h (home_among x ms hs) (bytes_eq m.name x) (housed x ms hs i (suc_same (length hs) (length ms) e))

-- rows of homes, one for each unit and as long as its stored names
row_length : (hs : List (List Home)) (us : List ProgramUnit) (k : ℕ) (u : ProgramUnit) → map length hs ≡ map (λ v. length v.stored) us → slice_get us k ≡ Some u →
    length (homes_at (slice_get hs k)) ≡ length u.stored
unfolding homes_at
row_length hs [] k u e f = absurd (cc)
row_length [] (v ∷ us) k u e f = absurd (cc)
row_length (row ∷ hs) (v ∷ us) zero u e f =
    let p : length row ≡ length v.stored = cc in
    p ∙ ap (λ w. length w.stored) (some_same f)
row_length (row ∷ hs) (v ∷ us) (suc k) u e f = row_length hs us k u (let p : map length hs ≡ map (λ w. length w.stored) us = cc in p) f

no_row : (hs : List (List Home)) (us : List ProgramUnit) (k : ℕ) → map length hs ≡ map (λ v. length v.stored) us → slice_get us k ≡ None → slice_get hs k ≡ None
no_row [] us k e f = refl
no_row (row ∷ hs) [] k e f = absurd (cc)
no_row (row ∷ hs) (v ∷ us) zero e f = absurd (cc)
no_row (row ∷ hs) (v ∷ us) (suc k) e f = no_row hs us k (let p : map length hs ≡ map (λ w. length w.stored) us = cc in p) f

record RowAt (hs : List (List Home)) (k : ℕ) : Type 0 where
  row : List Home
  is_row : slice_get hs k ≡ Some row

row_at : (hs : List (List Home)) (us : List ProgramUnit) (k : ℕ) (u : ProgramUnit) → map length hs ≡ map (λ v. length v.stored) us → slice_get us k ≡ Some u → RowAt hs k
row_at hs [] k u e f = absurd (cc)
row_at [] (v ∷ us) k u e f = absurd (cc)
row_at (row ∷ hs) (v ∷ us) zero u e f = record { row = row; is_row = refl }
row_at (row ∷ hs) (v ∷ us) (suc k) u e f =
    let r = row_at hs us k u (let p : map length hs ≡ map (λ w. length w.stored) us = cc in p) f in
    record { row = r.row; is_row = r.is_row }

-- the items of a block have the same first places in two settings
record InBoth (g h : Setting) (j : ℕ) (u : ProgramUnit) (n m : ℕ) (x : Bytes) : Type 0 where
  first : ℕ
  in_one : unit_home g j u x ≡ Some (record { sequence = n; first = first })
  in_other : unit_home h j u x ≡ Some (record { sequence = m; first = first })

in_both : (g h : Setting) (j : ℕ) (u : ProgramUnit) (n m first : ℕ) (x : Bytes) (ms : List Member) → IsMember x ms →
    EndToEnd g j u n first ms → EndToEnd h j u m first ms → InBoth g h j u n m x
in_both g h j u n m first x [] i a b = elim i [ ]
in_both g h j u n m first x (k ∷ ms) here (one_more e a) (one_more f b) = record { first = first; in_one = e; in_other = f }
in_both g h j u n m first x (k ∷ ms) (there i) (one_more e a) (one_more f b) = in_both g h j u n m (first + k.size) x ms i a b

-- equal lists, by their places and by their parts
same_at : (xs ys : List ℕ) → ((n size : ℕ) → slice_get xs n ≡ Some size → slice_get ys n ≡ Some size) →
    ((n size : ℕ) → slice_get ys n ≡ Some size → slice_get xs n ≡ Some size) → xs ≡ ys
same_at [] [] to from = refl
same_at [] (y ∷ ys) to from = absurd (let q = from 0 y refl in cc)
same_at (x ∷ xs) [] to from = absurd (let q = to 0 x refl in cc)
same_at (x ∷ xs) (y ∷ ys) to from =
    let p : y ≡ x = some_same (to 0 x refl) in
    let q : xs ≡ ys = same_at xs ys (λ n. to (suc n)) (λ n. from (suc n)) in
    cc

record Parts {A : Type 0} (a b c d : List A) : Type 0 where
  fronts : a ≡ b
  rests : c ≡ d

same_parts : {A : Type 0} (a b c d : List A) → length a ≡ length b → a ++ c ≡ b ++ d → Parts a b c d
same_parts [] [] c d e f = record { fronts = refl; rests = f }
same_parts [] (y ∷ b) c d e f = absurd (let q : zero ≡ suc (length b) = e in omega arith)
same_parts (x ∷ a) [] c d e f = absurd (let q : suc (length a) ≡ zero = e in omega arith)
same_parts (x ∷ a) (y ∷ b) c d e f =
    let r = same_parts a b c d (suc_same (length a) (length b) e) (let q : a ++ c ≡ b ++ d = cc in q) in
    let p : x ≡ y = cc in
    record { fronts = (let q = r.fronts in cc); rests = r.rests }

same_rows : (gs hs : List (List Home)) → map length gs ≡ map length hs → all_homes gs ≡ all_homes hs → gs ≡ hs
unfolding all_homes
same_rows [] [] e f = refl
same_rows [] (b ∷ hs) e f = absurd (cc)
same_rows (a ∷ gs) [] e f = absurd (cc)
same_rows (a ∷ gs) (b ∷ hs) e f =
    let p : length a ≡ length b = cc in
    let q : map length gs ≡ map length hs = cc in
    let r = same_parts a b (all_homes gs) (all_homes hs) p f in
    let rest = same_rows gs hs q r.rests in
    let front = r.fronts in
    cc

same_settings : (g h : Setting) → g.homes ≡ h.homes → g.sizes ≡ h.sizes → g ≡ h
same_settings g h e f = ap (λ z. let w : Setting = record { homes = z; sizes = g.sizes } in w) e ∙ ap (λ z. let w : Setting = record { homes = h.homes; sizes = z } in w) f

same_homes : (h i : Home) → h.sequence ≡ i.sequence → h.first ≡ i.first → h ≡ i
same_homes h i e f = ap (λ z. let w : Home = record { sequence = z; first = h.first } in w) e ∙ ap (λ z. let w : Home = record { sequence = i.sequence; first = z } in w) f

-- homes side by side, of one name each
data Matched (P : Home → Home → Type 0) : List Home → List Home → Type 0 where
  no_homes : Matched P [] []
  next_homes : {h i : Home} {hs is : List Home} → P h i → Matched P hs is → Matched P (h ∷ hs) (i ∷ is)

matched_on : (P : Home → Home → Type 0) (a b c d : List Home) → Matched P a b → Matched P c d → Matched P (a ++ c) (b ++ d)
matched_on P [] [] c d no_homes m = m
matched_on P [] (i ∷ b) c d r m = elim r [ ]
matched_on P (h ∷ a) [] c d r m = elim r [ ]
matched_on P (h ∷ a) (i ∷ b) c d (next_homes p r) m = next_homes p (matched_on P a b c d r m)

RowsMatch : (P : Home → Home → Type 0) → Option (List Home) → Option (List Home) → Type 0
RowsMatch P None None = Unit {0}
RowsMatch P (Some a) (Some b) = Matched P a b
RowsMatch P _ _ = ⊥

all_matched : (P : Home → Home → Type 0) (gs hs : List (List Home)) → ((k : ℕ) → RowsMatch P (slice_get gs k) (slice_get hs k)) → Matched P (all_homes gs) (all_homes hs)
unfolding all_homes RowsMatch
all_matched P [] [] each = no_homes
all_matched P [] (b ∷ hs) each = absurd (each 0)
all_matched P (a ∷ gs) [] each = absurd (each 0)
all_matched P (a ∷ gs) (b ∷ hs) each = matched_on P a b (all_homes gs) (all_homes hs) (each 0) (all_matched P gs hs (λ k. each (suc k)))

-- the home of a name that stands later
later_if : (x : Bytes) (m : Member) (i : Home) (rest : Option Home) (p : Home) (b : Bool) → bytes_eq m.name x ≡ b → (m.name ≡ x → ⊥) → rest ≡ Some p → cond b (Some i) rest ≡ Some p
later_if x m i rest p true e apart f = absurd (apart ((bytes_eq-Decides m.name x).0 e))
later_if x m i rest p false e apart f = f

later_home : (x : Bytes) (m : Member) (ms : List Member) (i : Home) (hs : List Home) (p : Home) → (IsMember m.name ms → ⊥) → home_among x ms hs ≡ Some p →
    home_among x (m ∷ ms) (i ∷ hs) ≡ Some p
unfolding home_among
later_home x m ms i hs p apart e = later_if x m i (home_among x ms hs) p (bytes_eq m.name x) refl (λ q. apart (subst (λ y. IsMember y ms) (sym q) (is_among x ms hs p e))) e

own_if : (i : Home) (rest : Option Home) (b : Bool) → b ≡ true → cond b (Some i) rest ≡ Some i
own_if i rest true e = refl
own_if i rest false e = absurd (cc)

own_home : (m : Member) (ms : List Member) (i : Home) (hs : List Home) → home_among m.name (m ∷ ms) (i ∷ hs) ≡ Some i
unfolding home_among
own_home m ms i hs = own_if i (home_among m.name ms hs) (bytes_eq m.name m.name) ((bytes_eq-Decides m.name m.name).1 refl)

row_matched : (P : Home → Home → Type 0) (ms : List Member) (a b : List Home) → AreDistinct ms → length a ≡ length ms → length b ≡ length ms →
    ((x : Bytes) (p q : Home) → home_among x ms a ≡ Some p → home_among x ms b ≡ Some q → P p q) → Matched P a b
row_matched P [] [] [] d e f each = no_homes
row_matched P [] (p ∷ a) b d e f each = absurd (let z : suc (length a) ≡ zero = e in omega arith)
row_matched P [] [] (q ∷ b) d e f each = absurd (let z : suc (length b) ≡ zero = f in omega arith)
row_matched P (m ∷ ms) [] b d e f each = absurd (let z : zero ≡ suc (length ms) = e in omega arith)
row_matched P (m ∷ ms) (p ∷ a) [] d e f each = absurd (let z : zero ≡ suc (length ms) = f in omega arith)
row_matched P (m ∷ ms) (p ∷ a) (q ∷ b) (another_name apart d) e f each = next_homes (each m.name p q (own_home m ms p a) (own_home m ms q b))
    (row_matched P ms a b d (suc_same (length a) (length ms) e) (suc_same (length b) (length ms) f)
    (λ x r s j k. each x r s (later_home x m ms p a r apart j) (later_home x m ms q b s apart k)))

module _ (S : List ProgramUnit) (named : (k : ℕ) (u : ProgramUnit) → HasUnit S k u → IsNamed u) (g h : Setting) (ig : IsSetting S g) (ih : IsSetting S h) where
  -- a name with its homes in both
  record Both (x : Spoken) : Type 0 where
    one : Home
    other : Home
    stands : StandsAt S g x one
    stands_too : StandsAt S h x other

  spoken : ℕ → Bytes → Spoken
  spoken k x = record { unit = k; name = x }

  -- each stored name stands in both, and a name that stands is stored
  home_of : (i : Setting) → IsSetting S i → (k : ℕ) (u : ProgramUnit) (x : Bytes) → HasUnit S k u → IsMember x u.stored → Housed (unit_home i k u x)
  unfolding unit_home
  home_of i is k u x hu m = housed x u.stored (homes_at (slice_get i.homes k)) m (row_length i.homes S k u is.complete hu)

  stands_in_both : (k : ℕ) (u : ProgramUnit) (x : Bytes) → HasUnit S k u → IsMember x u.stored → Both (spoken k x)
  unfolding spoken
  stands_in_both k u x hu m =
      let p = home_of g ig k u x hu m in
      let q = home_of h ih k u x hu m in
      record { one = p.home; other = q.home; stands = (u, hu, p.is_home); stands_too = (u, hu, q.is_home) }

  same_unit : (k : ℕ) (u v : ProgramUnit) → HasUnit S k u → HasUnit S k v → u ≡ v
  same_unit k u v e f = some_same (sym e ∙ f)

  -- a name stands at one place in a setting
  home_in : (i : Setting) (x : Spoken) (u : ProgramUnit) (p : Home) → HasUnit S x.unit u → StandsAt S i x p → unit_home i x.unit u x.name ≡ Some p
  home_in i x u p hu s = subst (λ w. unit_home i x.unit w x.name ≡ Some p) (same_unit x.unit s.0 u s.1 hu) s.2

  one_home : (i : Setting) (x : Spoken) (p q : Home) → StandsAt S i x p → StandsAt S i x q → p ≡ q
  one_home i x p q s t = some_same (sym (home_in i x t.0 p t.1 s) ∙ t.2)

  -- tied names stand both or neither, and as far apart in one setting as in the other
  record Apart (x y : Spoken) : Type 0 where
    forth : Both x → Both y
    back : Both y → Both x
    shift : (a : Both x) (b : Both y) → a.one.first + b.other.first ≡ b.one.first + a.other.first

  apart_itself : (x : Spoken) → Apart x x
  apart_itself x = record {
    forth = λ a. a;
    back = λ a. a;
    shift = λ a b.
        let p : a.one.first ≡ b.one.first = ap (λ z. z.first) (one_home g x a.one b.one a.stands b.stands) in
        let q : a.other.first ≡ b.other.first = ap (λ z. z.first) (one_home h x a.other b.other a.stands_too b.stands_too) in
        omega arith;
  }

  apart_back : (x y : Spoken) → Apart x y → Apart y x
  apart_back x y p = record {
    forth = p.back;
    back = p.forth;
    shift = λ a b. let e = p.shift b a in omega arith;
  }

  apart_along : (x y z : Spoken) → Apart x y → Apart y z → Apart x z
  apart_along x y z p q = record {
    forth = λ a. q.forth (p.forth a);
    back = λ c. p.back (q.back c);
    shift = λ a c.
        let b = p.forth a in
        let e = p.shift a b in
        let f = q.shift b c in
        omega arith;
  }

  -- an item of a block has one first place
  record Fixed (x : Spoken) : Type 0 where
    both : Both x
    same : both.one.first ≡ both.other.first

  fixed_in : (j : ℕ) (u : ProgramUnit) (b : Block) (x : Bytes) → HasUnit S j u → IsIn b u.blocks → IsMember x b.members → Fixed (spoken j x)
  unfolding spoken
  fixed_in j u b x hu ib m =
      let p = ig.blocks j u hu b ib in
      let q = ih.blocks j u hu b ib in
      let r = in_both g h j u p.0 q.0 0 x b.members m p.1 q.1 in
      record {
        both = record {
          one = record { sequence = p.0; first = r.first };
          other = record { sequence = q.0; first = r.first };
          stands = (u, hu, r.in_one);
          stands_too = (u, hu, r.in_other);
        };
        same = refl;
      }

  apart_fixed : (x y : Spoken) → Fixed x → Fixed y → Apart x y
  apart_fixed x y p q = record {
    forth = λ a. q.both;
    back = λ b. p.both;
    shift = λ a b.
        let i = ap (λ z. z.first) (one_home g x a.one p.both.one a.stands p.both.stands) in
        let j = ap (λ z. z.first) (one_home h x a.other p.both.other a.stands_too p.both.stands_too) in
        let k = ap (λ z. z.first) (one_home g y b.one q.both.one b.stands q.both.stands) in
        let l = ap (λ z. z.first) (one_home h y b.other q.both.other b.stands_too q.both.stands_too) in
        let m = p.same in
        let n = q.same in
        let i' : a.one.first ≡ p.both.one.first = i in
        let j' : a.other.first ≡ p.both.other.first = j in
        let k' : b.one.first ≡ q.both.one.first = k in
        let l' : b.other.first ≡ q.both.other.first = l in
        omega arith;
  }

  apart_equivalenced : (k : ℕ) (u : ProgramUnit) (t : Tie) → HasUnit S k u → IsIn t u.ties → Apart (spoken k t.one.name) (spoken k t.other.name)
  unfolding spoken
  apart_equivalenced k u t hu it =
      let n = (named k u hu).tied t it in
      record {
        forth = λ a. stands_in_both k u t.other.name hu n.1;
        back = λ b. stands_in_both k u t.one.name hu n.0;
        shift = λ a b.
            let e = (ig.equivalenced k u hu t it a.one b.one (home_in g (spoken k t.one.name) u a.one hu a.stands) (home_in g (spoken k t.other.name) u b.one hu b.stands)).1 in
            let f = (ih.equivalenced k u hu t it a.other b.other (home_in h (spoken k t.one.name) u a.other hu a.stands_too) (home_in h (spoken k t.other.name) u b.other hu b.stands_too)).1 in
            omega arith;
      }

  apart : (x y : Spoken) → AreTied S x y → Apart x y
  unfolding spoken
  apart x y itself = apart_itself x
  apart x y (back t) = apart_back y x (apart y x t)
  apart x y (along {y = z} t r) = apart_along x z y (apart x z t) (apart z y r)
  apart x y (by_block {j = j} {k = k} {u = u} {v = v} {b = b} {c = c} {x = a} {y = d} hu hv ib ic e ma md) =
      apart_fixed (spoken j a) (spoken k d) (fixed_in j u b a hu ib ma) (fixed_in k v c d hv ic md)
  apart x y (by_equivalence {k = k} {u = u} {t = t} hu it) = apart_equivalenced k u t hu it

  -- homes of one name in both
  record OfOne (p q : Home) : Type 0 where
    name : Spoken
    stands : StandsAt S g name p
    stands_too : StandsAt S h name q

  -- names of one sequence in the one are of one in the other
  same_in_other : (x y : Spoken) (p q r s : Home) → StandsAt S g x p → StandsAt S g y q → StandsAt S h x r → StandsAt S h y s → p.sequence ≡ q.sequence → r.sequence ≡ s.sequence
  same_in_other x y p q r s a b c d e = (ih.tied x y r s c d).1 ((ig.tied x y p q a b).0 e)

  same_in_one : (x y : Spoken) (p q r s : Home) → StandsAt S g x p → StandsAt S g y q → StandsAt S h x r → StandsAt S h y s → r.sequence ≡ s.sequence → p.sequence ≡ q.sequence
  same_in_one x y p q r s a b c d e = (ig.tied x y p q a b).1 ((ih.tied x y r s c d).0 e)

  -- each of the first sequences has a name, the same in both
  record Covered (n : ℕ) : Type 0 where
    one : Home
    other : Home
    of_one : OfOne one other
    at_one : one.sequence ≡ n
    at_other : other.sequence ≡ n

  covered_if : (count : ℕ) (p q : Home) → OfOne p q → p.sequence ≡ count → q.sequence ≡ count → ((n : ℕ) → n < count → Covered n) →
      (n : ℕ) → (n ≡ count) ⊎ (n < count) → Covered n
  covered_if count p q o e f before n (inl same) = record { one = p; other = q; of_one = o; at_one = e ∙ sym same; at_other = f ∙ sym same }
  covered_if count p q o e f before n (inr below) = before n below

  one_more_covered : (count : ℕ) (p q : Home) → OfOne p q → p.sequence ≡ count → q.sequence ≡ count → ((n : ℕ) → n < count → Covered n) →
      (n : ℕ) → n < suc count → Covered n
  one_more_covered count p q o e f before n l = covered_if count p q o e f before n (eq-or-lt_of_le (let m : n ≤ count = omega arith in m))

  -- what stands in a sequence seen before stands in it in the other setting too
  seen_in_other : (n : ℕ) (p q : Home) → OfOne p q → Covered n → p.sequence ≡ n → q.sequence ≡ n
  seen_in_other n p q o c e =
      sym (same_in_other c.of_one.name o.name c.one p c.other q c.of_one.stands o.stands c.of_one.stands_too o.stands_too (c.at_one ∙ sym e)) ∙ c.at_other

  seen_in_one : (n : ℕ) (p q : Home) → OfOne p q → Covered n → q.sequence ≡ n → p.sequence ≡ n
  seen_in_one n p q o c e =
      sym (same_in_one c.of_one.name o.name c.one p c.other q c.of_one.stands o.stands c.of_one.stands_too o.stands_too (c.at_other ∙ sym e)) ∙ c.at_one

  -- a name that stands is a stored member with a size, and its sequence has one
  record Sized (i : Setting) (n : ℕ) : Type 0 where
    size : ℕ
    is_size : slice_get i.sizes n ≡ Some size

  sized : (i : Setting) → IsSetting S i → (x : Spoken) (p : Home) → StandsAt S i x p → Sized i p.sequence
  unfolding unit_home
  sized i is x p s =
      let m = member_named x.name s.0.stored (is_among x.name s.0.stored (homes_at (slice_get i.homes x.unit)) p s.2) in
      let w = is.within x.unit s.0 m.member p s.1 m.is_in (subst (λ y. unit_home i x.unit s.0 y ≡ Some p) (sym m.named) s.2) in
      record { size = w.0; is_size = w.1 }

  -- a name that stands in one stands in both
  both_of_one : (x : Spoken) (p : Home) → StandsAt S g x p → Both x
  unfolding unit_home spoken
  both_of_one x p s = stands_in_both x.unit s.0 x.name s.1 (is_among x.name s.0.stored (homes_at (slice_get g.homes x.unit)) p s.2)

  both_of_other : (x : Spoken) (p : Home) → StandsAt S h x p → Both x
  unfolding unit_home spoken
  both_of_other x p s = stands_in_both x.unit s.0 x.name s.1 (is_among x.name s.0.stored (homes_at (slice_get h.homes x.unit)) p s.2)

  -- a name of one sequence has one first place, since each sequence has a name that stands first
  not_after : (x : Spoken) (p q : Home) → StandsAt S g x p → StandsAt S h x q → (y : Spoken) → StandsAt S g y (record { sequence = p.sequence; first = 0 }) → p.first ≤ q.first
  not_after x p q s t y r =
      let b = both_of_one y (record { sequence = p.sequence; first = 0 }) r in
      let z = ap (λ w. w.first) (one_home g y b.one (record { sequence = p.sequence; first = 0 }) b.stands r) in
      let z' : b.one.first ≡ 0 = z in
      let a : Both x = record { one = p; other = q; stands = s; stands_too = t } in
      let e : p.first + b.other.first ≡ b.one.first + q.first = (apart x y ((ig.tied x y p (record { sequence = p.sequence; first = 0 }) s r).0 refl)).shift a b in
      omega arith

  not_before : (x : Spoken) (p q : Home) → StandsAt S g x p → StandsAt S h x q → (y : Spoken) → StandsAt S h y (record { sequence = q.sequence; first = 0 }) → q.first ≤ p.first
  not_before x p q s t y r =
      let b = both_of_other y (record { sequence = q.sequence; first = 0 }) r in
      let z = ap (λ w. w.first) (one_home h y b.other (record { sequence = q.sequence; first = 0 }) b.stands_too r) in
      let z' : b.other.first ≡ 0 = z in
      let a : Both x = record { one = p; other = q; stands = s; stands_too = t } in
      let e : p.first + b.other.first ≡ b.one.first + q.first = (apart x y ((ih.tied x y q (record { sequence = q.sequence; first = 0 }) t r).0 refl)).shift a b in
      omega arith

  one_first : (x : Spoken) (p q : Home) → StandsAt S g x p → StandsAt S h x q → p.first ≡ q.first
  one_first x p q s t =
      let m = sized g ig x p s in
      let n = sized h ih x q t in
      let y = ig.least p.sequence m.size m.is_size in
      let z = ih.least q.sequence n.size n.is_size in
      let a = not_after x p q s t y.0 y.1 in
      let b = not_before x p q s t z.0 z.1 in
      omega arith

  one_of_one : (p q : Home) → OfOne p q → p.sequence ≡ q.sequence → p ≡ q
  one_of_one p q o e = same_homes p q e (one_first o.name p q o.stands o.stands_too)

  -- homes side by side that are numbered as they are first seen are the same
  one_list : (count : ℕ) (hs is : List Home) → ((n : ℕ) → n < count → Covered n) → Matched OfOne hs is → IsNumbered count hs → IsNumbered count is → hs ≡ is
  one_list count [] [] before no_homes a b = refl
  one_list count [] (q ∷ is) before m a b = elim m [ ]
  one_list count (p ∷ hs) [] before m a b = elim m [ ]
  one_list count (p ∷ hs) (q ∷ is) before (next_homes o m) (seen_before l a) (seen_before k b) =
      let e : p ≡ q = one_of_one p q o (sym (seen_in_other p.sequence p q o (before p.sequence l) refl)) in
      let f : hs ≡ is = one_list count hs is before m a b in
      cc
  one_list count (p ∷ hs) (q ∷ is) before (next_homes o m) (seen_before l a) (is_next k b) =
      absurd (let e = seen_in_other p.sequence p q o (before p.sequence l) refl in omega arith)
  one_list count (p ∷ hs) (q ∷ is) before (next_homes o m) (is_next l a) (seen_before k b) =
      absurd (let e = seen_in_one q.sequence p q o (before q.sequence k) refl in omega arith)
  one_list count (p ∷ hs) (q ∷ is) before (next_homes o m) (is_next l a) (is_next k b) =
      let e : p ≡ q = one_of_one p q o (l ∙ sym k) in
      let f : hs ≡ is = one_list (suc count) hs is (one_more_covered count p q o l k before) m a b in
      cc

  -- the rows of homes of each unit stand side by side
  home_by_row : (i : Setting) (k : ℕ) (u : ProgramUnit) (row : List Home) (x : Bytes) → slice_get i.homes k ≡ Some row → unit_home i k u x ≡ home_among x u.stored row
  unfolding unit_home homes_at
  home_by_row i k u row x e = ap (λ r. home_among x u.stored (homes_at r)) e

  length_by_row : (i : Setting) → IsSetting S i → (k : ℕ) (u : ProgramUnit) (row : List Home) → HasUnit S k u → slice_get i.homes k ≡ Some row → length row ≡ length u.stored
  unfolding homes_at
  length_by_row i is k u row hu e = sym (ap (λ r. length (homes_at r)) e) ∙ row_length i.homes S k u is.complete hu

  row_of : (k : ℕ) (u : ProgramUnit) → HasUnit S k u → (a b : List Home) → slice_get g.homes k ≡ Some a → slice_get h.homes k ≡ Some b → Matched OfOne a b
  unfolding spoken
  row_of k u hu a b e f = row_matched OfOne u.stored a b (named k u hu).distinct (length_by_row g ig k u a hu e) (length_by_row h ih k u b hu f)
      (λ x p q i j. record { name = spoken k x; stands = (u, hu, home_by_row g k u a x e ∙ i); stands_too = (u, hu, home_by_row h k u b x f ∙ j) })

  rows_of : (k : ℕ) (o : Option ProgramUnit) → slice_get S k ≡ o → RowsMatch OfOne (slice_get g.homes k) (slice_get h.homes k)
  unfolding RowsMatch
  rows_of k None e =
      subst (λ r. RowsMatch OfOne r (slice_get h.homes k)) (sym (no_row g.homes S k ig.complete e))
      (subst (λ r. RowsMatch OfOne None r) (sym (no_row h.homes S k ih.complete e)) tt)
  rows_of k (Some u) e =
      let a = row_at g.homes S k u ig.complete e in
      let b = row_at h.homes S k u ih.complete e in
      subst (λ r. RowsMatch OfOne r (slice_get h.homes k)) (sym a.is_row)
      (subst (λ r. RowsMatch OfOne (Some a.row) r) (sym b.is_row) (row_of k u e a.row b.row a.is_row b.is_row))

  -- sequences reach as far in one as in the other
  same_unit_home : (i j : Setting) (k : ℕ) (u : ProgramUnit) (x : Bytes) → i.homes ≡ j.homes → unit_home i k u x ≡ unit_home j k u x
  unfolding unit_home
  same_unit_home i j k u x e = ap (λ hs. home_among x u.stored (homes_at (slice_get hs k))) e

  record Reaching (i : Setting) (n size : ℕ) : Type 0 where
    far : ℕ
    is_far : slice_get i.sizes n ≡ Some far
    enough : size ≤ far

  reaches : (i j : Setting) → IsSetting S i → IsSetting S j → i.homes ≡ j.homes → (n size : ℕ) → slice_get i.sizes n ≡ Some size → Reaching j n size
  reaches i j ii ij e n size f =
      let r = ii.reached n size f in
      let w = ij.within r.0 r.1 r.2 (record { sequence = n; first = r.3 }) r.4 r.5 (sym (same_unit_home i j r.0 r.1 r.2.name e) ∙ r.6) in
      let l : r.3 + r.2.size ≤ w.0 = w.2 in
      let m : r.3 + r.2.size ≡ size = r.7 in
      record { far = w.0; is_far = w.1; enough = omega arith }

  size_in : (i j : Setting) → IsSetting S i → IsSetting S j → i.homes ≡ j.homes → (n size : ℕ) → slice_get i.sizes n ≡ Some size → slice_get j.sizes n ≡ Some size
  size_in i j ii ij e n size f =
      let r = reaches i j ii ij e n size f in
      let b = reaches j i ij ii (sym e) n r.far r.is_far in
      let s : size ≡ b.far = some_same (sym f ∙ b.is_far) in
      let l = r.enough in
      let m = b.enough in
      let same : r.far ≡ size = omega arith in
      r.is_far ∙ ap Some same

  same_sizes : g.homes ≡ h.homes → g.sizes ≡ h.sizes
  same_sizes e = same_at g.sizes h.sizes (size_in g h ig ih e) (size_in h g ih ig (sym e))

  pub settings_are_one : g ≡ h
  settings_are_one =
      let homes = same_rows g.homes h.homes (ig.complete ∙ sym ih.complete)
      (one_list 0 (all_homes g.homes) (all_homes h.homes) (λ n l. absurd (omega arith)) (all_matched OfOne g.homes h.homes (λ k. rows_of k (slice_get S k) refl)) ig.numbered ih.numbered) in
      same_settings g h homes (same_sizes homes)

-- two settings of a set are one
pub one_setting : EachSetHasOneSetting
one_setting S named g h ig ih = settings_are_one S named g h ig ih
