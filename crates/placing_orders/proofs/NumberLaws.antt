-- What stands so between numbers stands so between their names; contradictions of the one are those of the other, and so are blocks that are joined
-- or extended.
use Rattle.std.proofs.Common.{◌≡◌, ℕ, zero, suc, ◌+◌, ◌<◌, ℤ, pos, ◌+ℤ◌, neg_ℤ, nat_abs, Bool, true, false, not, ◌&&◌, ◌||◌, List, [], ◌∷◌, take, bytes_eq, true≢false, Option, Some, None, arith, refl, sym, ap, subst, ◌∙◌, ◌⊎◌, inl, inr}
use Rattle.std.specs.Prelude.{int_lt, if◌then◌else◌}
use Rattle.std.proofs.lemmas.Int.{ints}
use Rattle.placing_laws.specs.f_tree.Values.{Bytes}
use Rattle.placing_laws.specs.f_tree.Setting.{IsIn, first_in, later_in}
use Rattle.placing_laws.specs.f_tree.Uses.{is_among}
use Rattle.placing_laws.specs.declaration_rows.PlacingRows.{Equation, Placing, Reached, reached_from, contradicts, first_items, extends_before, joins_other, is_joined_or_extended, least_of, first_among, start_by, place_in}
use Rattle.placing_laws.specs.offset_classes.Standing.{Link, Stands, onward, backward, AreConsistent, AreContradictory}
use Rattle.placing_laws.specs.offset_classes.Forest.{IsApart, place_at, AreClasses, IsFirstToContradict}
use Rattle.placing_laws.specs.offset_classes.declared.nodes.Place.{Place}
use Rattle.placing_laws.proofs.offset_classes.StandsLaws.{stands_self, stands_more, by_ways}
use Rattle.placing_laws.specs.NamedLinks.{link_by, links_by}
use Rattle.placing_laws.proofs.Reaching.{link_in, equation_in, reached_stands, both_true, true_both, or_left, or_right, bytes_same, bytes_self}
use Rattle.placing_laws.proofs.Completed.{stands_reached}
use Rattle.placing_laws.proofs.Contradicting.{any_in, in_any, stands_contradiction, consistent_none}
use Rattle.placing_orders.specs.Numbered.{named, AreNumbered, AreSome, AreClear}
use Rattle.placing_orders.proofs.Rising.{not_true, false_not, among_in, in_among}

-- a name that stands so, by its number
pub record IsStood (n : ℕ) (name : ℕ → Bytes) (ls : List (Link ℕ)) (i : ℕ) (y : Bytes) (d : ℤ) : Type 0 where
  pub number : ℕ
  pub within : number < n
  pub is : y ≡ name number
  pub stands : Stands ls i number d

record IsNumber (n : ℕ) (name : ℕ → Bytes) (x : Bytes) : Type 0 where
  number : ℕ
  within : number < n
  is : x ≡ name number

module _ (n : ℕ) (name : ℕ → Bytes) (ls : List (Link ℕ)) (es : List Equation) (are : AreNumbered n name ls es) where
  -- FROM NUMBERS TO NAMES
  pub stands_named : (i j : ℕ) (d : ℤ) → Stands ls i j d → Stands (links_by es) (name i) (name j) d
  stands_named i j d h =
      by_ways ls (λ i j d. Stands (links_by es) (name i) (name j) d) (λ i. stands_self (links_by es) (name i))
      (λ x y z c d l l_in way one other by.
      onward (name y) (name z) c d (link_by (named name l)) (link_in (named name l) es (are.named_so l l_in)) way (ap name one) (ap name other) by)
      (λ x y z c d l l_in way other one by.
      backward (name y) (name z) c d (link_by (named name l)) (link_in (named name l) es (are.named_so l l_in)) way (ap name other) (ap name one) by)
      i j d h

  -- FROM NAMES TO NUMBERS
  step_on : (i : ℕ) (y z : Bytes) (c d : ℤ) (l : Link Bytes) → IsIn l (links_by es) → IsStood n name ls i y c → l.one ≡ y → l.other ≡ z → d ≡ c +ℤ l.by
      → IsStood n name ls i z d
  step_on i y z c d l l_in s one other by =
      let k = are.numbered (record { one = l.one; other = l.other; by = l.by }) (equation_in l es l_in) in
      let here' : k.link.one ≡ s.number =
      are.apart k.link.one s.number (are.below.each k.link k.is_in).0 s.within (sym (ap (λ (e : Equation). e.one) k.is) ∙ one ∙ s.is) in
      record {
        number = k.link.other;
        within = (are.below.each k.link k.is_in).1;
        is = sym other ∙ ap (λ (e : Equation). e.other) k.is;
        stands = onward s.number k.link.other c d k.link k.is_in s.stands here' refl (by ∙ ap (λ (e : Equation). c +ℤ e.by) k.is);
      }

  step_back : (i : ℕ) (y z : Bytes) (c d : ℤ) (l : Link Bytes) → IsIn l (links_by es) → IsStood n name ls i y c → l.other ≡ y → l.one ≡ z → d ≡ c +ℤ neg_ℤ l.by
      → IsStood n name ls i z d
  step_back i y z c d l l_in s other one by =
      let k = are.numbered (record { one = l.one; other = l.other; by = l.by }) (equation_in l es l_in) in
      let here' : k.link.other ≡ s.number =
      are.apart k.link.other s.number (are.below.each k.link k.is_in).1 s.within (sym (ap (λ (e : Equation). e.other) k.is) ∙ other ∙ s.is) in
      record {
        number = k.link.one;
        within = (are.below.each k.link k.is_in).0;
        is = sym one ∙ ap (λ (e : Equation). e.one) k.is;
        stands = backward s.number k.link.one c d k.link k.is_in s.stands here' refl (by ∙ ap (λ (e : Equation). c +ℤ neg_ℤ e.by) k.is);
      }

  pub named_stands : (i : ℕ) → i < n → (y : Bytes) (d : ℤ) → Stands (links_by es) (name i) y d → IsStood n name ls i y d
  named_stands i within y d h =
      by_ways (links_by es) (λ x y d. (i : ℕ) → i < n → x ≡ name i → IsStood n name ls i y d)
      (λ x i within is. record { number = i; within = within; is = is; stands = stands_self ls i })
      (λ x y z c d l l_in way one other by i within is. step_on i y z c d l l_in (way i within is) one other by)
      (λ x y z c d l l_in way other one by i within is. step_back i y z c d l l_in (way i within is) other one by)
      (name i) y d h i within refl

  -- a name without a number stands alone
  number_of_one : (l : Link Bytes) → IsIn l (links_by es) → IsNumber n name l.one
  number_of_one l l_in =
      let k = are.numbered (record { one = l.one; other = l.other; by = l.by }) (equation_in l es l_in) in
      record { number = k.link.one; within = (are.below.each k.link k.is_in).0; is = ap (λ (e : Equation). e.one) k.is }

  number_of_other : (l : Link Bytes) → IsIn l (links_by es) → IsNumber n name l.other
  number_of_other l l_in =
      let k = are.numbered (record { one = l.one; other = l.other; by = l.by }) (equation_in l es l_in) in
      record { number = k.link.other; within = (are.below.each k.link k.is_in).1; is = ap (λ (e : Equation). e.other) k.is }

  number_at : (x y : Bytes) → y ≡ x → IsNumber n name y → IsNumber n name x
  number_at x y e k = record { number = k.number; within = k.within; is = sym e ∙ k.is }

  alone_or : (x y : Bytes) (d : ℤ) → Stands (links_by es) x y d → ((y ≡ x) × (d ≡ pos 0)) ⊎ IsNumber n name x
  alone_or x y d h =
      by_ways (links_by es) (λ x y d. ((y ≡ x) × (d ≡ pos 0)) ⊎ IsNumber n name x) (λ x. inl (refl, refl))
      (λ x y z c d l l_in way one other by. elim way as (λ w. ((z ≡ x) × (d ≡ pos 0)) ⊎ IsNumber n name x) [
        | inl same ↦ inr (number_at x l.one (one ∙ same.0) (number_of_one l l_in))
        | inr k ↦ inr k
      ])
      (λ x y z c d l l_in way other one by. elim way as (λ w. ((z ≡ x) × (d ≡ pos 0)) ⊎ IsNumber n name x) [
        | inl same ↦ inr (number_at x l.other (other ∙ same.0) (number_of_other l l_in))
        | inr k ↦ inr k
      ])
      x y d h

  -- CONTRADICTIONS
  never_at : AreConsistent ls → (x : Bytes) (d : ℤ) → Stands (links_by es) x x d → IsNumber n name x → d ≡ pos 0
  never_at right x d h k =
      let s = named_stands k.number k.within x d (subst (λ z. Stands (links_by es) z x d) k.is h) in
      let same : s.number ≡ k.number = are.apart s.number k.number s.within k.within (sym s.is ∙ k.is) in
      right.nowhere_else k.number d (subst (λ j. Stands ls k.number j d) same s.stands)

  pub numbers_consistent : AreConsistent ls → AreConsistent (links_by es)
  numbers_consistent right = record {
    nowhere_else = λ x d h. elim (alone_or x x d h) [ inl same ↦ same.1 | inr k ↦ never_at right x d h k ];
  }

  pub none_contradict : AreConsistent ls → contradicts es ≡ false
  none_contradict right = consistent_none es (numbers_consistent right)

  pub some_contradict : AreContradictory ls → contradicts es ≡ true
  some_contradict wrong =
      stands_contradiction es (record { at = name wrong.at; by = wrong.by; is = stands_named wrong.at wrong.at wrong.by wrong.is; elsewhere = wrong.elsewhere })

  in_taken : (k : ℕ) (ms : List (Link ℕ)) (l : Link ℕ) → IsIn l (take k ms) → IsIn l ms
  in_taken zero ms l h = elim h [ ]
  in_taken (suc k) [] l h = elim h [ ]
  in_taken (suc k) (_ ∷ ms) l first_in = first_in
  in_taken (suc k) (m ∷ ms) l (later_in h) = later_in (in_taken k ms l h)

  pub first_contradicts : (k : ℕ) → IsFirstToContradict ls k → contradicts es ≡ true
  first_contradicts k first =
      some_contradict (record {
        at = first.now.at;
        by = first.now.by;
        is = stands_more (take (k + 1) ls) ls first.now.at first.now.at first.now.by (in_taken (k + 1) ls) first.now.is;
        elsewhere = first.now.elsewhere;
      })

-- WHERE NAMES BEGIN among those that are reached
first_by : (xs : List Bytes) (d : ℤ) (r : Reached) (rs : List Reached) (test : Bool) → is_among r.name xs ≡ test → (is_among r.name xs ≡ true → r.by ≡ d)
    → (is_among r.name xs ≡ false → first_among xs rs ≡ Some d) → (if test then Some r.by else first_among xs rs) ≡ Some d
first_by xs d r rs true is one later = ap Some (one is)
first_by xs d r rs false is one later = later is

first_found : (xs : List Bytes) (d : ℤ) (q : Reached) (rs : List Reached) → IsIn q rs → is_among q.name xs ≡ true
    → ((r : Reached) → IsIn r rs → is_among r.name xs ≡ true → r.by ≡ d) → first_among xs rs ≡ Some d
unfolding first_among
first_found xs d q [] h among all = elim h [ ]
first_found xs d q (_ ∷ rs) first_in among all =
    first_by xs d q rs (is_among q.name xs) refl (all q first_in) (λ none. absurd (true≢false (sym among ∙ none)))
first_found xs d q (r ∷ rs) (later_in h) among all =
    first_by xs d r rs (is_among r.name xs) refl (all r first_in) (λ none. first_found xs d q rs h among (λ s g. all s (later_in g)))

first_none : (xs : List Bytes) (rs : List Reached) → ((r : Reached) → IsIn r rs → is_among r.name xs ≡ false) → first_among xs rs ≡ None
unfolding first_among
first_none xs [] all = refl
first_none xs (r ∷ rs) all = ap (λ t. if t then Some r.by else first_among xs rs) (all r first_in) ∙ first_none xs rs (λ s g. all s (later_in g))

nothing_by : (xs : List Bytes) (r : Reached) (rs : List Reached) (test : Bool) → r.by ≡ pos 0
    → (first_among xs rs ≡ Some (pos 0)) ⊎ (first_among xs rs ≡ None)
    → ((if test then Some r.by else first_among xs rs) ≡ Some (pos 0)) ⊎ ((if test then Some r.by else first_among xs rs) ≡ None)
nothing_by xs r rs true here' later = inl (ap Some here')
nothing_by xs r rs false here' later = later

first_nothing : (xs : List Bytes) (rs : List Reached) → ((r : Reached) → IsIn r rs → r.by ≡ pos 0)
    → (first_among xs rs ≡ Some (pos 0)) ⊎ (first_among xs rs ≡ None)
unfolding first_among
first_nothing xs [] all = inr refl
first_nothing xs (r ∷ rs) all = nothing_by xs r rs (is_among r.name xs) (all r first_in) (first_nothing xs rs (λ s g. all s (later_in g)))

data IsOneOf (m d : ℤ) (rs : List Reached) : Type 0 where
  itself : m ≡ d → IsOneOf m d rs
  another : (r : Reached) → IsIn r rs → r.by ≡ m → IsOneOf m d rs

lesser : ℤ → ℤ → Bool → ℤ
lesser a d test = if test then a else d

one_more : (m d : ℤ) (r : Reached) (rs : List Reached) (test : Bool) → int_lt r.by d ≡ test → int_lt d m ≡ false → int_lt r.by m ≡ false → IsOneOf m d (r ∷ rs)
    → IsOneOf m (if test then r.by else d) rs
one_more m d r rs true is above here' (itself e) = itself (let k : m ≡ d = e in grind (arith, ints))
one_more m d r rs false is above here' (itself e) = itself e
one_more m d r rs true is above here' (another _ first_in e) = itself (sym e)
one_more m d r rs false is above here' (another _ first_in e) = itself (let k : r.by ≡ m = e in grind (arith, ints))
one_more m d r rs test is above here' (another q (later_in h) e) = another q h e

still_above : (m d a : ℤ) (test : Bool) → int_lt d m ≡ false → int_lt a m ≡ false → int_lt (if test then a else d) m ≡ false
still_above m d a true above here' = here'
still_above m d a false above here' = above

least_found : (m d : ℤ) (rs : List Reached) → IsOneOf m d rs → int_lt d m ≡ false → ((r : Reached) → IsIn r rs → int_lt r.by m ≡ false) → least_of d rs ≡ m
unfolding least_of
least_found m d [] (itself e) above all = sym e
least_found m d [] (another r h e) above all = elim h [ ]
least_found m d (r ∷ rs) one above all =
    least_found m (if int_lt r.by d then r.by else d) rs (one_more m d r rs (int_lt r.by d) refl above (all r first_in) one)
    (still_above m d r.by (int_lt r.by d) above (all r first_in)) (λ s g. all s (later_in g))

no_less : (d : ℤ) → int_lt d d ≡ false
no_less d = grind (arith, ints)

-- BLOCKS, and the places of names, by the places of numbers
module _ (n : ℕ) (name : ℕ → Bytes) (ls : List (Link ℕ)) (p : Placing) (are : AreNumbered n name ls p.equations) (ps : List Place) (classes : AreClasses n ls ps)
    (fs : List ℕ) (some : AreSome n name fs (first_items p.blocks)) where
  record IsReachedBy (i : ℕ) (r : Reached) : Type 0 where
    number : ℕ
    within : number < n
    is : r.name ≡ name number
    apart : IsApart ps i number r.by

  by_number : (i : ℕ) → i < n → (r : Reached) → IsIn r (reached_from p.equations (name i)) → IsReachedBy i r
  by_number i within r h =
      let s = named_stands n name ls p.equations are i within r.name r.by (reached_stands p.equations (name i) r h) in
      record { number = s.number; within = s.within; is = s.is; apart = classes.placed i s.number r.by within s.within s.stands }

  apart_reached : (i j : ℕ) (d : ℤ) → i < n → j < n → IsApart ps i j d → IsIn (record { name = name j; by = d }) (reached_from p.equations (name i))
  apart_reached i j d i_in j_in h =
      stands_reached p.equations (numbers_consistent n name ls p.equations are classes.consistent) (name i) (name j) d
      (stands_named n name ls p.equations are i j d (classes.stands i j d i_in j_in h))

  -- a name among the first items has a number among theirs
  first_number : (j : ℕ) (x : Bytes) → j < n → x ≡ name j → is_among x (first_items p.blocks) ≡ true → IsIn j fs
  first_number j x within is among =
      let k = some.numbered x (among_in x (first_items p.blocks) among) in
      subst (λ i. IsIn i fs) (are.apart k.number j k.within within (sym k.is ∙ is)) k.is_in

  behind_all : AreClear n ps fs → (f : ℕ) → IsIn f fs → extends_before p.equations (name f) ≡ true → ⊥
  unfolding extends_before
  behind_all clear f h is =
      let found = any_in (λ (r : Reached). int_lt r.by (pos 0)) (reached_from p.equations (name f)) is in
      let at = by_number f (some.within f h) found.one found.is_in in
      true≢false (sym found.holds ∙ clear.behind f at.number found.one.by h at.within at.apart)

  single_all : AreClear n ps fs → (f : ℕ) → IsIn f fs → joins_other p.equations (first_items p.blocks) (name f) ≡ true → ⊥
  unfolding joins_other
  single_all clear f h is =
      let found = any_in (λ (r : Reached). is_among r.name (first_items p.blocks) && not (bytes_eq r.name (name f))) (reached_from p.equations (name f)) is in
      let both = both_true (is_among found.one.name (first_items p.blocks)) (not (bytes_eq found.one.name (name f))) found.holds in
      let at = by_number f (some.within f h) found.one found.is_in in
      let same : at.number ≡ f = clear.single f at.number found.one.by h (first_number at.number found.one.name at.within at.is both.0) at.apart in
      let eq : bytes_eq found.one.name (name f) ≡ true = subst (λ x. bytes_eq x (name f) ≡ true) (sym (at.is ∙ ap name same)) (bytes_self (name f)) in
      true≢false (sym eq ∙ not_true (bytes_eq found.one.name (name f)) both.1)

  either_of : (a b : Bool) → (a ≡ true → ⊥) → (b ≡ true → ⊥) → (a || b) ≡ true → ⊥
  either_of true b one other h = one refl
  either_of false b one other h = other h

  clear_all : AreClear n ps fs → is_joined_or_extended p ≡ true → ⊥
  unfolding is_joined_or_extended
  clear_all clear is =
      let found = any_in (λ x. extends_before p.equations x || joins_other p.equations (first_items p.blocks) x) (first_items p.blocks) is in
      let k = some.numbered found.one found.is_in in
      either_of (extends_before p.equations (name k.number)) (joins_other p.equations (first_items p.blocks) (name k.number)) (behind_all clear k.number k.is_in)
      (single_all clear k.number k.is_in)
      (subst (λ x. (extends_before p.equations x || joins_other p.equations (first_items p.blocks) x) ≡ true) k.is found.holds)

  no_test : (test : Bool) → (test ≡ true → ⊥) → test ≡ false
  no_test true h = absurd (h refl)
  no_test false h = refl

  pub clear_none : AreClear n ps fs → is_joined_or_extended p ≡ false
  clear_none clear = no_test (is_joined_or_extended p) (clear_all clear)

  pub extended_some : (f y : ℕ) (d : ℤ) → IsIn f fs → y < n → IsApart ps f y d → int_lt d (pos 0) ≡ true → is_joined_or_extended p ≡ true
  unfolding is_joined_or_extended extends_before
  extended_some f y d h within apart is =
      in_any (λ x. extends_before p.equations x || joins_other p.equations (first_items p.blocks) x) (first_items p.blocks) (name f) (some.named_so f h)
      (or_left (extends_before p.equations (name f)) (joins_other p.equations (first_items p.blocks) (name f))
      (in_any (λ (r : Reached). int_lt r.by (pos 0)) (reached_from p.equations (name f)) (record { name = name y; by = d })
      (apart_reached f y d (some.within f h) within apart) is))

  other_name : (f y : ℕ) → f < n → y < n → (y ≡ f → ⊥) → (test : Bool) → bytes_eq (name y) (name f) ≡ test → test ≡ false
  other_name f y f_in y_in other true is = absurd (other (are.apart y f y_in f_in (bytes_same (name y) (name f) is)))
  other_name f y f_in y_in other false is = refl

  pub joined_some : (f y : ℕ) (d : ℤ) → IsIn f fs → IsIn y fs → IsApart ps f y d → (y ≡ f → ⊥) → is_joined_or_extended p ≡ true
  unfolding is_joined_or_extended joins_other
  joined_some f y d h g apart other =
      in_any (λ x. extends_before p.equations x || joins_other p.equations (first_items p.blocks) x) (first_items p.blocks) (name f) (some.named_so f h)
      (or_right (extends_before p.equations (name f)) (joins_other p.equations (first_items p.blocks) (name f))
      (in_any (λ (r : Reached). is_among r.name (first_items p.blocks) && not (bytes_eq r.name (name f))) (reached_from p.equations (name f)) (record { name = name y; by = d })
      (apart_reached f y d (some.within f h) (some.within y g) apart)
      (true_both (is_among (name y) (first_items p.blocks)) (not (bytes_eq (name y) (name f))) (in_among (name y) (first_items p.blocks) (some.named_so y g))
      (false_not (bytes_eq (name y) (name f)) (other_name f y (some.within f h) (some.within y g) other (bytes_eq (name y) (name f)) refl)))))

  -- THE PLACE of a name behind the first item of its block
  one_apart : (i f y : ℕ) (d c : ℤ) → IsApart ps i f d → IsApart ps i y c → y ≡ f → c ≡ d
  one_apart i f y d c one other same =
      let k = one.apart in
      let m = other.apart in
      let e = ap (λ j. (place_at ps j).offset) same in
      omega (arith, ints)

  -- what is apart from one is apart from the other
  between_two : (i f y : ℕ) (d c : ℤ) → IsApart ps i f d → IsApart ps i y c → IsApart ps f y (c +ℤ neg_ℤ d)
  between_two i f y d c one other = record {
    together = sym one.together ∙ other.together;
    apart = let k = one.apart in let m = other.apart in omega (arith, ints);
  }

  pub place_behind : AreClear n ps fs → (i f : ℕ) (d : ℤ) → i < n → IsIn f fs → IsApart ps i f d → place_in p (name i) ≡ nat_abs d
  unfolding place_in start_by
  place_behind clear i f d within h apart =
      ap (λ (o : Option ℤ). nat_abs (start_by o (reached_from p.equations (name i))))
      (first_found (first_items p.blocks) d (record { name = name f; by = d }) (reached_from p.equations (name i)) (apart_reached i f d within (some.within f h) apart)
      (in_among (name f) (first_items p.blocks) (some.named_so f h))
      (λ r r_in among.
      let at = by_number i within r r_in in
      let first = first_number at.number r.name at.within at.is among in
      one_apart i f at.number d r.by apart at.apart (clear.single f at.number (r.by +ℤ neg_ℤ d) h first (between_two i f at.number d r.by apart at.apart))))

  -- or behind what begins first
  pub place_least : (i y : ℕ) (m : ℤ) → i < n → y < n → IsApart ps i y m → ((z : ℕ) (d : ℤ) → IsIn z fs → IsApart ps i z d → ⊥)
      → ((z : ℕ) (d : ℤ) → z < n → IsApart ps i z d → int_lt d m ≡ false) → place_in p (name i) ≡ nat_abs m
  unfolding place_in start_by
  place_least i y m within y_in apart none least =
      ap (λ (o : Option ℤ). nat_abs (start_by o (reached_from p.equations (name i))))
      (first_none (first_items p.blocks) (reached_from p.equations (name i))
      (λ r r_in. no_test (is_among r.name (first_items p.blocks))
      (λ among. let at = by_number i within r r_in in none at.number r.by (first_number at.number r.name at.within at.is among) at.apart)))
      ∙ ap nat_abs (least_found m (pos 0) (reached_from p.equations (name i)) (another (record { name = name y; by = m }) (apart_reached i y m within y_in apart) refl)
      (least i (pos 0) within (record { together = refl; apart = omega (arith, ints) }))
      (λ r r_in. let at = by_number i within r r_in in least at.number r.by at.within at.apart))

  -- a name without a number stands alone
  by_nothing : (x : Bytes) → ((i : ℕ) → i < n → x ≡ name i → ⊥) → (r : Reached) → IsIn r (reached_from p.equations x) → r.by ≡ pos 0
  by_nothing x none r h = elim (alone_or n name ls p.equations are x r.name r.by (reached_stands p.equations x r h)) [
    | inl same ↦ same.1
    | inr k ↦ absurd (none k.number k.within k.is)
  ]

  start_nothing : (rs : List Reached) (first : Option ℤ) → (first ≡ Some (pos 0)) ⊎ (first ≡ None) → least_of (pos 0) rs ≡ pos 0 → nat_abs (start_by first rs) ≡ 0
  unfolding start_by
  start_nothing rs first (inl is) least = ap (λ (o : Option ℤ). nat_abs (start_by o rs)) is
  start_nothing rs first (inr is) least = ap (λ (o : Option ℤ). nat_abs (start_by o rs)) is ∙ ap nat_abs least

  pub place_alone : (x : Bytes) → ((i : ℕ) → i < n → x ≡ name i → ⊥) → place_in p x ≡ 0
  unfolding place_in
  place_alone x none =
      start_nothing (reached_from p.equations x) (first_among (first_items p.blocks) (reached_from p.equations x))
      (first_nothing (first_items p.blocks) (reached_from p.equations x) (by_nothing x none))
      (least_found (pos 0) (pos 0) (reached_from p.equations x) (itself refl) (no_less (pos 0))
      (λ r h. subst (λ d. int_lt d (pos 0) ≡ false) (sym (by_nothing x none r h)) (no_less (pos 0))))
