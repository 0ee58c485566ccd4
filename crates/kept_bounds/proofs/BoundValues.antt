-- The pure value of a bound is the bound.
use Rattle.std.specs.Prelude.{◌≡◌, List, Option, Some, None, option_map}
use Rattle.std.proofs.Common.{refl, sym, ap, ◌∙◌}
use Rattle.l_core.specs.f_tree.Values.{Bytes, Datum, IsInt, Checked, Gives, Fails, given_that}
use Rattle.l_core.specs.f_tree.Terms.{Prefix, Operator, Term, Val, Fetch, At, Before, Between}
use Rattle.l_core.specs.f_tree.Store.{Store}
use Rattle.l_core.specs.f_tree.Facts.{Facts, Frame}
use Rattle.l_core.specs.f_tree.Valuing.{Red, Valued, Bad, Asks, then_by, at_once, Left, Decided, Wants, Wrong, left_of, right_after, prefixed, operated, named_as, whole, fetched, reduce}
use Rattle.l_core.specs.Pures.{Pure, Constant, Load, Name, Prefixed, Operated, Temporaries, where_wanted, meant}
use Rattle.kept_bounds.specs.KeptBounds.{place_pure, operated_pure, bound_pure, without_bounds}

some_same : {A : Type 0} (a b : A) → Some a ≡ Some b → a ≡ b
some_same a b h = cc

valued_same : {A T : Type 0} (a b : A) (r : Red A T) → r ≡ Valued a → r ≡ Valued b → a ≡ b
valued_same a b r one other = let both : Valued a ≡ Valued b = sym one ∙ other in cc

-- ## What has a value

pub valued_by : {T : Type 0} (x : Checked Datum) (d : Datum) → at_once {A = Datum} {T = T} x ≡ Valued d → x ≡ Gives d
unfolding at_once
valued_by (Gives e) d h = ap Gives (valued_same e d (Valued e) refl h)
valued_by (Fails act) d h = absurd (cc)

record IsThen {A B S T : Type 0} (r : Red A S) (go : A → Red B T) (b : B) : Type 0 where
  value : A
  is : r ≡ Valued value
  goes : go value ≡ Valued b

then_valued : {A B S T : Type 0} (r : Red A S) (back : S → T) (go : A → Red B T) (b : B) → then_by r back go ≡ Valued b → IsThen r go b
unfolding then_by
then_valued (Valued a) back go b h = record { value = a; is = refl; goes = h }
then_valued (Bad act) back go b h = absurd (cc)
then_valued (Asks c ds rest) back go b h = absurd (cc)

after_valued : (left : Left) (right : Red Datum Term) (d : Datum) (result : Checked Datum) → ((e : Datum) → right ≡ Valued e → result ≡ Gives e) → right_after left right ≡ Valued d → where_wanted left result ≡ Gives d
unfolding right_after where_wanted
after_valued (Decided a) right d result same h = ap Gives (valued_same a d (Valued a) refl h)
after_valued Wants right d result same h = same d h
after_valued Wrong right d result same h = absurd (cc)

-- ## Of what a pure value is made

record IsMapped (op : Prefix) (x : Option Pure) (p : Pure) : Type 0 where
  one : Pure
  is : x ≡ Some one
  made : Prefixed op one ≡ p

mapped_by : (op : Prefix) (x : Option Pure) (p : Pure) → option_map (Prefixed op) x ≡ Some p → IsMapped op x p
mapped_by op None p h = absurd (cc)
mapped_by op (Some one) p h = record { one = one; is = refl; made = some_same (Prefixed op one) p h }

record IsBoth (op : Operator) (x y : Option Pure) (p : Pure) : Type 0 where
  one : Pure
  other : Pure
  one_is : x ≡ Some one
  other_is : y ≡ Some other
  made : Operated op one other ≡ p

both_by : (op : Operator) (x y : Option Pure) (p : Pure) → operated_pure op x y ≡ Some p → IsBoth op x y p
unfolding operated_pure
both_by op None y p h = absurd (cc)
both_by op (Some one) None p h = absurd (cc)
both_by op (Some one) (Some other) p h = record { one = one; other = other; one_is = refl; other_is = refl; made = some_same (Operated op one other) p h }

-- ## Its value

module _ (c : Facts) (f : Frame) (kept : Temporaries) (s : Store) (env : List Datum) where
  -- what a name stands for does not go by bounds
  same_whole : (x : Bytes) → whole c (without_bounds f) x ≡ whole c f x
  unfolding whole named_as
  same_whole x = refl

  place_meant : (t : Term) (p : Pure) (d : Datum) → place_pure t ≡ Some p → reduce c f s env (Fetch t) ≡ Valued d → meant c (without_bounds f) kept s p ≡ Gives d
  unfolding place_pure reduce meant given_that
  place_meant (At x) p d made h =
      let named = then_valued (at_once (whole c f x)) Fetch (λ q. at_once (fetched s q)) d h in
      let there : whole c (without_bounds f) x ≡ Gives named.value = same_whole x ∙ valued_by (whole c f x) named.value named.is in
      ap (meant c (without_bounds f) kept s) (sym (some_same (Load (Name x)) p made)) ∙ ap (λ r. given_that r (fetched s)) there ∙ valued_by (fetched s named.value) d named.goes
  place_meant _ p d made h = absurd (cc)

  pub bound_meant : (t : Term) (p : Pure) (d : Datum) → bound_pure t ≡ Some p → reduce c f s env t ≡ Valued d → meant c (without_bounds f) kept s p ≡ Gives d
  unfolding bound_pure reduce meant given_that
  bound_meant (Val (IsInt z)) p d made h = ap (meant c (without_bounds f) kept s) (sym (some_same (Constant (IsInt z)) p made)) ∙ ap Gives (valued_same (IsInt z) d (reduce c f s env (Val (IsInt z))) refl h)
  bound_meant (Fetch t) p d made h = place_meant t p d made h
  bound_meant (Before op t) p d made h =
      let m = mapped_by op (bound_pure t) p made in
      let one = then_valued (reduce c f s env t) (Before op) (λ e. at_once (prefixed op e)) d h in
      let there = bound_meant t m.one one.value m.is one.is in
      ap (meant c (without_bounds f) kept s) (sym m.made) ∙ ap (λ r. given_that r (prefixed op)) there ∙ valued_by (prefixed op one.value) d one.goes
  bound_meant (Between op t u) p d made h =
      let m = both_by op (bound_pure t) (bound_pure u) p made in
      let one = then_valued (reduce c f s env t) (λ r. Between op r u) (λ a. right_after (left_of op a) (then_by (reduce c f s env u) (Between op (Val a)) (λ b. at_once (operated op a b)))) d h in
      let there = bound_meant t m.one one.value m.one_is one.is in
      ap (meant c (without_bounds f) kept s) (sym m.made)
      ∙ ap (λ r. given_that r (λ a. where_wanted (left_of op a) (given_that (meant c (without_bounds f) kept s m.other) (operated op a)))) there
      ∙ after_valued (left_of op one.value) (then_by (reduce c f s env u) (Between op (Val one.value)) (λ b. at_once (operated op one.value b))) d (given_that (meant c (without_bounds f) kept s m.other) (operated op one.value))
      (λ e right. let other = then_valued (reduce c f s env u) (Between op (Val one.value)) (λ b. at_once (operated op one.value b)) e right in
      ap (λ r. given_that r (operated op one.value)) (bound_meant u m.other other.value m.other_is other.is) ∙ valued_by (operated op one.value other.value) e other.goes) one.goes
  bound_meant _ p d made h = absurd (cc)
