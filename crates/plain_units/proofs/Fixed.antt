-- Bounds that are constant are the same at each call: a term that has a value without a unit and without storage has it everywhere.
use Rattle.std.specs.Prelude.{◌≡◌, ℕ, zero, suc, ◌≤◌, ℤ, pos, ◌+ℤ◌, ◌-ℤ◌, int_le, int_lt, List, [], ◌∷◌, ◌++◌, length, Option, Some, None, option_map, slice_get, Bool, true, false, if◌then◌else◌}
use Rattle.std.proofs.Common.{refl, sym, ap, ◌∙◌, subst, arith}
use Rattle.plain_mains.specs.f_tree.Values.{Bytes, Datum, IsInt, IsLog, IsText, IsSpot, IsProc, IsLabel, Nothing, BadDimension, NoMeaning, Checked, Gives, Fails, given_that}
use Rattle.plain_mains.specs.f_tree.Terms.{Term, Val, Fetch, At, All, Element, Alone, Part, Joined, Before, Between, Intrinsically, Refer, Bind, Bound, Terms, NoMore, More, valued_then}
use Rattle.plain_mains.specs.f_tree.Store.{Store, fetch_in, fetch}
use Rattle.plain_mains.specs.f_tree.Facts.{Dimension, Bounds, Facts, Frame}
use Rattle.plain_mains.specs.f_tree.Valuing.{Red, Valued, Bad, Asks, then_by, at_once, prefixed, Left, Decided, Wants, Wrong, left_of, right_after, operated, applied, named_as, whole, element, array_whole, alone, part, as_characters, piece, pieces, joined, fetched, reduce, reduce_all}
use Rattle.plain_mains.specs.f_tree.Association.{integer_of, sized, dimension_by, dimensions_by}
use Rattle.plain_mains.proofs.c_emit_laws.Choices.{got}
use Rattle.plain_mains.specs.f_tree.Attributes.{bare, no_program, no_facts, no_frame, integer_if_valued, constant_term, bounds_between, constant_upper, constant_bounds}

-- ## Values that stay

-- a value of the one is that of the other
abbrev Keeps : {A T : Type 0} → Red A T → Red A T → Type 0
Keeps {A = A} r q = (a : A) → r ≡ Valued a → q ≡ Valued a

kept_then : {A B S T : Type 0} (r q : Red A S) (back : S → T) (go on : A → Red B T) → Keeps r q → ((a : A) → Keeps (go a) (on a)) → Keeps (then_by r back go) (then_by q back on)
unfolding then_by
kept_then (Valued a) q back go on one later b is = subst (λ p. then_by p back on ≡ Valued b) (sym (one a refl)) (later a b is)
kept_then (Bad act) q back go on one later b is = absurd (cc)
kept_then (Asks callee ds rest) q back go on one later b is = absurd (cc)

-- what is given at once
kept_once : {A T : Type 0} (a b : Checked A) → ((x : A) → a ≡ Gives x → b ≡ Gives x) → Keeps {A = A} {T = T} (at_once a) (at_once b)
unfolding at_once
kept_once {A = A} {T = T} (Gives x) b same y is = subst (λ c. at_once {A = A} {T = T} c ≡ Valued y) (sym (same x refl)) is
kept_once (Fails act) b same y is = absurd (cc)

kept_itself : {A T : Type 0} (r : Red A T) → Keeps r r
kept_itself r a is = is

never_kept : {A T : Type 0} (a : Checked A) (q : Red A T) → ((x : A) → a ≡ Gives x → ⊥) → Keeps {A = A} {T = T} (at_once a) q
unfolding at_once
never_kept (Gives x) q none y is = absurd (none x refl)
never_kept (Fails act) q none y is = absurd (cc)

kept_right : (l : Left) (r q : Red Datum Term) → Keeps r q → Keeps (right_after l r) (right_after l q)
unfolding right_after
kept_right (Decided d) r q same a is = is
kept_right Wants r q same a is = same a is
kept_right Wrong r q same a is = is

-- ## Storage

-- nothing is fetched where there is no storage
abbrev no_store : Store
no_store = []

nowhere : (k : ℕ) → slice_get no_store k ≡ None
nowhere zero = refl
nowhere (suc k) = refl

nothing_fetched : (d a : Datum) → fetched [] d ≡ Gives a → ⊥
unfolding fetched fetch fetch_in
nothing_fetched (IsSpot p) a is = let none : fetch_in p (slice_get [] p.sequence) ≡ Fails NoMeaning = ap (fetch_in p) (nowhere p.sequence) in absurd (cc)
nothing_fetched (IsInt z) a is = absurd (cc)
nothing_fetched (IsLog b) a is = absurd (cc)
nothing_fetched (IsText cs) a is = absurd (cc)
nothing_fetched (IsProc x) a is = absurd (cc)
nothing_fetched (IsLabel l) a is = absurd (cc)
nothing_fetched Nothing a is = absurd (cc)

same_piece : (s : Store) (d : Datum) (cs : Bytes) → piece [] d ≡ Gives cs → piece s d ≡ Gives cs
unfolding piece fetch fetch_in given_that
same_piece s (IsSpot p) cs is =
    let none : given_that (fetch_in p (slice_get [] p.sequence)) as_characters ≡ Fails NoMeaning = ap (λ o. given_that (fetch_in p o) as_characters) (nowhere p.sequence) in absurd (cc)
same_piece s (IsText text) cs is = is
same_piece s (IsInt z) cs is = absurd (cc)
same_piece s (IsLog b) cs is = absurd (cc)
same_piece s (IsProc x) cs is = absurd (cc)
same_piece s (IsLabel l) cs is = absurd (cc)
same_piece s Nothing cs is = absurd (cc)

same_given : {A B : Type 0} (a b : Checked A) (go on : A → Checked B) (y : B) → ((x : A) → a ≡ Gives x → b ≡ Gives x) → ((x : A) → go x ≡ Gives y → on x ≡ Gives y) → given_that a go ≡ Gives y →
    given_that b on ≡ Gives y
unfolding given_that
same_given (Gives x) b go on y one later is = subst (λ c. given_that c on ≡ Gives y) (sym (one x refl)) (later x is)
same_given (Fails act) b go on y one later is = absurd (cc)

same_pieces : (s : Store) (ds : List Datum) (cs : Bytes) → pieces [] ds ≡ Gives cs → pieces s ds ≡ Gives cs
unfolding pieces
same_pieces s [] cs is = is
same_pieces s (d ∷ ds) cs is =
    same_given (piece [] d) (piece s d) (λ a. given_that (pieces [] ds) (λ b. Gives (a ++ b))) (λ a. given_that (pieces s ds) (λ b. Gives (a ++ b))) cs (same_piece s d)
    (λ a more. same_given (pieces [] ds) (pieces s ds) (λ b. Gives (a ++ b)) (λ b. Gives (a ++ b)) cs (same_pieces s ds) (λ b same. same) more) is

same_joined : (s : Store) (ds : List Datum) (a b : Checked Bytes) (d : Datum) → ((cs : Bytes) → a ≡ Gives cs → b ≡ Gives cs) → joined a ≡ Gives d → joined b ≡ Gives d
unfolding joined
same_joined s ds (Gives cs) b d same is = subst (λ c. joined c ≡ Gives d) (sym (same cs refl)) is
same_joined s ds (Fails act) b d same is = absurd (cc)

-- ## Terms

no_place : (x : Bytes) (d : Datum) → whole no_facts no_frame x ≡ Gives d → ⊥
unfolding whole named_as no_facts no_program bare
no_place x d is = absurd (cc)

no_array : (x : Bytes) (d : Datum) → array_whole no_facts no_frame x ≡ Gives d → ⊥
unfolding array_whole given_that whole named_as no_facts no_program bare
no_array x d is = absurd (cc)

no_element : (x : Bytes) (ds : List Datum) (d : Datum) → element no_facts no_frame x ds ≡ Gives d → ⊥
unfolding element given_that whole named_as no_facts no_program bare
no_element x ds d is = absurd (cc)

module _ (c : Facts) (f : Frame) (s : Store) where
  mutual
    unfolding reduce reduce_all

    kept_term : (env : List Datum) (t : Term) → Keeps (reduce no_facts no_frame [] env t) (reduce c f s env t)
    kept_term env (Val d) = kept_itself _
    kept_term env (Fetch t) =
        kept_then _ _ Fetch (λ d. at_once (fetched [] d)) (λ d. at_once (fetched s d)) (kept_term env t) (λ d. never_kept (fetched [] d) _ (nothing_fetched d))
    kept_term env (At x) = never_kept (whole no_facts no_frame x) _ (no_place x)
    kept_term env (All x) = never_kept (array_whole no_facts no_frame x) _ (no_array x)
    kept_term env (Element x ts) =
        kept_then _ _ (Element x) (λ ds. at_once (element no_facts no_frame x ds)) (λ ds. at_once (element c f x ds)) (kept_terms env ts)
        (λ ds. never_kept (element no_facts no_frame x ds) _ (no_element x ds))
    kept_term env (Alone t) = kept_then _ _ Alone (λ d. at_once (alone d)) (λ d. at_once (alone d)) (kept_term env t) (λ d. kept_itself _)
    kept_term env (Part x t from to) =
        kept_then _ _ (λ r. Part x r from to) _ _ (kept_term env t) (λ p.
        kept_then _ _ (λ r. Part x (Val p) r to) _ _ (kept_term env from) (λ a.
        kept_then _ _ (λ r. Part x (Val p) (Val a) r) (λ b. at_once (part x p a b)) (λ b. at_once (part x p a b)) (kept_term env to) (λ b. kept_itself _)))
    kept_term env (Joined ts) =
        kept_then _ _ Joined (λ ds. at_once (joined (pieces [] ds))) (λ ds. at_once (joined (pieces s ds))) (kept_terms env ts)
        (λ ds. kept_once (joined (pieces [] ds)) (joined (pieces s ds)) (λ d is. same_joined s ds (pieces [] ds) (pieces s ds) d (same_pieces s ds) is))
    kept_term env (Before op t) = kept_then _ _ (Before op) (λ d. at_once (prefixed op d)) (λ d. at_once (prefixed op d)) (kept_term env t) (λ d. kept_itself _)
    kept_term env (Between op t u) =
        kept_then _ _ (λ r. Between op r u) _ _ (kept_term env t) (λ a.
        kept_right (left_of op a) _ _ (kept_then _ _ (Between op (Val a)) (λ b. at_once (operated op a b)) (λ b. at_once (operated op a b)) (kept_term env u) (λ b. kept_itself _)))
    kept_term env (Intrinsically function ts) =
        kept_then _ _ (Intrinsically function) (λ ds. at_once (applied function ds)) (λ ds. at_once (applied function ds)) (kept_terms env ts) (λ ds. kept_itself _)
    kept_term env (Refer callee ts) = kept_then _ _ (Refer callee) (λ ds. Asks callee ds Val) (λ ds. Asks callee ds Val) (kept_terms env ts) (λ ds. kept_itself _)
    kept_term env (Bind ts t) =
        kept_then _ _ (λ rs. Bind rs t) _ _ (kept_terms env ts) (λ ds. kept_then _ _ (Bind (valued_then ds NoMore)) Valued Valued (kept_term ds t) (λ d. kept_itself _))
    kept_term env (Bound k) = kept_itself _

    kept_terms : (env : List Datum) (ts : Terms) → Keeps (reduce_all no_facts no_frame [] env ts) (reduce_all c f s env ts)
    kept_terms env NoMore = kept_itself _
    kept_terms env (More t ts) =
        kept_then _ _ (λ r. More r ts) _ _ (kept_term env t) (λ d. kept_then _ _ (More (Val d)) (λ ds. Valued (d ∷ ds)) (λ ds. Valued (d ∷ ds)) (kept_terms env ts) (λ ds. kept_itself _))

-- ## Bounds

integer_is : (r : Red Datum Term) (z : ℤ) → integer_if_valued r ≡ Some z → r ≡ Valued (IsInt z)
unfolding integer_if_valued
integer_is (Valued (IsInt y)) z is = ap (λ n. Valued (IsInt n)) (cc)
integer_is (Valued (IsLog b)) z is = absurd (cc)
integer_is (Valued (IsText cs)) z is = absurd (cc)
integer_is (Valued (IsSpot p)) z is = absurd (cc)
integer_is (Valued (IsProc x)) z is = absurd (cc)
integer_is (Valued (IsLabel l)) z is = absurd (cc)
integer_is (Valued Nothing) z is = absurd (cc)
integer_is (Bad act) z is = absurd (cc)
integer_is (Asks callee ds rest) z is = absurd (cc)

-- a constant has its value at each call
at_call : (c : Facts) (f : Frame) (s : Store) (t : Term) (z : ℤ) → constant_term t ≡ Some z → integer_of (reduce c f s [] t) ≡ Gives z
unfolding constant_term integer_of
at_call c f s t z is =
    let constant = integer_is (reduce no_facts no_frame [] [] t) z is in
    subst (λ (r : Red Datum Term). integer_of r ≡ Gives z) (sym (kept_term c f s [] t (IsInt z) constant)) refl

sized_if : (lower upper : ℤ) (b : Bounds) → sized lower upper ≡ Gives b → b ≡ record { lower = lower; upper = Some upper }
unfolding sized
sized_if lower upper b is = by (int_lt upper lower) (int_le ((upper -ℤ lower) +ℤ pos 1) (pos 2147483647)) is
  where
    by : (t q : Bool) → (if t then Fails BadDimension else if q then Gives (record { lower = lower; upper = Some upper }) else Fails BadDimension) ≡ Gives b →
        b ≡ record { lower = lower; upper = Some upper }
    by true q is = absurd (cc)
    by false true is = sym (cc)
    by false false is = absurd (cc)

-- an upper bound that is written is a number, where it is constant
record IsWritten (t : Term) (upper : Option ℤ) : Type 0 where
  last : ℤ
  is : constant_term t ≡ Some last
  same : upper ≡ Some last

written_is : (t : Term) (o upper : Option ℤ) → constant_term t ≡ o → option_map Some o ≡ Some upper → IsWritten t upper
written_is t None upper is high = absurd (cc)
written_is t (Some z) upper is high = record { last = z; is = is; same = sym (cc) }

given_same : (x y : ℤ) → Gives x ≡ Gives y → x ≡ y
given_same x y same = cc

-- one that is not written is assumed at the call
abbrev assumed_above : ℤ → Checked Bounds
assumed_above lower = Gives (record { lower = lower; upper = None })

assumed_if : (lower : ℤ) (b : Bounds) → assumed_above lower ≡ Gives b → b ≡ record { lower = lower; upper = None }
assumed_if lower b is = sym (cc)

assumed_is : (upper : Option ℤ) → Some None ≡ Some upper → None ≡ upper
assumed_is upper is = cc

-- the bounds at a call are those that are constant, and an upper bound that is assumed is assumed there
upper_at_call : (c : Facts) (f : Frame) (s : Store) (from : Term) (written : Option Term) (lower : ℤ) (upper : Option ℤ) (b : Bounds) → constant_term from ≡ Some lower →
    constant_upper written ≡ Some upper → dimension_by c f s (record { lower = from; upper = written }) ≡ Gives b → b ≡ record { lower = lower; upper = upper }
unfolding dimension_by constant_upper
upper_at_call c f s from None lower upper b low high is =
    let first = got (integer_of (reduce c f s [] from)) assumed_above b is in
    let one : lower ≡ first.value = given_same lower first.value (sym (at_call c f s from lower low) ∙ first.is) in
    assumed_if first.value b first.gives ∙ ap (λ z. record { lower = z; upper = None }) (sym one) ∙ ap (λ o. record { lower = lower; upper = o }) (assumed_is upper high)
upper_at_call c f s from (Some t) lower upper b low high is =
    let first = got (integer_of (reduce c f s [] from)) (λ z. given_that (integer_of (reduce c f s [] t)) (sized z)) b is in
    let second = got (integer_of (reduce c f s [] t)) (sized first.value) b first.gives in
    let known = written_is t (constant_term t) upper refl high in
    let one : lower ≡ first.value = given_same lower first.value (sym (at_call c f s from lower low) ∙ first.is) in
    let other : known.last ≡ second.value = given_same known.last second.value (sym (at_call c f s t known.last known.is) ∙ second.is) in
    sized_if first.value second.value b second.gives ∙ ap (λ z. record { lower = z; upper = Some second.value }) (sym one) ∙ ap (λ z. record { lower = lower; upper = Some z }) (sym other)
    ∙ ap (λ o. record { lower = lower; upper = o }) (sym known.same)

-- a dimension gives one pair of bounds, or none
few_bounds : (ds : List Dimension) → length (constant_bounds ds) ≤ length ds
unfolding constant_bounds bounds_between
few_bounds [] = omega arith
few_bounds (d ∷ ds) = by (constant_term d.lower) (constant_upper d.upper) (constant_bounds ds) (few_bounds ds)
  where
    by : (a : Option ℤ) (b : Option (Option ℤ)) (bs : List Bounds) → length bs ≤ length ds → length (bounds_between a b ++ bs) ≤ suc (length ds)
    by (Some a) (Some b) bs few = omega (arith, few)
    by (Some a) None bs few = omega (arith, few)
    by None b bs few = omega (arith, few)

-- where each dimension has bounds that are constant or assumed, these are the bounds at each call
module _ (c : Facts) (f : Frame) (s : Store) where
  pub fixed_bounds : (ds : List Dimension) → length (constant_bounds ds) ≡ length ds → (bounds : List Bounds) → dimensions_by c f s ds ≡ Gives bounds → bounds ≡ constant_bounds ds
  unfolding constant_bounds dimensions_by bounds_between
  fixed_bounds [] all bounds is = sym (cc)
  fixed_bounds (d ∷ ds) all bounds is =
      let first = got (dimension_by c f s d) (λ b. given_that (dimensions_by c f s ds) (λ bs. Gives (b ∷ bs))) bounds is in
      let second = got (dimensions_by c f s ds) (λ bs. Gives (first.value ∷ bs)) bounds first.gives in
      by (constant_term d.lower) (constant_upper d.upper) refl refl all first.value second.value first.is (λ all. fixed_bounds ds all second.value second.is) (cc)
    where
      by : (a : Option ℤ) (b : Option (Option ℤ)) → constant_term d.lower ≡ a → constant_upper d.upper ≡ b → length (bounds_between a b ++ constant_bounds ds) ≡ suc (length ds) →
          (one : Bounds) (more : List Bounds) → dimension_by c f s d ≡ Gives one → (length (constant_bounds ds) ≡ length ds → more ≡ constant_bounds ds) → one ∷ more ≡ bounds →
          bounds ≡ bounds_between a b ++ constant_bounds ds
      by (Some a) (Some b) low high all one more first second whole =
          sym whole ∙ ap (λ x. x ∷ more) (upper_at_call c f s d.lower d.upper a b one low high first) ∙ ap (λ xs. record { lower = a; upper = b } ∷ xs) (second (omega (arith, all)))
      by (Some a) None low high all one more first second whole = absurd (let few = few_bounds ds in let no : ⊥ = omega (arith, all, few) in no)
      by None b low high all one more first second whole = absurd (let few = few_bounds ds in let no : ⊥ = omega (arith, all, few) in no)
