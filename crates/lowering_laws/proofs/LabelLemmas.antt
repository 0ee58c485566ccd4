-- A value is a label only where a label is written, and a procedure knows the labels that were passed to it.
use Rattle.std.specs.Prelude.{◌≡◌, ℕ, zero, suc, ℤ, nat_eq, Bool, true, false, not, ◌||◌, List, [], ◌∷◌, ◌++◌, Option, Some, None, slice_get, bytes_eq, if◌then◌else◌}
use Rattle.std.proofs.Common.{refl, sym, ap, ◌∙◌, subst, arith, true≢false}
use Rattle.std.proofs.lemmas.Bool.{eqb-true, eq-eqb}
use Rattle.fortran_laws.specs.f_tree.declared.names.Class.{Class}
use Rattle.fortran_laws.specs.f_tree.Values as value
use Rattle.fortran_laws.specs.f_tree.Values.{Bytes, Spot, Datum, IsInt, IsLog, IsText, IsSpot, IsLabel, Checked, Gives, Fails, given_that, checked}
use Rattle.fortran_laws.specs.f_tree.Terms.{Function, Prefix, Operator, Wanted, AsSubroutine, AsFunction, Callee, Term, Val, Fetch, At, All, Element, Alone, Part, Joined, Before, Between, Intrinsically, Refer, Bind, Bound, Terms, NoMore, More, valued_then}
use Rattle.fortran_laws.specs.f_tree.Store.{Store, value_of_type, as_text, fetch_as, fetch_from, fetch_in, fetch}
use Rattle.fortran_laws.specs.f_tree.Facts.{Attribute, Formal, Named, Alternate, ProgramUnit, Facts, Frame}
use Rattle.fortran_laws.specs.f_tree.Valuing.{Red, Valued, Bad, Asks, then_by, at_once, prefixed, operated, on_integers, on_logicals, on_texts, divided, Left, Decided, Wants, Wrong, left_of, right_after, applied, inverse_of, raised, extreme, remainder_of, with_sign_of, difference_over, character_of, total_length, if_bits, if_bit, stored_at, if_bound, if_there, named_as, whole, further, element_at, element, reaching, all_elements, array_whole, alone, cut, part, joined, pieces, fetched, bound_to, reduce, reduce_all}
use Rattle.fortran_laws.specs.f_tree.Association.{passing, passing_one, passing_more, made, sequence_of, Bindings, value_for, bound_as, agreed, bind_all, length_of}
use Rattle.fortran_laws.specs.f_tree.Step.{contains}
use Rattle.lowering.specs.Statements.{wants_no_value, may_be_label, passes_label, label_written, labels_written, hides_label, hides_labels}
use Rattle.lowering_laws.specs.Layer.{IsNoLabel, labels_in, may_be_other, passes_other, AreWritten}

-- ## Values that are no labels

abbrev pub AreNoLabels : List Datum → Type 0
AreNoLabels [] = Unit {0}
AreNoLabels (d ∷ ds) = IsNoLabel d × AreNoLabels ds

-- no label is given
abbrev Never : Checked Datum → Type 0
Never x = (l : ℕ) → x ≡ Gives (IsLabel l) → ⊥

extreme_none : (pick : ℤ → ℤ → ℤ) (best : ℤ) (ds : List Datum) → Never (extreme pick best ds)
unfolding extreme
extreme_none pick best [] l e = absurd (cc)
extreme_none pick best (IsInt z ∷ ds) l e = extreme_none pick (pick best z) ds l e
extreme_none pick best (IsLog b ∷ ds) l e = absurd (cc)
extreme_none pick best (IsText cs ∷ ds) l e = absurd (cc)
extreme_none pick best (IsSpot p ∷ ds) l e = absurd (cc)
extreme_none pick best (value.IsProc x ∷ ds) l e = absurd (cc)
extreme_none pick best (IsLabel k ∷ ds) l e = absurd (cc)
extreme_none pick best (value.Nothing ∷ ds) l e = absurd (cc)

applied_none : (f : Function) (ds : List Datum) → Never (applied f ds)
unfolding applied inverse_of raised remainder_of with_sign_of difference_over character_of total_length if_bits if_bit checked given_that divided on_texts
applied_none f ds l e = grind (arith, extreme_none)

prefixed_none : (op : Prefix) (d : Datum) → Never (prefixed op d)
unfolding prefixed checked
prefixed_none op d l e = grind arith

operated_none : (op : Operator) (a b : Datum) → Never (operated op a b)
unfolding operated on_integers on_logicals on_texts divided checked
operated_none op a b l e = grind arith

pub fetch_none : (s : Store) (p : Spot) → Never (fetch s p)
unfolding fetch fetch_in fetch_from fetch_as value_of_type as_text
fetch_none s p l e = grind arith

fetched_none : (s : Store) (d : Datum) → Never (fetched s d)
unfolding fetched
fetched_none s d l e = grind (arith, fetch_none)

further_none : (p : Spot) (n : ℕ) → Never (further p n)
unfolding further
further_none p n l e = grind arith

element_none : (c : Facts) (f : Frame) (x : Bytes) (ds : List Datum) → Never (element c f x ds)
unfolding element element_at given_that
element_none c f x ds l e = grind (arith, further_none)

array_none : (c : Facts) (f : Frame) (x : Bytes) → Never (array_whole c f x)
unfolding array_whole all_elements reaching given_that
array_none c f x l e = grind arith

alone_none : (d : Datum) → Never (alone d)
unfolding alone
alone_none d l e = grind arith

cut_none : (x : Bytes) (p : Spot) (from to : ℤ) → Never (cut x p from to)
unfolding cut
cut_none x p from to l e = grind arith

part_none : (x : Bytes) (p from to : Datum) → Never (part x p from to)
unfolding part
part_none x p from to l e = grind (arith, cut_none)

joined_none : (x : Checked Bytes) → Never (joined x)
unfolding joined
joined_none x l e = grind arith

-- of the frame it is asked that no dummy argument is a label
abbrev HoldsNone : Frame → Type 0
HoldsNone f = (x : Bytes) (d : Datum) → f.bound x ≡ Some d → IsNoLabel d

bound_none : (x : Option Datum) → ((d : Datum) → x ≡ Some d → IsNoLabel d) → Never (if_bound x)
unfolding if_bound
bound_none None fine l e = absurd (cc)
bound_none (Some d) fine l e = fine d refl l (let is : d ≡ IsLabel l = cc in is)

by_class : (c : Facts) (f : Frame) (x : Bytes) (a : Attribute) (k : Class) → HoldsNone f → Never (named_as c f x (record a { class = k }))
unfolding named_as stored_at if_there
by_class c f x a k fine l e = grind (arith, bound_none (f.bound x) (fine x))

whole_none : (c : Facts) (f : Frame) (x : Bytes) → HoldsNone f → Never (whole c f x)
unfolding whole
whole_none c f x fine l e = by_class c f x (c.program.attribute x) (c.program.attribute x).class fine l e

-- ## Valuing what is no label

-- what a function answers is no label
abbrev pub Suited : Wanted → Datum → Type 0
Suited AsSubroutine d = Unit {0}
Suited (AsFunction basic width) d = IsNoLabel d

abbrev IsOf : (ℕ → Bool) → Datum → Type 0
IsOf known d = (l : ℕ) → d ≡ IsLabel l → known l ≡ true

-- the labels among values are known
abbrev pub AreOf : (ℕ → Bool) → List Datum → Type 0
AreOf known [] = Unit {0}
AreOf known (d ∷ ds) = IsOf known d × AreOf known ds

neither : (a b : Bool) → (a || b) ≡ false → (a ≡ false) × (b ≡ false)
neither false b e = (refl, e)
neither true b e = absurd (true≢false e)

both_false : (a b : Bool) → a ≡ false → b ≡ false → (a || b) ≡ false
both_false a b e e' = ap (λ z. z || b) e ∙ e'

not_false : (b : Bool) → not b ≡ false → b ≡ true
not_false true e = refl
not_false false e = absurd (true≢false e)

module _ (known : ℕ → Bool) where
  abbrev IsKnown : Datum → Type 0
  IsKnown d = IsOf known d

  abbrev AreKnown : List Datum → Type 0
  AreKnown ds = AreOf known ds

  never_known : (d : Datum) → IsNoLabel d → IsKnown d
  never_known d none = λ l e. absurd (none l e)

  bound_to_known : (ds : List Datum) (i : ℕ) (d : Datum) → AreKnown ds → bound_to ds i ≡ Gives d → IsKnown d
  unfolding bound_to
  bound_to_known [] i d fine e = absurd (cc)
  bound_to_known (d ∷ ds) zero d' fine e = let is : d ≡ d' = cc in subst IsKnown is fine.0
  bound_to_known (d ∷ ds) (suc i) d' fine e = bound_to_known ds i d' fine.1 e

  abbrev Fine : Red Datum Term → Type 0
  Fine (Valued d) = IsKnown d
  Fine (Bad act) = Unit {0}
  Fine (Asks callee ds rest) = (d : Datum) → Suited callee.want d → may_be_other known (rest d) ≡ false

  abbrev pub AllFine : Red (List Datum) Terms → Type 0
  AllFine (Valued ds) = AreKnown ds
  AllFine (Bad act) = Unit {0}
  AllFine (Asks callee ds rest) = (d : Datum) → Suited callee.want d → passes_other known (rest d) ≡ false

  fine_once : (x : Checked Datum) → Never x → Fine (at_once x)
  unfolding at_once
  fine_once (Gives d) never = λ l e. absurd (never l (ap Gives e))
  fine_once (Fails act) never = tt

  fine_if : (x : Checked Datum) → ((d : Datum) → x ≡ Gives d → IsKnown d) → Fine (at_once x)
  unfolding at_once
  fine_if (Gives d) known' = known' d refl
  fine_if (Fails act) known' = tt

  then_fine : {A S : Type 0} (x : Red A S) (back : S → Term) (go : A → Red Datum Term) → ((r : S) → may_be_other known (back r) ≡ false) → ((a : A) → Fine (go a)) → Fine (then_by x back go)
  unfolding then_by
  then_fine (Valued a) back go backs goes' = goes' a
  then_fine (Bad act) back go backs goes' = tt
  then_fine (Asks callee ds rest) back go backs goes' = λ d suited. backs (rest d)

  all_then_fine : (x : Red (List Datum) Terms) (back : Terms → Term) (go : List Datum → Red Datum Term) → AllFine x → ((rs : Terms) → passes_other known rs ≡ false → may_be_other known (back rs) ≡ false) →
      ((ds : List Datum) → AreKnown ds → Fine (go ds)) → Fine (then_by x back go)
  unfolding then_by
  all_then_fine (Valued ds) back go fine backs goes' = goes' ds fine
  all_then_fine (Bad act) back go fine backs goes' = tt
  all_then_fine (Asks callee ds rest) back go fine backs goes' = λ d suited. backs (rest d) (fine d suited)

  one_then_fine : (x : Red Datum Term) (back : Term → Term) → Fine x → ((r : Term) → may_be_other known r ≡ false → may_be_other known (back r) ≡ false) → Fine (then_by x back Valued)
  unfolding then_by
  one_then_fine (Valued d) back fine backs = fine
  one_then_fine (Bad act) back fine backs = tt
  one_then_fine (Asks callee ds rest) back fine backs = λ d suited. backs (rest d) (fine d suited)

  first_fine : (x : Red Datum Term) (back : Term → Terms) (go : Datum → Red (List Datum) Terms) → Fine x → ((r : Term) → may_be_other known r ≡ false → passes_other known (back r) ≡ false) →
      ((d : Datum) → IsKnown d → AllFine (go d)) → AllFine (then_by x back go)
  unfolding then_by
  first_fine (Valued d) back go fine backs goes' = goes' d fine
  first_fine (Bad act) back go fine backs goes' = tt
  first_fine (Asks callee ds rest) back go fine backs goes' = λ d suited. backs (rest d) (fine d suited)

  later_fine : (x : Red (List Datum) Terms) (d : Datum) → AllFine x → IsKnown d → may_be_other known (Val d) ≡ false → AllFine (then_by x (More (Val d)) (λ ds. Valued (d ∷ ds)))
  unfolding then_by passes_other
  later_fine (Valued ds) d fine none val = (none, fine)
  later_fine (Bad act) d fine none val = tt
  later_fine (Asks callee ds rest) d fine none val = λ d' suited. both_false (may_be_other known (Val d)) (passes_other known (rest d')) val (fine d' suited)

  val_none : (d : Datum) → may_be_other known (Val d) ≡ false → IsKnown d
  unfolding may_be_other
  val_none (IsLabel l) e = λ l' e'. ap known (let back : l' ≡ l = cc in back) ∙ not_false (known l) e
  val_none (IsInt z) e = λ l e'. absurd (cc)
  val_none (IsLog b) e = λ l e'. absurd (cc)
  val_none (IsText cs) e = λ l e'. absurd (cc)
  val_none (IsSpot p) e = λ l e'. absurd (cc)
  val_none (value.IsProc x) e = λ l e'. absurd (cc)
  val_none value.Nothing e = λ l e'. absurd (cc)

  none_val : (d : Datum) → IsKnown d → may_be_other known (Val d) ≡ false
  unfolding may_be_other
  none_val (IsLabel l) none = ap not (none l refl)
  none_val (IsInt z) none = refl
  none_val (IsLog b) none = refl
  none_val (IsText cs) none = refl
  none_val (IsSpot p) none = refl
  none_val (value.IsProc x) none = refl
  none_val value.Nothing none = refl

  valued_none : (ds : List Datum) → AreKnown ds → passes_other known (valued_then ds NoMore) ≡ false
  unfolding valued_then passes_other
  valued_none [] none = refl
  valued_none (d ∷ ds) none = both_false (may_be_other known (Val d)) (passes_other known (valued_then ds NoMore)) (none_val d none.0) (valued_none ds none.1)

  asked_fine : (callee : Callee) (want : Wanted) (ds : List Datum) → wants_no_value want ≡ false → (d : Datum) → Suited want d → may_be_other known (Val d) ≡ false
  unfolding wants_no_value
  asked_fine callee AsSubroutine ds e d suited = absurd (true≢false e)
  asked_fine callee (AsFunction basic width) ds e d suited = none_val d (never_known d suited)

  right_fine : (l : Left) (x : Red Datum Term) → ((d : Datum) → l ≡ Decided d → IsKnown d) → Fine x → Fine (right_after l x)
  unfolding right_after
  right_fine (Decided d) x decided fine = decided d refl
  right_fine Wants x decided fine = fine
  right_fine Wrong x decided fine = tt

  decided_none : (op : Operator) (a d : Datum) → left_of op a ≡ Decided d → IsNoLabel d
  unfolding left_of
  decided_none op a d e l e' = grind arith

  module _ (c : Facts) (f : Frame) (s : Store) (holds : HoldsNone f) where
    mutual
      unfolding reduce reduce_all may_be_other passes_other

      reduce_fine : (env : List Datum) (t : Term) → AreKnown env → may_be_other known t ≡ false → Fine (reduce c f s env t)
      reduce_fine env (Val d) argued e = val_none d e
      reduce_fine env (Fetch t) argued e = then_fine (reduce c f s env t) Fetch (λ d. at_once (fetched s d)) (λ r. refl) (λ d. fine_once (fetched s d) (fetched_none s d))
      reduce_fine env (At x) argued e = fine_once (whole c f x) (whole_none c f x holds)
      reduce_fine env (All x) argued e = fine_once (array_whole c f x) (array_none c f x)
      reduce_fine env (Element x ts) argued e = then_fine (reduce_all c f s env ts) (Element x) (λ ds. at_once (element c f x ds)) (λ r. refl) (λ ds. fine_once (element c f x ds) (element_none c f x ds))
      reduce_fine env (Alone t) argued e = then_fine (reduce c f s env t) Alone (λ d. at_once (alone d)) (λ r. refl) (λ d. fine_once (alone d) (alone_none d))
      reduce_fine env (Part x t from to) argued e =
          then_fine (reduce c f s env t) (λ r. Part x r from to) _ (λ r. refl) (λ p.
          then_fine (reduce c f s env from) (λ r. Part x (Val p) r to) _ (λ r. refl) (λ a.
          then_fine (reduce c f s env to) (Part x (Val p) (Val a)) (λ b. at_once (part x p a b)) (λ r. refl) (λ b. fine_once (part x p a b) (part_none x p a b))))
      reduce_fine env (Joined ts) argued e = then_fine (reduce_all c f s env ts) Joined (λ ds. at_once (joined (pieces s ds))) (λ r. refl) (λ ds. fine_once (joined (pieces s ds)) (joined_none (pieces s ds)))
      reduce_fine env (Before op t) argued e = then_fine (reduce c f s env t) (Before op) (λ d. at_once (prefixed op d)) (λ r. refl) (λ d. fine_once (prefixed op d) (prefixed_none op d))
      reduce_fine env (Between op t b) argued e =
          then_fine (reduce c f s env t) (λ r. Between op r b) _ (λ r. refl) (λ a.
          right_fine (left_of op a) _ (λ d e'. never_known d (decided_none op a d e'))
          (then_fine (reduce c f s env b) (Between op (Val a)) (λ d. at_once (operated op a d)) (λ r. refl) (λ d. fine_once (operated op a d) (operated_none op a d))))
      reduce_fine env (Intrinsically function ts) argued e =
          then_fine (reduce_all c f s env ts) (Intrinsically function) (λ ds. at_once (applied function ds)) (λ r. refl) (λ ds. fine_once (applied function ds) (applied_none function ds))
      reduce_fine env (Refer callee ts) argued e = then_fine (reduce_all c f s env ts) (Refer callee) (λ ds. Asks callee ds Val) (λ r. e) (λ ds. asked_fine callee callee.want ds e)
      reduce_fine env (Bind ts t) argued e =
          let parts = neither (passes_other known ts) (may_be_other known t) e in
          all_then_fine (reduce_all c f s env ts) (λ rs. Bind rs t) _ (all_fine env ts argued parts.0) (λ rs none. both_false (passes_other known rs) (may_be_other known t) none parts.1)
          (λ ds none.
          one_then_fine (reduce c f s ds t) (Bind (valued_then ds NoMore)) (reduce_fine ds t none parts.1)
          (λ r none'. both_false (passes_other known (valued_then ds NoMore)) (may_be_other known r) (valued_none ds none) none'))
      reduce_fine env (Bound i) argued e = fine_if (bound_to env i) (λ d e'. bound_to_known env i d argued e')

      pub all_fine : (env : List Datum) (ts : Terms) → AreKnown env → passes_other known ts ≡ false → AllFine (reduce_all c f s env ts)
      all_fine env NoMore argued e = tt
      all_fine env (More t ts) argued e =
          let parts = neither (may_be_other known t) (passes_other known ts) e in
          first_fine (reduce c f s env t) (λ r. More r ts) _ (reduce_fine env t argued parts.0) (λ r none. both_false (may_be_other known r) (passes_other known ts) none parts.1)
          (λ d none. later_fine (reduce_all c f s env ts) d (all_fine env ts argued parts.1) none (none_val d none))

-- ## Labels that are known

-- no label is known
abbrev none_known : ℕ → Bool
none_known label = false

mutual
  unfolding may_be_label passes_label may_be_other passes_other

  other_is : (t : Term) → may_be_other none_known t ≡ may_be_label t
  other_is (Val (IsLabel l)) = refl
  other_is (Val (IsInt z)) = refl
  other_is (Val (IsLog b)) = refl
  other_is (Val (IsText cs)) = refl
  other_is (Val (IsSpot p)) = refl
  other_is (Val (value.IsProc x)) = refl
  other_is (Val value.Nothing) = refl
  other_is (Fetch t) = refl
  other_is (At x) = refl
  other_is (All x) = refl
  other_is (Element x ts) = refl
  other_is (Alone t) = refl
  other_is (Part x t from to) = refl
  other_is (Joined ts) = refl
  other_is (Before op t) = refl
  other_is (Between op t b) = refl
  other_is (Intrinsically function ts) = refl
  other_is (Refer callee ts) = refl
  other_is (Bind ts t) = ap (λ b. b || may_be_other none_known t) (others_are ts) ∙ ap (λ b. passes_label ts || b) (other_is t)
  other_is (Bound i) = refl

  others_are : (ts : Terms) → passes_other none_known ts ≡ passes_label ts
  others_are NoMore = refl
  others_are (More t ts) = ap (λ b. b || passes_other none_known ts) (other_is t) ∙ ap (λ b. may_be_label t || b) (others_are ts)

-- ## Labels that are written

labels_behind : (d : Datum) (ds : List Datum) → IsNoLabel d → labels_in (d ∷ ds) ≡ labels_in ds
labels_behind (IsLabel l) ds none = absurd (none l refl)
labels_behind (IsInt z) ds none = refl
labels_behind (IsLog b) ds none = refl
labels_behind (IsText cs) ds none = refl
labels_behind (IsSpot p) ds none = refl
labels_behind (value.IsProc x) ds none = refl
labels_behind value.Nothing ds none = refl

-- an operand is a label that is written, or another one
data Operand : Term → Type 0 where
  a_label : {l : ℕ} → Operand (Val (IsLabel l))
  another : {t : Term} → hides_label t ≡ may_be_label t → label_written t ≡ [] → Operand t

operand_is : (t : Term) → Operand t
unfolding hides_label label_written
operand_is (Val (IsLabel l)) = a_label
operand_is (Val (IsInt z)) = another refl refl
operand_is (Val (IsLog b)) = another refl refl
operand_is (Val (IsText cs)) = another refl refl
operand_is (Val (IsSpot p)) = another refl refl
operand_is (Val (value.IsProc x)) = another refl refl
operand_is (Val value.Nothing) = another refl refl
operand_is (Fetch t) = another refl refl
operand_is (At x) = another refl refl
operand_is (All x) = another refl refl
operand_is (Element x ts) = another refl refl
operand_is (Alone t) = another refl refl
operand_is (Part x t from to) = another refl refl
operand_is (Joined ts) = another refl refl
operand_is (Before op t) = another refl refl
operand_is (Between op t b) = another refl refl
operand_is (Intrinsically function ts) = another refl refl
operand_is (Refer callee ts) = another refl refl
operand_is (Bind ts t) = another refl refl
operand_is (Bound i) = another refl refl

abbrev IsWritten : List ℕ → Term → Type 0
IsWritten labels t = (hides_label t ≡ false) × (label_written t ≡ labels)

none_written : (t : Term) → Operand t → may_be_label t ≡ false → IsWritten [] t
unfolding may_be_label
none_written _ a_label e = absurd (true≢false e)
none_written t (another hides none) e = (hides ∙ e, none)

-- what valuing comes to: values of which these are the labels, or what is left, where these are written
abbrev OneWritten : List ℕ → Red Datum Term → Type 0
OneWritten labels (Valued d) = labels_in (d ∷ []) ≡ labels
OneWritten labels (Bad act) = Unit {0}
OneWritten labels (Asks callee ds rest) = (d : Datum) → Suited callee.want d → IsWritten labels (rest d)

abbrev pub AllWritten : List ℕ → Red (List Datum) Terms → Type 0
AllWritten labels (Valued ds) = labels_in ds ≡ labels
AllWritten labels (Bad act) = Unit {0}
AllWritten labels (Asks callee ds rest) = (d : Datum) → Suited callee.want d → AreWritten labels (rest d)

fine_written : (x : Red Datum Term) → Fine none_known x → OneWritten [] x
fine_written (Valued d) fine = labels_behind d [] (λ l e. true≢false (sym (fine l e)))
fine_written (Bad act) fine = tt
fine_written (Asks callee ds rest) fine = λ d suited. none_written (rest d) (operand_is (rest d)) (sym (other_is (rest d)) ∙ fine d suited)

value_written : (d : Datum) → IsWritten (labels_in (d ∷ [])) (Val d)
unfolding hides_label label_written may_be_label
value_written (IsLabel l) = (refl, refl)
value_written (IsInt z) = (refl, refl)
value_written (IsLog b) = (refl, refl)
value_written (IsText cs) = (refl, refl)
value_written (IsSpot p) = (refl, refl)
value_written (value.IsProc x) = (refl, refl)
value_written value.Nothing = (refl, refl)

labels_first : (d : Datum) (ds : List Datum) → labels_in (d ∷ ds) ≡ labels_in (d ∷ []) ++ labels_in ds
labels_first (IsLabel l) ds = refl
labels_first (IsInt z) ds = refl
labels_first (IsLog b) ds = refl
labels_first (IsText cs) ds = refl
labels_first (IsSpot p) ds = refl
labels_first (value.IsProc x) ds = refl
labels_first value.Nothing ds = refl

both_written : (t : Term) (ts : Terms) (ls ms : List ℕ) → IsWritten ls t → AreWritten ms ts → AreWritten (ls ++ ms) (More t ts)
unfolding hides_labels labels_written
both_written t ts ls ms one more = (both_false (hides_label t) (hides_labels ts) one.0 more.0, ap (λ z. z ++ labels_written ts) one.1 ∙ ap (λ z. ls ++ z) more.1)

first_written : (x : Red Datum Term) (ts : Terms) (ls ms : List ℕ) (go : Datum → Red (List Datum) Terms) → OneWritten ls x → AreWritten ms ts → ((d : Datum) → labels_in (d ∷ []) ≡ ls → AllWritten (ls ++ ms) (go d)) →
    AllWritten (ls ++ ms) (then_by x (λ r. More r ts) go)
unfolding then_by
first_written (Valued d) ts ls ms go one more goes' = goes' d one
first_written (Bad act) ts ls ms go one more goes' = tt
first_written (Asks callee ds rest) ts ls ms go one more goes' = λ d suited. both_written (rest d) ts ls ms (one d suited) more

later_written : (x : Red (List Datum) Terms) (d : Datum) (ls ms : List ℕ) → labels_in (d ∷ []) ≡ ls → AllWritten ms x → AllWritten (ls ++ ms) (then_by x (More (Val d)) (λ ds. Valued (d ∷ ds)))
unfolding then_by
later_written (Valued ds) d ls ms one more = labels_first d ds ∙ ap (λ z. z ++ labels_in ds) one ∙ ap (λ z. ls ++ z) more
later_written (Bad act) d ls ms one more = tt
later_written (Asks callee ds rest) d ls ms one more = λ d' suited. both_written (Val d) (rest d') ls ms (subst (λ z. IsWritten z (Val d)) one (value_written d)) (more d' suited)

module _ (c : Facts) (f : Frame) (s : Store) (holds : HoldsNone f) where
  one_by : (t : Term) → Operand t → hides_label t ≡ false → OneWritten (label_written t) (reduce c f s [] t)
  unfolding reduce label_written
  one_by _ a_label e = refl
  one_by t (another hides none) e = subst (λ z. OneWritten z (reduce c f s [] t)) (sym none) (fine_written (reduce c f s [] t) (reduce_fine none_known c f s holds [] t tt (other_is t ∙ sym hides ∙ e)))

  -- the labels among the operands of a CALL are those that are written
  pub all_written : (ts : Terms) → hides_labels ts ≡ false → AllWritten (labels_written ts) (reduce_all c f s [] ts)
  unfolding reduce_all hides_labels labels_written
  all_written NoMore e = refl
  all_written (More t ts) e =
      let parts = neither (hides_label t) (hides_labels ts) e in
      first_written (reduce c f s [] t) ts (label_written t) (labels_written ts) _ (one_by t (operand_is t) parts.0) (parts.1, refl)
      (λ d one. later_written (reduce_all c f s [] ts) d (label_written t) (labels_written ts) one (all_written ts parts.1))

-- ## What is passed and what is bound

eq_known : (known : ℕ → Bool) (k l : ℕ) (b more : Bool) → nat_eq k l ≡ b → known k ≡ true → (more ≡ true → known l ≡ true) → (b || more) ≡ true → known l ≡ true
eq_known known k l true more e is later found = ap known (sym (eqb-true k l e)) ∙ is
eq_known known k l false more e is later found = later found

pub known_among : (known : ℕ → Bool) (ds : List Datum) (l : ℕ) → AreOf known ds → contains (labels_in ds) l ≡ true → known l ≡ true
unfolding contains
known_among known [] l all found = absurd (true≢false (sym found))
known_among known (IsLabel k ∷ ds) l all found = eq_known known k l (nat_eq k l) (contains (labels_in ds) l) refl (all.0 k refl) (λ later. known_among known ds l all.1 later) found
known_among known (IsInt z ∷ ds) l all found = known_among known ds l all.1 found
known_among known (IsLog b ∷ ds) l all found = known_among known ds l all.1 found
known_among known (IsText cs ∷ ds) l all found = known_among known ds l all.1 found
known_among known (IsSpot p ∷ ds) l all found = known_among known ds l all.1 found
known_among known (value.IsProc x ∷ ds) l all found = known_among known ds l all.1 found
known_among known (value.Nothing ∷ ds) l all found = known_among known ds l all.1 found

pub passing_labels : (ds : List Datum) (s : Store) → labels_in (passing s ds).actuals ≡ labels_in ds
unfolding passing passing_one passing_more made sequence_of
passing_labels [] s = refl
passing_labels (IsLabel l ∷ ds) s = ap (λ ls. l ∷ ls) (passing_labels ds s)
passing_labels (IsInt z ∷ ds) s = passing_labels ds _
passing_labels (IsLog b ∷ ds) s = passing_labels ds _
passing_labels (IsText cs ∷ ds) s = passing_labels ds _
passing_labels (IsSpot p ∷ ds) s = passing_labels ds s
passing_labels (value.IsProc x ∷ ds) s = passing_labels ds s
passing_labels (value.Nothing ∷ ds) s = passing_labels ds s

agreed_none : (a : Attribute) (d b : Datum) → agreed a d ≡ Gives b → IsNoLabel b
unfolding agreed bound_as
agreed_none a d b e l e' = grind arith

agreed_no_label : (a : Attribute) (d b : Datum) → agreed a d ≡ Gives b → IsNoLabel d
unfolding agreed
agreed_no_label a (IsLabel k) b e l e' = absurd (cc)
agreed_no_label a (IsInt z) b e l e' = absurd (cc)
agreed_no_label a (IsLog z) b e l e' = absurd (cc)
agreed_no_label a (IsText z) b e l e' = absurd (cc)
agreed_no_label a (IsSpot z) b e l e' = absurd (cc)
agreed_no_label a (value.IsProc z) b e l e' = absurd (cc)
agreed_no_label a value.Nothing b e l e' = absurd (cc)

-- the labels that a procedure knows are those that it was passed, and no dummy argument is one
abbrev pub BindsWell : List Datum → Bindings → Type 0
BindsWell ds bs = (labels_in ds ≡ bs.labels) × AreNoLabels bs.values

named_binds : (u : ProgramUnit) (x : Bytes) (n : ℕ) (d : Datum) (ds : List Datum) (bs : Bindings) (y : Checked Datum) (z : Checked Bindings) → agreed (u.attribute x) d ≡ y →
    ((more : Bindings) → z ≡ Gives more → BindsWell ds more) →
    given_that y (λ b. given_that z (λ more. Gives (record more { names = x ∷ more.names; values = b ∷ more.values; lengths = n ∷ more.lengths }))) ≡ Gives bs → BindsWell (d ∷ ds) bs
unfolding given_that
named_binds u x n d ds bs (Fails act) z e later is = absurd (cc)
named_binds u x n d ds bs (Gives b) (Fails act) e later is = absurd (cc)
named_binds u x n d ds bs (Gives b) (Gives more) e later is =
    let well = later more refl in
    let all : record more { names = x ∷ more.names; values = b ∷ more.values; lengths = n ∷ more.lengths } ≡ bs = cc in
    subst (λ z. BindsWell (d ∷ ds) z) all (labels_behind d ds (agreed_no_label (u.attribute x) d b e) ∙ well.0, (agreed_none (u.attribute x) d b e, well.1))

label_binds : (l : ℕ) (ds : List Datum) (bs : Bindings) (z : Checked Bindings) → ((more : Bindings) → z ≡ Gives more → BindsWell ds more) →
    given_that z (λ more. Gives (record more { labels = l ∷ more.labels })) ≡ Gives bs → BindsWell (IsLabel l ∷ ds) bs
unfolding given_that
label_binds l ds bs (Fails act) later is = absurd (cc)
label_binds l ds bs (Gives more) later is =
    let well = later more refl in
    let all : record more { labels = l ∷ more.labels } ≡ bs = cc in
    subst (λ z. BindsWell (IsLabel l ∷ ds) z) all (ap (λ ls. l ∷ ls) well.0, well.1)

pub binds_well : (u : ProgramUnit) (formals : List Formal) (ds : List Datum) (bs : Bindings) → bind_all u formals ds ≡ Gives bs → BindsWell ds bs
unfolding bind_all
binds_well u [] [] bs e =
    let all : record { names = []; values = []; lengths = []; labels = [] } ≡ bs = cc in
    subst (λ z. BindsWell [] z) all (refl, tt)
binds_well u [] (d ∷ ds) bs e = absurd (cc)
binds_well u (Named x ∷ formals) [] bs e = absurd (cc)
binds_well u (Named x ∷ formals) (d ∷ ds) bs e = named_binds u x (length_of d) d ds bs (agreed (u.attribute x) d) (bind_all u formals ds) refl (λ more is. binds_well u formals ds more is) e
binds_well u (Alternate ∷ formals) [] bs e = absurd (cc)
binds_well u (Alternate ∷ formals) (IsLabel l ∷ ds) bs e = label_binds l ds bs (bind_all u formals ds) (λ more is. binds_well u formals ds more is) e
binds_well u (Alternate ∷ formals) (IsInt z ∷ ds) bs e = absurd (cc)
binds_well u (Alternate ∷ formals) (IsLog b ∷ ds) bs e = absurd (cc)
binds_well u (Alternate ∷ formals) (IsText cs ∷ ds) bs e = absurd (cc)
binds_well u (Alternate ∷ formals) (IsSpot p ∷ ds) bs e = absurd (cc)
binds_well u (Alternate ∷ formals) (value.IsProc x ∷ ds) bs e = absurd (cc)
binds_well u (Alternate ∷ formals) (value.Nothing ∷ ds) bs e = absurd (cc)

value_by : (b : Bool) (d : Datum) (y : Option Datum) (d' : Datum) → IsNoLabel d → ((d' : Datum) → y ≡ Some d' → IsNoLabel d') → (if b then Some d else y) ≡ Some d' → IsNoLabel d'
value_by true d y d' one more e = subst IsNoLabel (let is : d ≡ d' = cc in is) one
value_by false d y d' one more e = more d' e

pub bound_values : (x : Bytes) (names : List Bytes) (ds : List Datum) (d : Datum) → AreNoLabels ds → value_for x names ds ≡ Some d → IsNoLabel d
unfolding value_for
bound_values x [] ds d none e = absurd (cc)
bound_values x (y ∷ ys) [] d none e = absurd (cc)
bound_values x (y ∷ ys) (d' ∷ ds) d none e = value_by (bytes_eq x y) d' (value_for x ys ds) d none.0 (λ d'' is. bound_values x ys ds d'' none.1 is) e

-- ## The labels of a list

pub contains_nth : (labels : List ℕ) (n l : ℕ) → slice_get labels n ≡ Some l → contains labels l ≡ true
unfolding contains
contains_nth [] n l e = absurd (cc)
contains_nth (k ∷ ks) zero l e = let same : k ≡ l = cc in ap (λ b. b || contains ks l) (eq-eqb k l same)
contains_nth (k ∷ ks) (suc n) l e = or_true (nat_eq k l) (contains ks l) (contains_nth ks n l e)
  where
    or_true : (a b : Bool) → b ≡ true → (a || b) ≡ true
    or_true true b e = refl
    or_true false b e = e
