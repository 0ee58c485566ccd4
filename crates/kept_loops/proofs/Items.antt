-- What the items of the steps of a unit are.
use Rattle.std.specs.Prelude.{◌≡◌, ℕ, zero, suc, ◌+◌, ◌-◌, ◌≤◌, nat_eq, Bool, true, false, ◌&&◌, List, [], ◌∷◌, length, drop, Option, Some, None, is_none, slice_get}
use Rattle.std.proofs.Common.{refl, sym, ap, ◌∙◌, arith}
use Rattle.std.proofs.lemmas.Bool.{and_from, eq-eqb}
use Rattle.translated_files.specs.c_tree.declared.expression.CExpr.{CExpr}
use Rattle.translated_files.specs.l_core.Pures.{Pure}
use Rattle.translated_files.specs.l_core.Steps as step
use Rattle.translated_files.specs.l_core.Steps.{Step, Text}
use Rattle.translated_files.specs.main_translation.Outlined.{label_at, loop_at}
use Rattle.translated_files.specs.named_units.item_emission.NamedEmission.{Knowledge, Kinds, place_expr, value_expr, branch_step, item_step}
use Rattle.translated_files.specs.named_units.named_items.declared.item.Item.{Item}
use Rattle.translated_files.specs.named_units.named_items.declared.item.Item.TheVariants as item
use Rattle.translated_files.specs.named_units.named_items.Items.{assign_by}
use Rattle.translated_files.specs.named_units.named_items.Layouts.{Layout}
use Rattle.translated_files.specs.named_units.named_items.Structured.{tests_turn}
use Rattle.translated_files.specs.named_units.named_mains.NamedMains.{item_ahead, items_from}
use Rattle.translated_files.specs.named_units.NamedUnits.{layout_for, bound_items_from, items_behind}
use Rattle.translated_files.specs.named_units.unit_item_laws.AgreeingUnits.{bound_step}
use Rattle.translated_files.specs.unit_file.UnitFile.{KeptBound}
use Rattle.loop_marks.specs.c_loops.KeptLayouts.{is_set, tests_ahead, tests_first, ends_turn, begins_well, begin_well}
use Rattle.loop_marks.specs.MarkedLoops.{LoopsAreMarked}

record AreAhead (x : Option Item) (xs : Option (List Item)) (items : List Item) : Type 0 where
  first : Item
  later : List Item
  first_is : x ≡ Some first
  later_are : xs ≡ Some later
  all : first ∷ later ≡ items

ahead_of : (x : Option Item) (xs : Option (List Item)) (items : List Item) → item_ahead x xs ≡ Some items → AreAhead x xs items
unfolding item_ahead
ahead_of (Some first) (Some later) items h = record { first = first; later = later; first_is = refl; later_are = refl; all = (let same : first ∷ later ≡ items = cc in same) }
ahead_of (Some first) None items h = absurd (cc)
ahead_of None xs items h = absurd (cc)

as_many : (known : Knowledge) (kinds : ℕ → Kinds) (n : ℕ) (steps : List Step) (items : List Item) → items_from known kinds n steps ≡ Some items → length items ≡ length steps
unfolding items_from
as_many known kinds n [] items h = ap length (let same : items ≡ [] = cc in same)
as_many known kinds n (st ∷ later) items h =
    let a = ahead_of (item_step known (kinds n) n st) (items_from known kinds (suc n) later) items h in
    ap length (sym a.all) ∙ ap suc (as_many known kinds (suc n) later a.later a.later_are)

-- the items behind those by which bounds are kept
rest_there : (known : Knowledge) (bounds : List KeptBound) (found : Option (List Item)) (items : List Item) → bound_items_from known bounds found ≡ Some items → (later : List Item) × (found ≡ Some later)
unfolding bound_items_from
rest_there known [] found items h = (items, h)
rest_there known (one ∷ bounds) found items h =
    let a = ahead_of (bound_step known one) (bound_items_from known bounds found) items h in
    rest_there known bounds found a.later a.later_are

rest_many : (known : Knowledge) (bounds : List KeptBound) (found : Option (List Item)) (items later : List Item) → bound_items_from known bounds found ≡ Some items → found ≡ Some later → length items ≡ length bounds + length later
unfolding bound_items_from
rest_many known [] found items later h there = (let same : items ≡ later = cc in let long = ap length same in let e : length items ≡ 0 + length later = omega (arith, long) in e)
rest_many known (one ∷ bounds) found items later h there =
    let a = ahead_of (bound_step known one) (bound_items_from known bounds found) items h in
    let long = ap length (sym a.all) in
    let more = rest_many known bounds found a.later later a.later_are there in
    (let e : length items ≡ length (one ∷ bounds) + length later = omega (arith, long, more) in e)

rest_gets : (known : Knowledge) (bounds : List KeptBound) (found : Option (List Item)) (items later : List Item) → bound_items_from known bounds found ≡ Some items → found ≡ Some later → (k j : ℕ) → k ≡ length bounds + j → slice_get items k ≡ slice_get later j
unfolding bound_items_from
rest_gets known [] found items later h there k j from =
    let same : items ≡ later = cc in
    let place : k ≡ j = omega (arith, from) in
    (λ i. slice_get (same i) (place i))
rest_gets known (one ∷ bounds) found items later h there zero j from = absurd (omega (arith, from))
rest_gets known (one ∷ bounds) found items later h there (suc k) j from =
    let a = ahead_of (bound_step known one) (bound_items_from known bounds found) items h in
    ap (λ xs. slice_get xs (suc k)) (sym a.all) ∙ rest_gets known bounds found a.later later a.later_are there k j (omega (arith, from))

-- as many items as bounds and steps behind them
pub many_behind : (known : Knowledge) (kinds : ℕ → Kinds) (bounds : List KeptBound) (steps : List Step) (items : List Item) → items_behind known kinds bounds steps ≡ Some items → length items ≡ length bounds + length (drop (length bounds) steps)
unfolding items_behind
many_behind known kinds bounds steps items h =
    let found = items_from known kinds (length bounds) (drop (length bounds) steps) in
    let rest = rest_there known bounds found items h in
    let whole = rest_many known bounds found items rest.0 h rest.1 in
    let own = as_many known kinds (length bounds) (drop (length bounds) steps) rest.0 rest.1 in
    (let e : length items ≡ length bounds + length (drop (length bounds) steps) = omega (arith, whole, own) in e)

-- ## Loops

assigned_sets : (x y : Option CExpr) (i : Item) → assign_by x y ≡ Some i → is_set i ≡ true
unfolding assign_by is_set
assigned_sets (Some a) (Some b) i h = ap is_set (let same : i ≡ item.Assign a b = cc in same)
assigned_sets (Some a) None i h = absurd (cc)
assigned_sets None y i h = absurd (cc)

put_sets : (known : Knowledge) (kind : Kinds) (n : ℕ) (st : Step) (place value : Pure) (i : Item) → st ≡ step.Put place value → item_step known kind n st ≡ Some i → is_set i ≡ true
unfolding item_step
put_sets known kind n st place value i is h = assigned_sets (place_expr known place) (value_expr known value) i (ap (item_step known kind n) (sym is) ∙ h)

-- a step that tests is a test
branch_of : (x : Option CExpr) (on off : ℕ) (i : Item) → branch_step x on off ≡ Some i → (e : CExpr) × (i ≡ item.Branch e on off)
unfolding branch_step
branch_of (Some test) on off i h = (test, (let same : i ≡ item.Branch test on off = cc in same))
branch_of None on off i h = absurd (cc)

unless_is : (known : Knowledge) (kind : Kinds) (n : ℕ) (st : Step) (test : Pure) (size : ℕ) (i : Item) → st ≡ step.Unless test size → item_step known kind n st ≡ Some i → (e : CExpr) × (i ≡ item.Branch e (suc n) (suc n + size))
unfolding item_step
unless_is known kind n st test size i is h = branch_of (value_expr known test) (suc n) (suc n + size) i (ap (item_step known kind n) (sym is) ∙ h)

again_is : (known : Knowledge) (kind : Kinds) (n : ℕ) (st : Step) (test : Pure) (size : ℕ) (i : Item) → st ≡ step.AgainIf test size → item_step known kind n st ≡ Some i → (e : CExpr) × (i ≡ item.Branch e (n - size) (suc n))
unfolding item_step
again_is known kind n st test size i is h = branch_of (value_expr known test) (n - size) (suc n) i (ap (item_step known kind n) (sym is) ∙ h)

-- the step at the place of an item, of which it is made
pub record IsMadeOf (known : Knowledge) (kinds : ℕ → Kinds) (steps : List Step) (j k : ℕ) (i : Item) : Type 0 where
  pub its : Step
  pub there : slice_get steps k ≡ Some its
  pub made : item_step known (kinds j) j its ≡ Some i

no_item : (items : List Item) (k : ℕ) (i : Item) → items ≡ [] → slice_get items k ≡ Some i → ⊥
no_item [] k i none at = absurd (cc)
no_item (x ∷ items) k i none at = absurd (cc)

item_at : (known : Knowledge) (kinds : ℕ → Kinds) (n j k : ℕ) (steps : List Step) (items : List Item) (i : Item) → items_from known kinds n steps ≡ Some items → j ≡ n + k → slice_get items k ≡ Some i → IsMadeOf known kinds steps j k i
unfolding items_from
item_at known kinds n j k [] items i h from at = absurd (no_item items k i (let same : items ≡ [] = cc in same) at)
item_at known kinds n j zero (st ∷ later) items i h from at =
    let a = ahead_of (item_step known (kinds n) n st) (items_from known kinds (suc n) later) items h in
    let first : Some a.first ≡ Some i = ap (λ xs. slice_get xs 0) a.all ∙ at in
    let place : n ≡ j = omega (arith, from) in
    record { its = st; there = refl; made = (λ m. item_step known (kinds (sym place m)) (sym place m) st) ∙ a.first_is ∙ first }
item_at known kinds n j (suc k) (st ∷ later) items i h from at =
    let a = ahead_of (item_step known (kinds n) n st) (items_from known kinds (suc n) later) items h in
    let more = item_at known kinds (suc n) j k later a.later i a.later_are (omega (arith, from)) (ap (λ xs. slice_get xs (suc k)) a.all ∙ at) in
    record { its = more.its; there = more.there; made = more.made }

get_behind : {A : Type 0} → (m k j : ℕ) (items : List A) → j ≡ m + k → slice_get (drop m items) k ≡ slice_get items j
get_behind zero k j items from = ap (slice_get items) (let same : k ≡ j = omega (arith, from) in same)
get_behind (suc m) k j [] from = refl
get_behind (suc m) k zero (i ∷ items) from = absurd (omega (arith, from))
get_behind (suc m) k (suc j) (i ∷ items) from = get_behind m k j items (omega (arith, from))

-- an item behind those of bounds is that of a step
pub made_behind : (known : Knowledge) (kinds : ℕ → Kinds) (bounds : List KeptBound) (steps : List Step) (items : List Item) → items_behind known kinds bounds steps ≡ Some items → (k : ℕ) (i : Item) → length bounds ≤ k → slice_get items k ≡ Some i
    → IsMadeOf known kinds steps k k i
unfolding items_behind
made_behind known kinds bounds steps items h k i late at =
    let found = items_from known kinds (length bounds) (drop (length bounds) steps) in
    let rest = rest_there known bounds found items h in
    let from : k ≡ length bounds + (k - length bounds) = omega (arith, late) in
    let own = item_at known kinds (length bounds) k (k - length bounds) (drop (length bounds) steps) rest.0 i rest.1 from (sym (rest_gets known bounds found items rest.0 h rest.1 k (k - length bounds) from) ∙ at) in
    record { its = own.its; there = sym (get_behind (length bounds) (k - length bounds) k steps from) ∙ own.there; made = own.made }

-- the first item ahead, if there is one, is the test of a loop
tests_ahead_by : (n size on off : ℕ) (e : CExpr) (i : Item) → i ≡ item.Branch e on off → on ≡ suc n → off ≡ suc n + (size + 2) → tests_ahead n size i ≡ true
unfolding tests_ahead
tests_ahead_by n size on off e i is on_is off_is =
    ap (tests_ahead n size) is ∙ and_from (nat_eq on (suc n)) (nat_eq off (suc n + (size + 2))) (eq-eqb on (suc n) on_is) (eq-eqb off (suc n + (size + 2)) off_is)

first_by : (n size : ℕ) (items : List Item) → ((i : Item) → slice_get items 0 ≡ Some i → tests_ahead n size i ≡ true) → tests_first n size items ≡ true
unfolding tests_first
first_by n size [] each = refl
first_by n size (i ∷ items) each = each i refl

-- and so is the one behind the turn
ends_by : (l : Layout) (n size : ℕ) (found : Option Item) → ((i : Item) → found ≡ Some i → tests_turn l n size (Some i) ≡ true) → ends_turn l n size found ≡ true
unfolding ends_turn
ends_by l n size None each = refl
ends_by l n size (Some i) each = each i refl

none_is : {A : Type 0} → (x : Option A) → x ≡ None → is_none x ≡ true
none_is x is = ap is_none is

tests_turn_by : (l : Layout) (n size on off : ℕ) (e : CExpr) (i : Item) → i ≡ item.Branch e on off → on ≡ n + 1 → off ≡ n + size + 2 → l.label (n + size + 1) ≡ None → tests_turn l n size (Some i) ≡ true
unfolding tests_turn
tests_turn_by l n size on off e i is on_is off_is bare =
    ap (λ x. tests_turn l n size (Some x)) is
    ∙ and_from (nat_eq on (n + 1)) (nat_eq off (n + size + 2) && is_none (l.label (n + size + 1))) (eq-eqb on (n + 1) on_is)
    (and_from (nat_eq off (n + size + 2)) (is_none (l.label (n + size + 1))) (eq-eqb off (n + size + 2) off_is) (none_is (l.label (n + size + 1)) bare))

module _ (known : Knowledge) (kinds : ℕ → Kinds) (first : ℕ) (u : Text) (items : List Item) (made_of : (k : ℕ) (i : Item) → first ≤ k → slice_get items k ≡ Some i → IsMadeOf known kinds u.steps k k i)
    (late : (n size : ℕ) → loop_at u n ≡ Some size → first ≤ n) (loops : LoopsAreMarked u) where
  set_at : (k : ℕ) (i : Item) (place value : Pure) → first ≤ k → slice_get items k ≡ Some i → slice_get u.steps k ≡ Some (step.Put place value) → is_set i ≡ true
  set_at k i place value behind at sets =
      let m = made_of k i behind at in
      let same : m.its ≡ step.Put place value = (let there = m.there in cc) in
      put_sets known (kinds k) k m.its place value i same m.made

  first_at : (n size : ℕ) (test : Pure) (i : Item) → first ≤ n → slice_get items n ≡ Some i → slice_get u.steps n ≡ Some (step.Unless test (suc (suc size))) → tests_ahead n size i ≡ true
  first_at n size test i behind at tests =
      let m = made_of n i behind at in
      let same : m.its ≡ step.Unless test (suc (suc size)) = (let there = m.there in cc) in
      let e = unless_is known (kinds n) n m.its test (suc (suc size)) i same m.made in
      tests_ahead_by n size (suc n) (suc n + suc (suc size)) e.0 i e.1 refl (omega arith)

  last_at : (n size : ℕ) (test : Pure) (i : Item) → first ≤ suc n + size → slice_get items (suc n + size) ≡ Some i → slice_get u.steps (suc n + size) ≡ Some (step.AgainIf test size) → label_at u (suc n + size) ≡ None → tests_turn (layout_for u) n size (Some i) ≡ true
  last_at n size test i behind at tests bare =
      let m = made_of (suc n + size) i behind at in
      let same : m.its ≡ step.AgainIf test size = (let there = m.there in cc) in
      let e = again_is known (kinds (suc n + size)) (suc n + size) m.its test size i same m.made in
      let own : n + size + 1 ≡ suc n + size = omega arith in
      tests_turn_by (layout_for u) n size (suc n + size - size) (suc (suc n + size)) e.0 i e.1 (omega arith) (omega arith) (ap (label_at u) own ∙ bare)

  begun : (once : Bool) (k size : ℕ) (i : Item) → u.facts.program.onetrip ≡ once → slice_get items k ≡ Some i → loop_at u k ≡ Some size → begins_well (layout_for u) once k (Some size) i (drop (suc k) items) ≡ true
  unfolding begins_well
  begun true k size i once at begins =
      let s = loops.behind once k size begins in
      let behind = late k size begins in
      and_from (is_set i) (ends_turn (layout_for u) k size (slice_get (drop (suc k) items) size)) (set_at k i s.place s.value behind at s.sets)
      (ends_by (layout_for u) k size (slice_get (drop (suc k) items) size)
      (λ j there. last_at k size s.test j (omega (arith, behind)) (sym (get_behind (suc k) size (suc k + size) items refl) ∙ there) s.tests s.unlabelled))
  begun false k size i once at begins =
      let s = loops.before once k size begins in
      let behind = late k size begins in
      and_from (is_set i) (tests_first (suc k) size (drop (suc k) items)) (set_at k i s.place s.value behind at s.sets)
      (first_by (suc k) size (drop (suc k) items) (λ j there. first_at (suc k) size s.test j (omega (arith, behind)) (sym (get_behind (suc k) 0 (suc k) items (omega arith)) ∙ there) s.tests))

  -- an item ahead, and those behind it
  record IsAhead (n : ℕ) (i : Item) (later : List Item) : Type 0 where
    there : slice_get items n ≡ Some i
    behind : later ≡ drop (suc n) items

  begins_by : (once : Bool) (n : ℕ) (found : Option ℕ) (i : Item) (later : List Item) → u.facts.program.onetrip ≡ once → loop_at u n ≡ found → IsAhead n i later → begins_well (layout_for u) once n found i later ≡ true
  unfolding begins_well
  begins_by once n None i later is at ahead = refl
  begins_by once n (Some size) i later is at ahead = ap (begins_well (layout_for u) once n (Some size) i) ahead.behind ∙ begun once n size i is ahead.there at

  all_begin : (once : Bool) (n : ℕ) (rest : List Item) → u.facts.program.onetrip ≡ once → rest ≡ drop n items → begin_well (layout_for u) once n rest ≡ true
  unfolding begin_well
  all_begin once n [] is from = refl
  all_begin once n (i ∷ later) is from =
      let a = split n items i later from in
      and_from (begins_well (layout_for u) once n (loop_at u n) i later) (begin_well (layout_for u) once (suc n) later)
      (begins_by once n (loop_at u n) i later is refl (record { there = a.0; behind = a.1 })) (all_begin once (suc n) later is a.1)
    where
      split : (n : ℕ) (all : List Item) (i : Item) (later : List Item) → i ∷ later ≡ drop n all → (slice_get all n ≡ Some i) × (later ≡ drop (suc n) all)
      split zero [] i later from = absurd (cc)
      split zero (x ∷ all) i later from = ((let same : x ≡ i = cc in ap Some same), (let same : later ≡ all = cc in same))
      split (suc n) [] i later from = absurd (cc)
      split (suc n) (x ∷ all) i later from = split n all i later from

  -- each loop of the items begins well
  pub begin_from : (once : Bool) → u.facts.program.onetrip ≡ once → begin_well (layout_for u) once 0 items ≡ true
  begin_from once is = all_begin once 0 items is refl
