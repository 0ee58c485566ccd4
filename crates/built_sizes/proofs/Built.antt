-- Statements that are built from items have a flat step for each of these.
use Rattle.std.specs.Prelude.{◌≡◌, ℕ, zero, suc, ◌+◌, ◌-◌, ◌≤◌, nat_eq, nat_lt, nat_le, Bool, true, false, ◌&&◌, List, [], ◌∷◌, map, length, take, drop, Option, Some, None, slice_get, if◌then◌else◌}
use Rattle.std.proofs.Common.{refl, sym, ap, ◌∙◌, subst, arith}
use Rattle.std.proofs.lemmas.Bool.{and_parts, leb-true}
use Rattle.std.proofs.lemmas.List.{length-drop, length-take-le}
use Rattle.c_tree.specs.Opened.{trees_opened}
use Rattle.c_tree.specs.FlatForm.{body, body_of_all}
use Rattle.c_tree.specs.declared.expression.CExpr.{CExpr}
use Rattle.c_tree.specs.declared.statement.CCase.{CCase}
use Rattle.c_tree.specs.declared.statement.CNext.{CNext}
use Rattle.c_tree.specs.declared.statement.CStmt.{CStmt}
use Rattle.c_tree.specs.declared.statement.CStmt.TheVariants as stmt
use Rattle.named_items.specs.c_structure.Statements.{with_label, before_cases, are_case_numbers}
use Rattle.named_items.specs.declared.item.Case.{Case}
use Rattle.named_items.specs.declared.item.Item.{Item}
use Rattle.named_items.specs.declared.item.Item.TheVariants.{Assign, Branch, Select, Jump, Call, SetCall, Return, Nothing}
use Rattle.named_items.specs.declared.part.Head.{Head}
use Rattle.named_items.specs.declared.part.Part.{Part}
use Rattle.named_items.specs.Layouts.{Layout}
use Rattle.named_items.specs.Structured.{Writer, part, goto_label, call_of, set_call_of, statement_of, alone, if_by, if_else_by, end_of_arm, one_arm, two_arms, arms_for, branch_for, test_for, case_for, cases_for, switch_by, switch_for, plain_for, next_for, goes_back, is_unmarked, is_loop, for_by, turns_for, head_for, tests_turn, test_in, do_by, do_for, loop_for, part_for, marked, part_at, behind, onward, structured}
use Rattle.built_sizes.specs.SizedStructures.{EachStructureHasASize}
use Rattle.built_sizes.proofs.Sizes.{size_if, size_if_else, size_for, size_do, size_labelled, size_switch}

get_inside : {A : Type 0} → (k : ℕ) (xs : List A) (x : A) → slice_get xs k ≡ Some x → suc k ≤ length xs
get_inside k [] x h = absurd (cc)
get_inside zero (y ∷ ys) x h = omega arith
get_inside (suc k) (y ∷ ys) x h = let more = get_inside k ys x h in omega (arith, more)

same_part : (p q : Part) → Some p ≡ Some q → p ≡ q
same_part p q h = cc

-- a statement for an item and so many items behind it
record Covers (later : List Item) (p : Part) : Type 0 where
  within : p.taken ≤ length later
  size : (body p.statement).size ≡ suc p.taken

-- what is known of the statements of items from a position on
abbrev Sized : Writer → Type 0
Sized write = (n : ℕ) (items : List Item) (ss : List CStmt) → write n items ≡ Some ss → (body_of_all ss).size ≡ length items

module _ (l : Layout) where
  -- ## One item

  bare : (later : List Item) (s : CStmt) → (body s).size ≡ 1 → Covers later (part s 0)
  bare later s one = record { within = omega arith; size = one }

  alone_covers : (later : List Item) (x : Option CStmt) (p : Part) → ((s : CStmt) → x ≡ Some s → Covers later (part s 0)) → alone x ≡ Some p → Covers later p
  unfolding alone
  alone_covers later (Some s) p each h = subst (Covers later) (same_part (part s 0) p h) (each s refl)
  alone_covers later None p each h = absurd (cc)

  single : (later : List Item) (s t : CStmt) → (body t).size ≡ 1 → Some t ≡ Some s → Covers later (part s 0)
  single later s t one h = subst (λ (u : CStmt). Covers later (part u 0)) (let same : t ≡ s = cc in same) (bare later t one)

  goto_covers : (later : List Item) (found : Option (List ℕ)) (s : CStmt) → goto_label found ≡ Some s → Covers later (part s 0)
  unfolding goto_label trees_opened
  goto_covers later (Some name) s h = single later s (stmt.Goto name) refl h
  goto_covers later None s h = absurd (cc)

  statement_covers : (item : Item) (later : List Item) (s : CStmt) → statement_of l item ≡ Some s → Covers later (part s 0)
  unfolding statement_of call_of set_call_of trees_opened
  statement_covers (Assign a b) later s h = single later s (stmt.Set a b) refl h
  statement_covers (Branch test on off) later s h = absurd (cc)
  statement_covers (Select value cases otherwise) later s h = absurd (cc)
  statement_covers (Jump position) later s h = goto_covers later (l.label position) s h
  statement_covers (Call callee arguments) later s h = single later s (call_of callee arguments) refl h
  statement_covers (SetCall target callee arguments) later s h = single later s (set_call_of target callee arguments) refl h
  statement_covers (Return value) later s h = single later s (stmt.Return value) refl h
  statement_covers Nothing later s h = single later s stmt.Empty refl h

  -- ## Tests

  if_made : (write : Writer) → Sized write → (n size : ℕ) (test : CExpr) (later : List Item) (first : List CStmt) → size ≤ length later → write (n + 1) (take size later) ≡ Some first → Covers later (part (stmt.If test first None) size)
  if_made write sized n size test later first room is =
      let inner = sized (n + 1) (take size later) first is in
      let long = length-take-le size later room in
      let whole = size_if test first in
      record { within = room; size = (let e : (body (stmt.If test first None)).size ≡ suc size = omega (arith, inner, long, whole) in e) }

  if_by_covers : (size : ℕ) (test : CExpr) (later : List Item) (x : Option (List CStmt)) (p : Part) → ((first : List CStmt) → x ≡ Some first → Covers later (part (stmt.If test first None) size)) → if_by test size x ≡ Some p → Covers later p
  unfolding if_by
  if_by_covers size test later (Some first) p each h = subst (Covers later) (same_part (part (stmt.If test first None) size) p h) (each first refl)
  if_by_covers size test later None p each h = absurd (cc)

  if_covers : (write : Writer) → Sized write → (n size : ℕ) (test : CExpr) (later : List Item) (p : Part) → size ≤ length later → one_arm write n test size later ≡ Some p → Covers later p
  unfolding one_arm
  if_covers write sized n size test later p room h = if_by_covers size test later (write (n + 1) (take size later)) p (λ first is. if_made write sized n size test later first room is) h

  -- two arms, with a jump between them
  arms_made : (write : Writer) → Sized write → (n size other : ℕ) (test : CExpr) (end : ℕ) (later : List Item) (first second : List CStmt) → slice_get later size ≡ Some (Jump end) → other ≤ length later - (size + 1) → write (n + 1) (take size later) ≡ Some first
      → write (n + size + 2) (take other (drop (size + 1) later)) ≡ Some second → Covers later (part (stmt.If test first (Some second)) (size + 1 + other))
  arms_made write sized n size other test end later first second jump room is is' =
      let inside = get_inside size later (Jump end) jump in
      let one = sized (n + 1) (take size later) first is in
      let two = sized (n + size + 2) (take other (drop (size + 1) later)) second is' in
      let long = length-take-le size later (omega (arith, inside)) in
      let left = length-drop (size + 1) later in
      let longer = length-take-le other (drop (size + 1) later) (omega (arith, left, room)) in
      let whole = size_if_else test first second in
      record {
        within = (let e : size + 1 + other ≤ length later = omega (arith, inside, room) in e);
        size = (let e : (body (stmt.If test first (Some second))).size ≡ suc (size + 1 + other) = omega (arith, one, two, long, longer, whole) in e);
      }

  arms_by_covers : (size : ℕ) (test : CExpr) (later : List Item) (x y : Option (List CStmt)) (p : Part) → ((first second : List CStmt) → x ≡ Some first → y ≡ Some second → Covers later (part (stmt.If test first (Some second)) size))
      → if_else_by test size x y ≡ Some p → Covers later p
  unfolding if_else_by
  arms_by_covers size test later (Some first) (Some second) p each h = subst (Covers later) (same_part (part (stmt.If test first (Some second)) size) p h) (each first second refl refl)
  arms_by_covers size test later (Some first) None p each h = absurd (cc)
  arms_by_covers size test later None y p each h = absurd (cc)

  -- an item that ends an arm is a jump
  ends_by_jump : (x : Option Item) (end : ℕ) → end_of_arm x ≡ Some end → x ≡ Some (Jump end)
  unfolding end_of_arm
  ends_by_jump (Some (Jump position)) end h = let same : position ≡ end = cc in ap (λ k. Some (Jump k)) same
  ends_by_jump x end h = absurd (cc)

  arms_cover : (write : Writer) → Sized write → (n size : ℕ) (test : CExpr) (later : List Item) (found : Option ℕ) (p : Part) → end_of_arm (slice_get later size) ≡ found → arms_for write n test size found later ≡ Some p → Covers later p
  unfolding arms_for two_arms
  arms_cover write sized n size test later None p is h = absurd (cc)
  arms_cover write sized n size test later (Some end) p is h = by (nat_le (n + size + 2) end && nat_le (end - (n + size + 2)) (length later - (size + 1))) refl h
    where
      by : (b : Bool) → nat_le (n + size + 2) end && nat_le (end - (n + size + 2)) (length later - (size + 1)) ≡ b → (if b then two_arms write n test size (end - (n + size + 2)) later else None) ≡ Some p → Covers later p
      by true so g =
          let room = leb-true (end - (n + size + 2)) (length later - (size + 1)) (and_parts (nat_le (n + size + 2) end) (nat_le (end - (n + size + 2)) (length later - (size + 1))) so).1 in
          arms_by_covers (size + 1 + (end - (n + size + 2))) test later (write (n + 1) (take size later)) (write (n + size + 2) (take (end - (n + size + 2)) (drop (size + 1) later))) p
          (λ first second one two. arms_made write sized n size (end - (n + size + 2)) test end later first second (ends_by_jump (slice_get later size) end is) room one two) g
      by false so g = absurd (cc)

  branch_covers : (write : Writer) → Sized write → (n size : ℕ) (test : CExpr) (later : List Item) (p : Part) → size ≤ length later → branch_for l write n test size later ≡ Some p → Covers later p
  unfolding branch_for
  branch_covers write sized n size test later p room h = by (nat_lt 0 size && l.ends_arm (n + size)) h
    where
      by : (b : Bool) → (if b then arms_for write n test (size - 1) (end_of_arm (slice_get later (size - 1))) later else one_arm write n test size later) ≡ Some p → Covers later p
      by true g = arms_cover write sized n (size - 1) test later (end_of_arm (slice_get later (size - 1))) p refl g
      by false g = if_covers write sized n size test later p room g

  test_covers : (write : Writer) → Sized write → (n : ℕ) (test : CExpr) (on off : ℕ) (later : List Item) (p : Part) → test_for l write n test on off later ≡ Some p → Covers later p
  unfolding test_for
  test_covers write sized n test on off later p h = by (nat_eq on (n + 1) && (nat_le (n + 1) off && nat_le (off - (n + 1)) (length later))) refl h
    where
      by : (b : Bool) → nat_eq on (n + 1) && (nat_le (n + 1) off && nat_le (off - (n + 1)) (length later)) ≡ b → (if b then branch_for l write n test (off - (n + 1)) later else None) ≡ Some p → Covers later p
      by true so g =
          let parts = and_parts (nat_eq on (n + 1)) (nat_le (n + 1) off && nat_le (off - (n + 1)) (length later)) so in
          let room = leb-true (off - (n + 1)) (length later) (and_parts (nat_le (n + 1) off) (nat_le (off - (n + 1)) (length later)) parts.1).1 in
          branch_covers write sized n (off - (n + 1)) test later p room g
      by false so g = absurd (cc)

  -- ## Cases

  record CasesFit (count : ℕ) (later : List Item) (made : List CCase) : Type 0 where
    within : count ≤ length later
    many : length made ≡ count

  record AreBefore (x : Option CCase) (xs : Option (List CCase)) (made : List CCase) : Type 0 where
    first : CCase
    others : List CCase
    first_is : x ≡ Some first
    others_are : xs ≡ Some others
    is : first ∷ others ≡ made

  cases_before : (x : Option CCase) (xs : Option (List CCase)) (made : List CCase) → before_cases x xs ≡ Some made → AreBefore x xs made
  unfolding before_cases
  cases_before (Some first) (Some others) made h = record { first = first; others = others; first_is = refl; others_are = refl; is = cc }
  cases_before (Some first) None made h = absurd (cc)
  cases_before None xs made h = absurd (cc)

  cases_fit : (n : ℕ) (cases : List Case) (later : List Item) (made : List CCase) → cases_for l n cases later ≡ Some made → CasesFit (length cases) later made
  unfolding cases_for
  cases_fit n [] later made h = record { within = omega arith; many = ap length (let same : made ≡ [] = cc in same) }
  cases_fit n (case ∷ cases) [] made h = absurd (cc)
  cases_fit n (case ∷ cases) (item ∷ later) made h =
      let parts = cases_before (case_for l n case item) (cases_for l (n + 1) cases later) made h in
      let rest = cases_fit (n + 1) cases later parts.others parts.others_are in
      record {
        within = (let inside = rest.within in omega (arith, inside));
        many = ap length (sym parts.is) ∙ ap suc rest.many;
      }

  switch_by_covers : (value : CExpr) (size : ℕ) (later : List Item) (x : Option (List CCase)) (p : Part) → ((made : List CCase) → x ≡ Some made → Covers later (part (stmt.Switch value made) size)) → switch_by value size x ≡ Some p → Covers later p
  unfolding switch_by
  switch_by_covers value size later (Some made) p each h = subst (Covers later) (same_part (part (stmt.Switch value made) size) p h) (each made refl)
  switch_by_covers value size later None p each h = absurd (cc)

  switch_made : (n : ℕ) (value : CExpr) (cases : List Case) (later : List Item) (made : List CCase) → cases_for l (n + 1) cases later ≡ Some made → Covers later (part (stmt.Switch value made) (length cases))
  switch_made n value cases later made h =
      let fit = cases_fit (n + 1) cases later made h in
      record { within = fit.within; size = size_switch value made ∙ ap (λ k. 1 + k) fit.many ∙ (let e : 1 + length cases ≡ suc (length cases) = omega arith in e) }

  switch_covers : (n : ℕ) (value : CExpr) (cases : List Case) (otherwise : ℕ) (later : List Item) (p : Part) → switch_for l n value cases otherwise later ≡ Some p → Covers later p
  unfolding switch_for
  switch_covers n value cases otherwise later p h = by (nat_eq otherwise (n + 1 + length cases) && are_case_numbers (map (λ (case : Case). case.number) cases)) h
    where
      by : (b : Bool) → (if b then switch_by value (length cases) (cases_for l (n + 1) cases later) else None) ≡ Some p → Covers later p
      by true g = switch_by_covers value (length cases) later (cases_for l (n + 1) cases later) p (λ made is. switch_made n value cases later made is) g
      by false g = absurd (cc)

  plain_covers : (write : Writer) → Sized write → (n : ℕ) (item : Item) (later : List Item) (p : Part) → plain_for l write n item later ≡ Some p → Covers later p
  unfolding plain_for
  plain_covers write sized n (Branch test on off) later p h = test_covers write sized n test on off later p h
  plain_covers write sized n (Select value cases otherwise) later p h = switch_covers n value cases otherwise later p h
  plain_covers write sized n item later p h = alone_covers later (statement_of l item) p (λ s is. statement_covers item later s is) h

  -- ## Loops

  loop_made : (write : Writer) → Sized write → (n size : ℕ) (head : Head) (test : Item) (later : List Item) (next : CNext) (turn : List CStmt) → size + 2 ≤ length later → write (n + 2) (take size later) ≡ Some turn
      → Covers (test ∷ later) (part (stmt.For head.variable head.first head.test next turn) (size + 3))
  loop_made write sized n size head test later next turn room is =
      let inner = sized (n + 2) (take size later) turn is in
      let long = length-take-le size later (omega (arith, room)) in
      let whole = size_for head.variable head.first head.test next turn in
      record {
        within = (let e : size + 3 ≤ suc (length later) = omega (arith, room) in e);
        size = (let e : (body (stmt.For head.variable head.first head.test next turn)).size ≡ suc (size + 3) = omega (arith, inner, long, whole) in e);
      }

  for_by_covers : (size : ℕ) (head : Head) (later : List Item) (x : Option CNext) (y : Option (List CStmt)) (p : Part)
      → ((next : CNext) (turn : List CStmt) → y ≡ Some turn → Covers later (part (stmt.For head.variable head.first head.test next turn) (size + 3))) → for_by head size x y ≡ Some p → Covers later p
  unfolding for_by
  for_by_covers size head later (Some next) (Some turn) p each h = subst (Covers later) (same_part (part (stmt.For head.variable head.first head.test next turn) (size + 3)) p h) (each next turn refl)
  for_by_covers size head later (Some next) None p each h = absurd (cc)
  for_by_covers size head later None y p each h = absurd (cc)

  head_covers : (write : Writer) → Sized write → (n size : ℕ) (variable first : CExpr) (later : List Item) (p : Part) → head_for l write n size variable first later ≡ Some p → Covers later p
  unfolding head_for is_loop turns_for
  head_covers write sized n size variable first (Branch test on off ∷ later) p h =
      by (nat_le (size + 2) (length later)) (nat_eq on (n + 2) && (nat_eq off (n + size + 4) && (goes_back (n + 1) (slice_get later (size + 1)) && is_unmarked l n size))) refl h
    where
      head : Head
      head = record { variable = variable; first = first; test = test }

      by : (b other : Bool) → nat_le (size + 2) (length later) ≡ b → (if b && other then for_by head size (next_for head.variable (slice_get later size)) (write (n + 2) (take size later)) else None) ≡ Some p
          → Covers (Branch test on off ∷ later) p
      by true true so g =
          for_by_covers size head (Branch test on off ∷ later) (next_for head.variable (slice_get later size)) (write (n + 2) (take size later)) p
          (λ next turn is. loop_made write sized n size head (Branch test on off) later next turn (leb-true (size + 2) (length later) so) is) g
      by true false so g = absurd (cc)
      by false other so g = absurd (cc)
  head_covers write sized n size variable first later p h = absurd (cc)

  -- a test behind the turn
  test_there : (x : Option Item) (test : CExpr) → test_in x ≡ Some test → (i : Item) × (x ≡ Some i)
  unfolding test_in
  test_there (Some item) test h = (item, refl)
  test_there None test h = absurd (cc)

  do_made : (write : Writer) → Sized write → (n size : ℕ) (variable first test : CExpr) (later : List Item) (turn : List CStmt) → write (n + 1) (take size later) ≡ Some turn → test_in (slice_get later size) ≡ Some test
      → Covers later (part (stmt.Block (stmt.Set variable first ∷ stmt.DoWhile turn test ∷ [])) (size + 1))
  do_made write sized n size variable first test later turn is tested =
      let inner = sized (n + 1) (take size later) turn is in
      let found = test_there (slice_get later size) test tested in
      let inside = get_inside size later found.0 found.1 in
      let long = length-take-le size later (omega (arith, inside)) in
      let whole = size_do variable first turn test in
      record {
        within = (let e : size + 1 ≤ length later = omega (arith, inside) in e);
        size = (let e : (body (stmt.Block (stmt.Set variable first ∷ stmt.DoWhile turn test ∷ []))).size ≡ suc (size + 1) = omega (arith, inner, long, whole) in e);
      }

  do_by_covers : (size : ℕ) (variable first : CExpr) (later : List Item) (x : Option (List CStmt)) (y : Option CExpr) (p : Part)
      → ((turn : List CStmt) (test : CExpr) → x ≡ Some turn → y ≡ Some test → Covers later (part (stmt.Block (stmt.Set variable first ∷ stmt.DoWhile turn test ∷ [])) (size + 1))) → do_by variable first size x y ≡ Some p → Covers later p
  unfolding do_by
  do_by_covers size variable first later (Some turn) (Some test) p each h =
      subst (Covers later) (same_part (part (stmt.Block (stmt.Set variable first ∷ stmt.DoWhile turn test ∷ [])) (size + 1)) p h) (each turn test refl refl)
  do_by_covers size variable first later (Some turn) None p each h = absurd (cc)
  do_by_covers size variable first later None y p each h = absurd (cc)

  loop_covers : (write : Writer) → Sized write → (n size : ℕ) (item : Item) (later : List Item) (p : Part) → loop_for l write n size item later ≡ Some p → Covers later p
  unfolding loop_for do_for
  loop_covers write sized n size (Assign variable first) later p h = by (tests_turn l n size (slice_get later size)) h
    where
      by : (b : Bool) → (if b then do_for write n size variable first later else head_for l write n size variable first later) ≡ Some p → Covers later p
      by true g =
          do_by_covers size variable first later (write (n + 1) (take size later)) (test_in (slice_get later size)) p (λ turn test is tested. do_made write sized n size variable first test later turn is tested) g
      by false g = head_covers write sized n size variable first later p g
  loop_covers write sized n size item later p h = absurd (cc)

  -- ## Statements

  part_covers : (write : Writer) → Sized write → (n : ℕ) (found : Option ℕ) (item : Item) (later : List Item) (p : Part) → part_for l write found n item later ≡ Some p → Covers later p
  unfolding part_for
  part_covers write sized n None item later p h = plain_covers write sized n item later p h
  part_covers write sized n (Some size) item later p h = loop_covers write sized n size item later p h

  marked_covers : (later : List Item) (label : Option (List ℕ)) (x : Option Part) (p : Part) → ((q : Part) → x ≡ Some q → Covers later q) → marked label x ≡ Some p → Covers later p
  unfolding marked
  marked_covers later label (Some q) p each h =
      let covers = each q refl in
      subst (Covers later) (same_part (part (with_label label q.statement) q.taken) p h) (record { within = covers.within; size = size_labelled label q.statement ∙ covers.size })
  marked_covers later label None p each h = absurd (cc)

  -- a part, and the statements of the items behind it
  all_made : (write : Writer) → Sized write → (n : ℕ) (later : List Item) (p : Part) (rest : List CStmt) → Covers later p → write n (drop p.taken later) ≡ Some rest → (body_of_all (p.statement ∷ rest)).size ≡ suc (length later)
  all_made write sized n later p rest covers is =
      let others = sized n (drop p.taken later) rest is in
      let left = length-drop p.taken later in
      let inside = covers.within in
      let own = covers.size in
      let e : (body p.statement).size + (body_of_all rest).size ≡ suc (length later) = omega (arith, others, left, inside, own) in
      e

  behind_made : (n : ℕ) (s : CStmt) (x : Option (List CStmt)) (ss : List CStmt) → ((rest : List CStmt) → x ≡ Some rest → (body_of_all (s ∷ rest)).size ≡ n) → behind s x ≡ Some ss → (body_of_all ss).size ≡ n
  unfolding behind
  behind_made n s (Some rest) ss each h = subst (λ (xs : List CStmt). (body_of_all xs).size ≡ n) (let same : s ∷ rest ≡ ss = cc in same) (each rest refl)
  behind_made n s None ss each h = absurd (cc)

  onward_made : (write : Writer) → Sized write → (n : ℕ) (later : List Item) (x : Option Part) (ss : List CStmt) → ((p : Part) → x ≡ Some p → Covers later p) → onward write n later x ≡ Some ss → (body_of_all ss).size ≡ suc (length later)
  unfolding onward
  onward_made write sized n later (Some p) ss each h =
      behind_made (suc (length later)) p.statement (write (n + 1 + p.taken) (drop p.taken later)) ss (λ rest is. all_made write sized (n + 1 + p.taken) later p rest (each p refl) is) h
  onward_made write sized n later None ss each h = absurd (cc)

  all_sized : (turns n : ℕ) (items : List Item) (ss : List CStmt) → structured l turns n items ≡ Some ss → (body_of_all ss).size ≡ length items
  unfolding structured part_at
  all_sized turns n [] ss h = ap (λ (xs : List CStmt). (body_of_all xs).size) (let same : ss ≡ [] = cc in same)
  all_sized zero n (item ∷ later) ss h = absurd (cc)
  all_sized (suc turns) n (item ∷ later) ss h =
      let sized : Sized (structured l turns) = λ m items' ss' h'. all_sized turns m items' ss' h' in
      onward_made (structured l turns) sized n later (part_at l (structured l turns) n item later) ss
      (λ p is. marked_covers later (l.label n) (part_for l (structured l turns) (l.loop n) n item later) p (λ q is'. part_covers (structured l turns) sized n (l.loop n) item later q is') is) h

pub each_structure_has_a_size : EachStructureHasASize
each_structure_has_a_size l turns n items ss h = all_sized l turns n items ss h
