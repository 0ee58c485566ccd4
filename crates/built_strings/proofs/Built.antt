-- Statements that are built from items have no strings but those of the items.
use Rattle.std.specs.Prelude.{◌≡◌, ℕ, zero, suc, ◌+◌, ◌-◌, ◌≤◌, nat_eq, nat_lt, nat_le, Bool, true, false, ◌&&◌, List, [], ◌∷◌, map, length, take, drop, Option, Some, None, slice_get, if◌then◌else◌}
use Rattle.std.proofs.Common.{refl, sym, ap, ◌∙◌, subst, arith}
use Rattle.c_tree.specs.Opened.{trees_opened}
use Rattle.c_tree.specs.FlatForm.{next_item}
use Rattle.c_tree.specs.declared.expression.CExpr.{CExpr}
use Rattle.c_tree.specs.declared.statement.CCase.{CCase}
use Rattle.c_tree.specs.declared.statement.CNext.{CNext}
use Rattle.c_tree.specs.declared.statement.CStmt.{CStmt}
use Rattle.c_tree.specs.declared.statement.CStmt.TheVariants as stmt
use Rattle.c_tree.specs.LinkedExpressions.{linked, linked_all}
use Rattle.named_items.specs.c_structure.Statements.{with_label, are_case_numbers}
use Rattle.named_items.specs.declared.item.Callee.{Callee}
use Rattle.named_items.specs.declared.item.Case.{Case}
use Rattle.named_items.specs.declared.item.Item.{Item}
use Rattle.named_items.specs.declared.item.Item.TheVariants.{Assign, Branch, Select, Jump, Call, SetCall, Return, Nothing}
use Rattle.named_items.specs.declared.part.Head.{Head}
use Rattle.named_items.specs.declared.part.Part.{Part}
use Rattle.named_items.specs.Layouts.{Layout}
use Rattle.named_items.specs.Structured.{Writer, part, goto_label, call_of, set_call_of, statement_of, alone, if_by, if_else_by, end_of_arm, one_arm, two_arms, arms_for, branch_for, test_for, cases_for, switch_by, switch_for, plain_for, next_for, is_loop, for_by, turns_for, head_for, tests_turn, test_in, do_by, do_for, loop_for, part_for, marked, part_at, behind, onward, structured}
use Rattle.built_strings.specs.BuiltStrings.{texts_bytes, expression_bytes, expressions_bytes, returned_bytes, item_bytes, items_bytes, EachStructureHasItsStrings}
use Rattle.built_strings.proofs.Texts.{texts_both, items_apart, items_more, item_behind, bytes_in, bytes_in_all, bytes_before, bytes_if, bytes_if_else, bytes_for, bytes_do, bytes_labelled, bytes_switch, growth_bytes}

same_part : (p q : Part) → Some p ≡ Some q → p ≡ q
same_part p q h = cc

-- a statement for an item and some items behind it has no strings but theirs
abbrev Holds : Item → List Item → Part → Type 0
Holds item later p = bytes_in p.statement ≤ item_bytes item + items_bytes (take p.taken later)

-- what is known of the statements of items from a position on
abbrev Kept : Writer → Type 0
Kept write = (n : ℕ) (items : List Item) (ss : List CStmt) → write n items ≡ Some ss → bytes_in_all ss ≤ items_bytes items

module _ (l : Layout) where
  -- ## One item

  alone_holds : (item : Item) (later : List Item) (x : Option CStmt) (p : Part) → ((s : CStmt) → x ≡ Some s → Holds item later (part s 0)) → alone x ≡ Some p → Holds item later p
  unfolding alone
  alone_holds item later (Some s) p each h = subst (Holds item later) (same_part (part s 0) p h) (each s refl)
  alone_holds item later None p each h = absurd (cc)

  single : (item : Item) (s t : CStmt) → bytes_in t ≤ item_bytes item → Some t ≡ Some s → bytes_in s ≤ item_bytes item
  single item s t one h = subst (λ (u : CStmt). bytes_in u ≤ item_bytes item) (let same : t ≡ s = cc in same) one

  goto_holds : (position : ℕ) (found : Option (List ℕ)) (s : CStmt) → goto_label found ≡ Some s → bytes_in s ≤ item_bytes (Jump position)
  unfolding goto_label trees_opened item_bytes texts_bytes
  goto_holds position (Some name) s h = single (Jump position) s (stmt.Goto name) (omega arith) h
  goto_holds position None s h = absurd (cc)

  assign_holds : (a b : CExpr) → bytes_in (stmt.Set a b) ≤ item_bytes (Assign a b)
  unfolding trees_opened item_bytes expression_bytes
  assign_holds a b = let both = texts_both (linked a).strings (linked b).strings in omega (arith, both)

  call_holds : (callee : Callee) (arguments : List CExpr) → bytes_in (call_of callee arguments) ≤ item_bytes (Call callee arguments)
  unfolding call_of trees_opened item_bytes expressions_bytes
  call_holds callee arguments = omega arith

  set_call_holds : (target : CExpr) (callee : Callee) (arguments : List CExpr) → bytes_in (set_call_of target callee arguments) ≤ item_bytes (SetCall target callee arguments)
  unfolding set_call_of trees_opened item_bytes expression_bytes expressions_bytes
  set_call_holds target callee arguments = let both = texts_both (linked target).strings (linked_all arguments).strings in omega (arith, both)

  return_holds : (value : Option CExpr) → bytes_in (stmt.Return value) ≤ item_bytes (Return value)
  unfolding trees_opened item_bytes returned_bytes expression_bytes texts_bytes
  return_holds None = omega arith
  return_holds (Some e) = omega arith

  nothing_holds : bytes_in stmt.Empty ≤ item_bytes Nothing
  unfolding trees_opened item_bytes texts_bytes
  nothing_holds = omega arith

  statement_holds : (item : Item) (s : CStmt) → statement_of l item ≡ Some s → bytes_in s ≤ item_bytes item
  unfolding statement_of
  statement_holds (Assign a b) s h = single (Assign a b) s (stmt.Set a b) (assign_holds a b) h
  statement_holds (Branch test on off) s h = absurd (cc)
  statement_holds (Select value cases otherwise) s h = absurd (cc)
  statement_holds (Jump position) s h = goto_holds position (l.label position) s h
  statement_holds (Call callee arguments) s h = single (Call callee arguments) s (call_of callee arguments) (call_holds callee arguments) h
  statement_holds (SetCall target callee arguments) s h = single (SetCall target callee arguments) s (set_call_of target callee arguments) (set_call_holds target callee arguments) h
  statement_holds (Return value) s h = single (Return value) s (stmt.Return value) (return_holds value) h
  statement_holds Nothing s h = single Nothing s stmt.Empty nothing_holds h

  lone : (item : Item) (later : List Item) (s : CStmt) → statement_of l item ≡ Some s → Holds item later (part s 0)
  lone item later s is = let one = statement_holds item s is in omega (arith, one)

  -- ## Tests

  if_made : (write : Writer) → Kept write → (n size : ℕ) (test : CExpr) (on off : ℕ) (later : List Item) (first : List CStmt) → write (n + 1) (take size later) ≡ Some first → Holds (Branch test on off) later (part (stmt.If test first None) size)
  unfolding item_bytes
  if_made write kept n size test on off later first is =
      let inner = kept (n + 1) (take size later) first is in
      let whole = bytes_if test first in
      omega (arith, inner, whole)

  if_by_holds : (item : Item) (size : ℕ) (test : CExpr) (later : List Item) (x : Option (List CStmt)) (p : Part) → ((first : List CStmt) → x ≡ Some first → Holds item later (part (stmt.If test first None) size)) → if_by test size x ≡ Some p → Holds item later p
  unfolding if_by
  if_by_holds item size test later (Some first) p each h = subst (Holds item later) (same_part (part (stmt.If test first None) size) p h) (each first refl)
  if_by_holds item size test later None p each h = absurd (cc)

  if_holds : (write : Writer) → Kept write → (n size : ℕ) (test : CExpr) (on off : ℕ) (later : List Item) (p : Part) → one_arm write n test size later ≡ Some p → Holds (Branch test on off) later p
  unfolding one_arm
  if_holds write kept n size test on off later p h = if_by_holds (Branch test on off) size test later (write (n + 1) (take size later)) p (λ first is. if_made write kept n size test on off later first is) h

  -- two arms, with a jump between them
  arms_made : (write : Writer) → Kept write → (n size other : ℕ) (test : CExpr) (on off : ℕ) (later : List Item) (first second : List CStmt) → write (n + 1) (take size later) ≡ Some first
      → write (n + size + 2) (take other (drop (size + 1) later)) ≡ Some second → Holds (Branch test on off) later (part (stmt.If test first (Some second)) (size + 1 + other))
  unfolding item_bytes
  arms_made write kept n size other test on off later first second is is' =
      let one = kept (n + 1) (take size later) first is in
      let two = kept (n + size + 2) (take other (drop (size + 1) later)) second is' in
      let whole = bytes_if_else test first second in
      let jump = items_more size 1 later in
      let arms = items_more (size + 1) other later in
      omega (arith, one, two, whole, jump, arms)

  arms_by_holds : (item : Item) (size : ℕ) (test : CExpr) (later : List Item) (x y : Option (List CStmt)) (p : Part) → ((first second : List CStmt) → x ≡ Some first → y ≡ Some second → Holds item later (part (stmt.If test first (Some second)) size))
      → if_else_by test size x y ≡ Some p → Holds item later p
  unfolding if_else_by
  arms_by_holds item size test later (Some first) (Some second) p each h = subst (Holds item later) (same_part (part (stmt.If test first (Some second)) size) p h) (each first second refl refl)
  arms_by_holds item size test later (Some first) None p each h = absurd (cc)
  arms_by_holds item size test later None y p each h = absurd (cc)

  arms_hold : (write : Writer) → Kept write → (n size : ℕ) (test : CExpr) (on off : ℕ) (later : List Item) (found : Option ℕ) (p : Part) → arms_for write n test size found later ≡ Some p → Holds (Branch test on off) later p
  unfolding arms_for two_arms
  arms_hold write kept n size test on off later None p h = absurd (cc)
  arms_hold write kept n size test on off later (Some end) p h = by (nat_le (n + size + 2) end && nat_le (end - (n + size + 2)) (length later - (size + 1))) h
    where
      by : (b : Bool) → (if b then two_arms write n test size (end - (n + size + 2)) later else None) ≡ Some p → Holds (Branch test on off) later p
      by true g =
          arms_by_holds (Branch test on off) (size + 1 + (end - (n + size + 2))) test later (write (n + 1) (take size later)) (write (n + size + 2) (take (end - (n + size + 2)) (drop (size + 1) later))) p
          (λ first second one two. arms_made write kept n size (end - (n + size + 2)) test on off later first second one two) g
      by false g = absurd (cc)

  branch_holds : (write : Writer) → Kept write → (n size : ℕ) (test : CExpr) (on off : ℕ) (later : List Item) (p : Part) → branch_for l write n test size later ≡ Some p → Holds (Branch test on off) later p
  unfolding branch_for
  branch_holds write kept n size test on off later p h = by (nat_lt 0 size && l.ends_arm (n + size)) h
    where
      by : (b : Bool) → (if b then arms_for write n test (size - 1) (end_of_arm (slice_get later (size - 1))) later else one_arm write n test size later) ≡ Some p → Holds (Branch test on off) later p
      by true g = arms_hold write kept n (size - 1) test on off later (end_of_arm (slice_get later (size - 1))) p g
      by false g = if_holds write kept n size test on off later p g

  test_holds : (write : Writer) → Kept write → (n : ℕ) (test : CExpr) (on off : ℕ) (later : List Item) (p : Part) → test_for l write n test on off later ≡ Some p → Holds (Branch test on off) later p
  unfolding test_for
  test_holds write kept n test on off later p h = by (nat_eq on (n + 1) && (nat_le (n + 1) off && nat_le (off - (n + 1)) (length later))) h
    where
      by : (b : Bool) → (if b then branch_for l write n test (off - (n + 1)) later else None) ≡ Some p → Holds (Branch test on off) later p
      by true g = branch_holds write kept n (off - (n + 1)) test on off later p g
      by false g = absurd (cc)

  -- ## Cases

  switch_by_holds : (item : Item) (value : CExpr) (size : ℕ) (later : List Item) (x : Option (List CCase)) (p : Part) → ((made : List CCase) → Holds item later (part (stmt.Switch value made) size)) → switch_by value size x ≡ Some p → Holds item later p
  unfolding switch_by
  switch_by_holds item value size later (Some made) p each h = subst (Holds item later) (same_part (part (stmt.Switch value made) size) p h) (each made)
  switch_by_holds item value size later None p each h = absurd (cc)

  switch_made : (value : CExpr) (cases : List Case) (otherwise : ℕ) (later : List Item) (made : List CCase) → Holds (Select value cases otherwise) later (part (stmt.Switch value made) (length cases))
  unfolding item_bytes
  switch_made value cases otherwise later made = let whole = bytes_switch value made in omega (arith, whole)

  switch_holds : (n : ℕ) (value : CExpr) (cases : List Case) (otherwise : ℕ) (later : List Item) (p : Part) → switch_for l n value cases otherwise later ≡ Some p → Holds (Select value cases otherwise) later p
  unfolding switch_for
  switch_holds n value cases otherwise later p h = by (nat_eq otherwise (n + 1 + length cases) && are_case_numbers (map (λ (case : Case). case.number) cases)) h
    where
      by : (b : Bool) → (if b then switch_by value (length cases) (cases_for l (n + 1) cases later) else None) ≡ Some p → Holds (Select value cases otherwise) later p
      by true g = switch_by_holds (Select value cases otherwise) value (length cases) later (cases_for l (n + 1) cases later) p (λ made. switch_made value cases otherwise later made) g
      by false g = absurd (cc)

  plain_holds : (write : Writer) → Kept write → (n : ℕ) (item : Item) (later : List Item) (p : Part) → plain_for l write n item later ≡ Some p → Holds item later p
  unfolding plain_for
  plain_holds write kept n (Branch test on off) later p h = test_holds write kept n test on off later p h
  plain_holds write kept n (Select value cases otherwise) later p h = switch_holds n value cases otherwise later p h
  plain_holds write kept n item later p h = alone_holds item later (statement_of l item) p (λ s is. lone item later s is) h

  -- ## Loops

  -- the item behind a turn
  record IsThere (x : Option Item) : Type 0 where
    item : Item
    is : x ≡ Some item

  grows_by : (variable : CExpr) (x : Option Item) (growth : CNext) → next_for variable x ≡ Some growth → IsThere x
  unfolding next_for
  grows_by variable (Some item) growth h = record { item = item; is = refl }
  grows_by variable None growth h = absurd (cc)

  loop_made : (write : Writer) → Kept write → (n size : ℕ) (variable first test : CExpr) (on off : ℕ) (later : List Item) (growth : CNext) (turn : List CStmt) → next_for variable (slice_get later size) ≡ Some growth → write (n + 2) (take size later) ≡ Some turn
      → Holds (Assign variable first) (Branch test on off ∷ later) (part (stmt.For variable first test growth turn) (size + 3))
  unfolding item_bytes items_bytes
  loop_made write kept n size variable first test on off later growth turn grows is =
      let inner = kept (n + 2) (take size later) turn is in
      let there = grows_by variable (slice_get later size) growth grows in
      let own : texts_bytes (next_item growth).strings ≤ item_bytes there.item = growth_bytes variable there.item growth (ap (next_for variable) (sym there.is) ∙ grows) in
      let behind = item_behind size later there.item there.is in
      let jump = items_more (suc size) 1 later in
      let whole = bytes_for variable first test growth turn in
      let all : bytes_in (stmt.For variable first test growth turn) ≤ expression_bytes variable + expression_bytes first + (expression_bytes test + items_bytes (take (suc size + 1) later)) = omega (arith, inner, own, behind, jump, whole) in
      let same : items_bytes (take (suc (suc size + 1)) (Branch test on off ∷ later)) ≡ items_bytes (take (size + 3) (Branch test on off ∷ later)) = ap (λ k. items_bytes (take k (Branch test on off ∷ later))) {x = suc (suc size + 1)} {y = size + 3} (omega arith) in
      omega (arith, all, same)

  for_by_holds : (item : Item) (size : ℕ) (head : Head) (later : List Item) (x : Option CNext) (y : Option (List CStmt)) (p : Part)
      → ((growth : CNext) (turn : List CStmt) → x ≡ Some growth → y ≡ Some turn → Holds item later (part (stmt.For head.variable head.first head.test growth turn) (size + 3))) → for_by head size x y ≡ Some p → Holds item later p
  unfolding for_by
  for_by_holds item size head later (Some growth) (Some turn) p each h = subst (Holds item later) (same_part (part (stmt.For head.variable head.first head.test growth turn) (size + 3)) p h) (each growth turn refl refl)
  for_by_holds item size head later (Some growth) None p each h = absurd (cc)
  for_by_holds item size head later None y p each h = absurd (cc)

  head_holds : (write : Writer) → Kept write → (n size : ℕ) (variable first : CExpr) (later : List Item) (p : Part) → head_for l write n size variable first later ≡ Some p → Holds (Assign variable first) later p
  unfolding head_for turns_for
  head_holds write kept n size variable first (Branch test on off ∷ later) p h = by (is_loop l n size on off later) h
    where
      head : Head
      head = record { variable = variable; first = first; test = test }

      by : (b : Bool) → (if b then for_by head size (next_for head.variable (slice_get later size)) (write (n + 2) (take size later)) else None) ≡ Some p → Holds (Assign variable first) (Branch test on off ∷ later) p
      by true g =
          for_by_holds (Assign variable first) size head (Branch test on off ∷ later) (next_for head.variable (slice_get later size)) (write (n + 2) (take size later)) p
          (λ growth turn grows is. loop_made write kept n size variable first test on off later growth turn grows is) g
      by false g = absurd (cc)
  head_holds write kept n size variable first later p h = absurd (cc)

  -- a test behind the turn
  record IsTest (x : Option Item) (test : CExpr) : Type 0 where
    item : Item
    is : x ≡ Some item
    bytes : expression_bytes test ≤ item_bytes item

  test_there : (x : Option Item) (test : CExpr) → test_in x ≡ Some test → IsTest x test
  unfolding test_in item_bytes
  test_there (Some (Branch other on off)) test h =
      let same : expression_bytes other ≡ expression_bytes test = ap expression_bytes (let e : other ≡ test = cc in e) in
      record { item = Branch other on off; is = refl; bytes = omega (arith, same) }
  test_there (Some item) test h = absurd (cc)
  test_there None test h = absurd (cc)

  do_made : (write : Writer) → Kept write → (n size : ℕ) (variable first test : CExpr) (later : List Item) (turn : List CStmt) → write (n + 1) (take size later) ≡ Some turn → test_in (slice_get later size) ≡ Some test
      → Holds (Assign variable first) later (part (stmt.Block (stmt.Set variable first ∷ stmt.DoWhile turn test ∷ [])) (size + 1))
  unfolding item_bytes
  do_made write kept n size variable first test later turn is tested =
      let inner = kept (n + 1) (take size later) turn is in
      let found = test_there (slice_get later size) test tested in
      let bytes = found.bytes in
      let behind = item_behind size later found.item found.is in
      let whole = bytes_do variable first turn test in
      let same : items_bytes (take (suc size) later) ≡ items_bytes (take (size + 1) later) = ap (λ k. items_bytes (take k later)) {x = suc size} {y = size + 1} (omega arith) in
      omega (arith, inner, bytes, behind, whole, same)

  do_by_holds : (item : Item) (size : ℕ) (variable first : CExpr) (later : List Item) (x : Option (List CStmt)) (y : Option CExpr) (p : Part)
      → ((turn : List CStmt) (test : CExpr) → x ≡ Some turn → y ≡ Some test → Holds item later (part (stmt.Block (stmt.Set variable first ∷ stmt.DoWhile turn test ∷ [])) (size + 1))) → do_by variable first size x y ≡ Some p → Holds item later p
  unfolding do_by
  do_by_holds item size variable first later (Some turn) (Some test) p each h =
      subst (Holds item later) (same_part (part (stmt.Block (stmt.Set variable first ∷ stmt.DoWhile turn test ∷ [])) (size + 1)) p h) (each turn test refl refl)
  do_by_holds item size variable first later (Some turn) None p each h = absurd (cc)
  do_by_holds item size variable first later None y p each h = absurd (cc)

  loop_holds : (write : Writer) → Kept write → (n size : ℕ) (item : Item) (later : List Item) (p : Part) → loop_for l write n size item later ≡ Some p → Holds item later p
  unfolding loop_for do_for
  loop_holds write kept n size (Assign variable first) later p h = by (tests_turn l n size (slice_get later size)) h
    where
      by : (b : Bool) → (if b then do_for write n size variable first later else head_for l write n size variable first later) ≡ Some p → Holds (Assign variable first) later p
      by true g =
          do_by_holds (Assign variable first) size variable first later (write (n + 1) (take size later)) (test_in (slice_get later size)) p
          (λ turn test is tested. do_made write kept n size variable first test later turn is tested) g
      by false g = head_holds write kept n size variable first later p g
  loop_holds write kept n size item later p h = absurd (cc)

  -- ## Statements

  part_holds : (write : Writer) → Kept write → (n : ℕ) (found : Option ℕ) (item : Item) (later : List Item) (p : Part) → part_for l write found n item later ≡ Some p → Holds item later p
  unfolding part_for
  part_holds write kept n None item later p h = plain_holds write kept n item later p h
  part_holds write kept n (Some size) item later p h = loop_holds write kept n size item later p h

  marked_holds : (item : Item) (later : List Item) (label : Option (List ℕ)) (x : Option Part) (p : Part) → ((q : Part) → x ≡ Some q → Holds item later q) → marked label x ≡ Some p → Holds item later p
  unfolding marked
  marked_holds item later label (Some q) p each h =
      let own = each q refl in
      let same = bytes_labelled label q.statement in
      subst (Holds item later) (same_part (part (with_label label q.statement) q.taken) p h) (omega (arith, own, same))
  marked_holds item later label None p each h = absurd (cc)

  -- a part, and the statements of the items behind it
  all_made : (write : Writer) → Kept write → (n : ℕ) (item : Item) (later : List Item) (p : Part) (rest : List CStmt) → Holds item later p → write n (drop p.taken later) ≡ Some rest → bytes_in_all (p.statement ∷ rest) ≤ items_bytes (item ∷ later)
  unfolding items_bytes
  all_made write kept n item later p rest holds is =
      let others = kept n (drop p.taken later) rest is in
      let apart = items_apart p.taken later in
      let whole = bytes_before p.statement rest in
      omega (arith, others, apart, whole, holds)

  behind_made : (n : ℕ) (s : CStmt) (x : Option (List CStmt)) (ss : List CStmt) → ((rest : List CStmt) → x ≡ Some rest → bytes_in_all (s ∷ rest) ≤ n) → behind s x ≡ Some ss → bytes_in_all ss ≤ n
  unfolding behind
  behind_made n s (Some rest) ss each h = subst (λ (xs : List CStmt). bytes_in_all xs ≤ n) (let same : s ∷ rest ≡ ss = cc in same) (each rest refl)
  behind_made n s None ss each h = absurd (cc)

  onward_made : (write : Writer) → Kept write → (n : ℕ) (item : Item) (later : List Item) (x : Option Part) (ss : List CStmt) → ((p : Part) → x ≡ Some p → Holds item later p) → onward write n later x ≡ Some ss → bytes_in_all ss ≤ items_bytes (item ∷ later)
  unfolding onward
  onward_made write kept n item later (Some p) ss each h =
      behind_made (items_bytes (item ∷ later)) p.statement (write (n + 1 + p.taken) (drop p.taken later)) ss (λ rest is. all_made write kept (n + 1 + p.taken) item later p rest (each p refl) is) h
  onward_made write kept n item later None ss each h = absurd (cc)

  none_have : (ss : List CStmt) → [] ≡ ss → bytes_in_all ss ≤ items_bytes []
  unfolding texts_bytes items_bytes
  none_have ss same = subst (λ (xs : List CStmt). bytes_in_all xs ≤ 0) same (omega arith)

  all_kept : (turns n : ℕ) (items : List Item) (ss : List CStmt) → structured l turns n items ≡ Some ss → bytes_in_all ss ≤ items_bytes items
  unfolding structured part_at
  all_kept turns n [] ss h = none_have ss (let same : [] ≡ ss = cc in same)
  all_kept zero n (item ∷ later) ss h = absurd (cc)
  all_kept (suc turns) n (item ∷ later) ss h =
      let kept : Kept (structured l turns) = λ m items' ss' h'. all_kept turns m items' ss' h' in
      onward_made (structured l turns) kept n item later (part_at l (structured l turns) n item later) ss
      (λ p is. marked_holds item later (l.label n) (part_for l (structured l turns) (l.loop n) n item later) p (λ q is'. part_holds (structured l turns) kept n (l.loop n) item later q is') is) h

pub each_structure_has_its_strings : EachStructureHasItsStrings
each_structure_has_its_strings l turns n items ss h = all_kept l turns n items ss h
