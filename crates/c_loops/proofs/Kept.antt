-- Statements that are built from items have the loops that are said to begin at these.
use Rattle.std.specs.Prelude.{◌≡◌, ℕ, zero, suc, ◌+◌, ◌-◌, ◌≤◌, ◌<◌, nat_eq, nat_lt, nat_le, Bool, true, false, ◌&&◌, List, [], ◌∷◌, map, length, take, drop, Option, Some, None, is_none, slice_get, if◌then◌else◌}
use Rattle.std.proofs.Common.{refl, sym, ap, ◌∙◌, subst, arith}
use Rattle.std.proofs.lemmas.Bool.{and_parts, eqb-true, leb-true, lt-leb}
use Rattle.std.proofs.lemmas.List.{length-drop, length-take-le, append-nil, drop-drop}
use Rattle.c_tree.specs.Opened.{trees_opened}
use Rattle.c_tree.specs.CLabels.{labels_of, labels_of_all}
use Rattle.c_tree.specs.declared.expression.CExpr.{CExpr}
use Rattle.c_tree.specs.declared.statement.CCase.{CCase}
use Rattle.c_tree.specs.declared.statement.CNext.{CNext}
use Rattle.c_tree.specs.declared.statement.CStmt.{CStmt}
use Rattle.c_tree.specs.declared.statement.CStmt.TheVariants as stmt
use Rattle.named_items.specs.c_structure.Statements.{with_label, case_by, before_cases, are_case_numbers}
use Rattle.named_items.specs.declared.item.Case.{Case}
use Rattle.named_items.specs.declared.item.Item.{Item}
use Rattle.named_items.specs.declared.item.Item.TheVariants.{Assign, Branch, Select, Jump, Call, SetCall, Return, Nothing}
use Rattle.named_items.specs.declared.part.Head.{Head}
use Rattle.named_items.specs.declared.part.Part.{Part}
use Rattle.named_items.specs.Layouts.{Layout}
use Rattle.named_items.specs.Structured.{Writer, part, goto_label, call_of, set_call_of, statement_of, alone, if_by, if_else_by, end_of_arm, one_arm, two_arms, arms_for, branch_for, test_for, case_for, cases_for, switch_by, switch_for, plain_for, next_for, goes_back, is_unmarked, is_loop, for_by, turns_for, head_for, tests_turn, test_in, do_by, do_for, loop_for, part_for, marked, part_at, behind, onward, structured}
use Rattle.c_loops.specs.Loops.{no_loops, both_loops, within_for, within_do, loops_by, loops_of, loops_in, loops_of_other, loops_of_all}
use Rattle.c_loops.specs.KeptLayouts.{is_set, tests_ahead, tests_first, ends_turn, begins_well, begin_well, one_if, loops_from, AreLabels, no_name, one_name, IsKept, EachStructureIsKept}
use Rattle.c_loops.proofs.Trees.{loops_if, loops_if_else, loops_for, loops_do, loops_labelled, loops_switch, named_if, named_if_else, named_for, named_do, named_labelled, named_switch}
use Rattle.c_loops.proofs.Counts.{loops_split, loops_one, none_by, by_both, by_for, by_do, well_take, well_drop, begins_first, ends_well, goes_well, no_loop_first, no_loop_at, no_loop_alone, begin_later, dropped_at, get_inside, names_both}

same_part : (p q : Part) → Some p ≡ Some q → p ≡ q
same_part p q h = cc

module _ (l : Layout) (once : Bool) where
  -- a statement for an item and so many items behind it
  record Covers (n : ℕ) (item : Item) (later : List Item) (p : Part) : Type 0 where
    within : p.taken ≤ length later
    loops : loops_of p.statement ≡ loops_by once (loops_from l.loop n (suc p.taken))
    named : AreLabels l (labels_of p.statement).named

  -- what is known of the statements of items from a position on
  abbrev Keeps : Writer → Type 0
  Keeps write = (n : ℕ) (items : List Item) (body : List CStmt) → begin_well l once n items ≡ true → write n items ≡ Some body → IsKept l once n items body

  -- so many loops, by how many they are said to be
  as_many : (m n : ℕ) → m ≡ n → loops_by once m ≡ loops_by once n
  as_many m n same = ap (loops_by once) same

  sum_by : (m n k : ℕ) → m + n ≡ k → both_loops (loops_by once m) (loops_by once n) ≡ loops_by once k
  sum_by m n k same = by_both once m n ∙ as_many (m + n) k same

  -- ## One item

  bare : (n : ℕ) (item : Item) (later : List Item) (s : CStmt) → l.loop n ≡ None → loops_of s ≡ no_loops → AreLabels l (labels_of s).named → Covers n item later (part s 0)
  unfolding one_if
  bare n item later s none loops names = record { within = omega arith; loops = loops ∙ none_by once ∙ as_many 0 (loops_from l.loop n 1) (sym (loops_one l.loop n None none)); named = names }

  alone_covers : (n : ℕ) (item : Item) (later : List Item) (x : Option CStmt) (p : Part) → ((s : CStmt) → x ≡ Some s → Covers n item later (part s 0)) → alone x ≡ Some p → Covers n item later p
  unfolding alone
  alone_covers n item later (Some s) p each h = subst (Covers n item later) (same_part (part s 0) p h) (each s refl)
  alone_covers n item later None p each h = absurd (cc)

  goto_covers : (n : ℕ) (position : ℕ) (later : List Item) (found : Option (List ℕ)) (s : CStmt) → l.loop n ≡ None → l.label position ≡ found → goto_label found ≡ Some s → Covers n (Jump position) later (part s 0)
  unfolding goto_label loops_of loops_in loops_of_other trees_opened
  goto_covers n position later (Some name) s none is h =
      subst (λ (t : CStmt). Covers n (Jump position) later (part t 0)) (let same : stmt.Goto name ≡ s = cc in same)
      (bare n (Jump position) later (stmt.Goto name) none refl (one_name position name [] is no_name))
  goto_covers n position later None s none is h = absurd (cc)

  single : (n : ℕ) (item : Item) (later : List Item) (s t : CStmt) → l.loop n ≡ None → loops_of t ≡ no_loops → (labels_of t).named ≡ [] → Some t ≡ Some s → Covers n item later (part s 0)
  single n item later s t none loops names h =
      subst (λ (u : CStmt). Covers n item later (part u 0)) (let same : t ≡ s = cc in same)
      (bare n item later t none loops (subst (AreLabels l) (sym names) no_name))

  statement_covers : (n : ℕ) (item : Item) (later : List Item) (s : CStmt) → l.loop n ≡ None → statement_of l item ≡ Some s → Covers n item later (part s 0)
  unfolding statement_of call_of set_call_of loops_of loops_in loops_of_other trees_opened
  statement_covers n (Assign a b) later s none h = single n (Assign a b) later s (stmt.Set a b) none refl refl h
  statement_covers n (Branch test on off) later s none h = absurd (cc)
  statement_covers n (Select value cases otherwise) later s none h = absurd (cc)
  statement_covers n (Jump position) later s none h = goto_covers n position later (l.label position) s none refl h
  statement_covers n (Call callee arguments) later s none h = single n (Call callee arguments) later s (call_of callee arguments) none refl refl h
  statement_covers n (SetCall target callee arguments) later s none h = single n (SetCall target callee arguments) later s (set_call_of target callee arguments) none refl refl h
  statement_covers n (Return value) later s none h = single n (Return value) later s (stmt.Return value) none refl refl h
  statement_covers n Nothing later s none h = single n Nothing later s stmt.Empty none refl refl h

  -- ## Tests

  one_more : (n : ℕ) → suc n ≡ n + 1
  one_more n = omega arith

  if_made : (write : Writer) → Keeps write → (n size : ℕ) (test : CExpr) (on off : ℕ) (later : List Item) (first : List CStmt) → l.loop n ≡ None → size ≤ length later → begin_well l once (suc n) later ≡ true
      → write (n + 1) (take size later) ≡ Some first → Covers n (Branch test on off) later (part (stmt.If test first None) size)
  unfolding one_if loops_from
  if_made write keeps n size test on off later first none room well is =
      let inner = keeps (n + 1) (take size later) first (well_take l once size (n + 1) later (ap (λ k. begin_well l once k later) (sym (one_more n)) ∙ well)) is in
      let long = length-take-le size later room in
      let all : loops_from l.loop (n + 1) (length (take size later)) ≡ loops_from l.loop (suc n) size = (λ i. loops_from l.loop (sym (one_more n) i) (long i)) in
      let zero_first : one_if (l.loop n) ≡ 0 = ap one_if none in
      record {
        within = room;
        loops = loops_if test first ∙ (λ i. both_loops (inner.loops i) (none_by once i)) ∙ sum_by (loops_from l.loop (n + 1) (length (take size later))) 0 (one_if (l.loop n) + loops_from l.loop (suc n) size) (omega (arith, all, zero_first));
        named = subst (AreLabels l) (sym (ap (λ x. x.named) (named_if test first) ∙ append-nil (labels_of_all first).named)) inner.named;
      }

  if_by_covers : (n size : ℕ) (test : CExpr) (on off : ℕ) (later : List Item) (x : Option (List CStmt)) (p : Part) → ((first : List CStmt) → x ≡ Some first → Covers n (Branch test on off) later (part (stmt.If test first None) size))
      → if_by test size x ≡ Some p → Covers n (Branch test on off) later p
  unfolding if_by
  if_by_covers n size test on off later (Some first) p each h = subst (Covers n (Branch test on off) later) (same_part (part (stmt.If test first None) size) p h) (each first refl)
  if_by_covers n size test on off later None p each h = absurd (cc)

  if_covers : (write : Writer) → Keeps write → (n size : ℕ) (test : CExpr) (on off : ℕ) (later : List Item) (p : Part) → l.loop n ≡ None → size ≤ length later → begin_well l once (suc n) later ≡ true
      → one_arm write n test size later ≡ Some p → Covers n (Branch test on off) later p
  unfolding one_arm
  if_covers write keeps n size test on off later p none room well h =
      if_by_covers n size test on off later (write (n + 1) (take size later)) p (λ first is. if_made write keeps n size test on off later first none room well is) h

  -- where the arms and the jump between them end
  arms_within : (size other : ℕ) (later : List Item) → suc size ≤ length later → other ≤ length later - (size + 1) → size + 1 + other ≤ length later
  arms_within size other later one two = omega (arith, one, two)

  -- two arms, with a jump between them
  arms_made : (write : Writer) → Keeps write → (n size other : ℕ) (test : CExpr) (on off end : ℕ) (later : List Item) (first second : List CStmt) → l.loop n ≡ None → slice_get later size ≡ Some (Jump end)
      → other ≤ length later - (size + 1) → begin_well l once (suc n) later ≡ true → write (n + 1) (take size later) ≡ Some first → write (n + size + 2) (take other (drop (size + 1) later)) ≡ Some second
      → Covers n (Branch test on off) later (part (stmt.If test first (Some second)) (size + 1 + other))
  unfolding one_if loops_from is_set
  arms_made write keeps n size other test on off end later first second none jump room well is' is =
      let inside = get_inside size later (Jump end) jump in
      let at = dropped_at size later (Jump end) jump in
      let one = keeps (n + 1) (take size later) first (well_take l once size (n + 1) later (ap (λ k. begin_well l once k later) (sym (one_more n)) ∙ well)) is' in
      let two = keeps (n + size + 2) (take other (drop (size + 1) later)) second (well_take l once other (n + size + 2) (drop (size + 1) later) (well_drop l once (size + 1) (suc n) (n + size + 2) later (omega arith) well)) is in
      let long = length-take-le size later (omega (arith, inside)) in
      let left = length-drop (size + 1) later in
      let longer = length-take-le other (drop (size + 1) later) (omega (arith, left, room)) in
      let start : n + 1 ≡ suc n = omega arith in
      let first_count : loops_from l.loop (n + 1) (length (take size later)) ≡ loops_from l.loop (suc n) size = (λ i. loops_from l.loop (start i) (long i)) in
      let second_count : loops_from l.loop (n + size + 2) (length (take other (drop (size + 1) later))) ≡ loops_from l.loop (n + size + 2) other = ap (loops_from l.loop (n + size + 2)) longer in
      let over : l.loop (suc n + size) ≡ None = no_loop_at l once size (suc n) (suc n + size) later (Jump end) (drop (suc size) later) well refl at refl in
      let between : loops_from l.loop (suc n + size) 1 ≡ 0 = loops_one l.loop (suc n + size) None over in
      let front = loops_split l.loop (suc n) (suc n + size) size (1 + other) (size + 1 + other) refl (omega arith) in
      let back = loops_split l.loop (suc n + size) (n + size + 2) 1 other (1 + other) (omega arith) refl in
      let zero_first : one_if (l.loop n) ≡ 0 = ap one_if none in
      let count : loops_from l.loop (n + 1) (length (take size later)) + loops_from l.loop (n + size + 2) (length (take other (drop (size + 1) later))) ≡ one_if (l.loop n) + loops_from l.loop (suc n) (size + 1 + other) =
      omega (arith, first_count, second_count, between, front, back, zero_first) in
      record {
        within = arms_within size other later inside room;
        loops = loops_if_else test first second ∙ (λ i. both_loops (one.loops i) (two.loops i))
            ∙ sum_by (loops_from l.loop (n + 1) (length (take size later))) (loops_from l.loop (n + size + 2) (length (take other (drop (size + 1) later)))) (one_if (l.loop n) + loops_from l.loop (suc n) (size + 1 + other)) count;
        named = subst (AreLabels l) (sym (ap (λ x. x.named) (named_if_else test first second))) (names_both l (labels_of_all first).named (labels_of_all second).named one.named two.named);
      }

  arms_by_covers : (n size : ℕ) (test : CExpr) (on off : ℕ) (later : List Item) (x y : Option (List CStmt)) (p : Part)
      → ((first second : List CStmt) → x ≡ Some first → y ≡ Some second → Covers n (Branch test on off) later (part (stmt.If test first (Some second)) size)) → if_else_by test size x y ≡ Some p → Covers n (Branch test on off) later p
  unfolding if_else_by
  arms_by_covers n size test on off later (Some first) (Some second) p each h = subst (Covers n (Branch test on off) later) (same_part (part (stmt.If test first (Some second)) size) p h) (each first second refl refl)
  arms_by_covers n size test on off later (Some first) None p each h = absurd (cc)
  arms_by_covers n size test on off later None y p each h = absurd (cc)

  -- an item that ends an arm is a jump
  ends_by_jump : (x : Option Item) (end : ℕ) → end_of_arm x ≡ Some end → x ≡ Some (Jump end)
  unfolding end_of_arm
  ends_by_jump (Some (Jump position)) end h = let same : position ≡ end = cc in ap (λ k. Some (Jump k)) same
  ends_by_jump x end h = absurd (cc)

  arms_cover : (write : Writer) → Keeps write → (n size : ℕ) (test : CExpr) (on off : ℕ) (later : List Item) (found : Option ℕ) (p : Part) → l.loop n ≡ None → begin_well l once (suc n) later ≡ true
      → end_of_arm (slice_get later size) ≡ found → arms_for write n test size found later ≡ Some p → Covers n (Branch test on off) later p
  unfolding arms_for two_arms
  arms_cover write keeps n size test on off later None p none well is h = absurd (cc)
  arms_cover write keeps n size test on off later (Some end) p none well is h = by (nat_le (n + size + 2) end && nat_le (end - (n + size + 2)) (length later - (size + 1))) refl h
    where
      by : (b : Bool) → nat_le (n + size + 2) end && nat_le (end - (n + size + 2)) (length later - (size + 1)) ≡ b → (if b then two_arms write n test size (end - (n + size + 2)) later else None) ≡ Some p → Covers n (Branch test on off) later p
      by true so g =
          let room = leb-true (end - (n + size + 2)) (length later - (size + 1)) (and_parts (nat_le (n + size + 2) end) (nat_le (end - (n + size + 2)) (length later - (size + 1))) so).1 in
          arms_by_covers n (size + 1 + (end - (n + size + 2))) test on off later (write (n + 1) (take size later)) (write (n + size + 2) (take (end - (n + size + 2)) (drop (size + 1) later))) p
          (λ first second one two. arms_made write keeps n size (end - (n + size + 2)) test on off end later first second none (ends_by_jump (slice_get later size) end is) room well one two) g
      by false so g = absurd (cc)

  branch_covers : (write : Writer) → Keeps write → (n size : ℕ) (test : CExpr) (on off : ℕ) (later : List Item) (p : Part) → l.loop n ≡ None → size ≤ length later → begin_well l once (suc n) later ≡ true
      → branch_for l write n test size later ≡ Some p → Covers n (Branch test on off) later p
  unfolding branch_for
  branch_covers write keeps n size test on off later p none room well h = by (nat_lt 0 size && l.ends_arm (n + size)) h
    where
      by : (b : Bool) → (if b then arms_for write n test (size - 1) (end_of_arm (slice_get later (size - 1))) later else one_arm write n test size later) ≡ Some p → Covers n (Branch test on off) later p
      by true g = arms_cover write keeps n (size - 1) test on off later (end_of_arm (slice_get later (size - 1))) p none well refl g
      by false g = if_covers write keeps n size test on off later p none room well g

  test_covers : (write : Writer) → Keeps write → (n : ℕ) (test : CExpr) (on off : ℕ) (later : List Item) (p : Part) → l.loop n ≡ None → begin_well l once (suc n) later ≡ true → test_for l write n test on off later ≡ Some p
      → Covers n (Branch test on off) later p
  unfolding test_for
  test_covers write keeps n test on off later p none well h = by (nat_eq on (n + 1) && (nat_le (n + 1) off && nat_le (off - (n + 1)) (length later))) refl h
    where
      by : (b : Bool) → nat_eq on (n + 1) && (nat_le (n + 1) off && nat_le (off - (n + 1)) (length later)) ≡ b → (if b then branch_for l write n test (off - (n + 1)) later else None) ≡ Some p → Covers n (Branch test on off) later p
      by true so g =
          let parts = and_parts (nat_eq on (n + 1)) (nat_le (n + 1) off && nat_le (off - (n + 1)) (length later)) so in
          let room = leb-true (off - (n + 1)) (length later) (and_parts (nat_le (n + 1) off) (nat_le (off - (n + 1)) (length later)) parts.1).1 in
          branch_covers write keeps n (off - (n + 1)) test on off later p none room well g
      by false so g = absurd (cc)

  -- ## Cases

  record CasesKept (n : ℕ) (count : ℕ) (later : List Item) (made : List CCase) : Type 0 where
    within : count ≤ length later
    none : loops_from l.loop n count ≡ 0
    named : AreLabels l (map (λ (case : CCase). case.label) made)

  -- the label that a case names, of an item that is a jump
  record CaseKept (item : Item) (case : CCase) : Type 0 where
    position : ℕ
    jumps : item ≡ Jump position
    names : l.label position ≡ Some case.label

  case_named : (position : ℕ) (number : _) (found : Option (List ℕ)) (case : CCase) → l.label position ≡ found → case_by number found ≡ Some case → l.label position ≡ Some case.label
  unfolding case_by
  case_named position number (Some name) case is h = is ∙ ap Some (let same : record { number = number; label = name } ≡ case = cc in ap (λ (c : CCase). c.label) same)
  case_named position number None case is h = absurd (cc)

  case_kept : (n : ℕ) (case : Case) (item : Item) (made : CCase) → case_for l n case item ≡ Some made → CaseKept item made
  unfolding case_for
  case_kept n case (Jump position) made h = by (nat_eq case.position n && is_none (l.label n)) h
    where
      by : (b : Bool) → (if b then case_by case.number (l.label position) else None) ≡ Some made → CaseKept (Jump position) made
      by true g = record { position = position; jumps = refl; names = case_named position case.number (l.label position) made refl g }
      by false g = absurd (cc)
  case_kept n case item made h = absurd (cc)

  record AreBefore (x : Option CCase) (xs : Option (List CCase)) (made : List CCase) : Type 0 where
    first : CCase
    others : List CCase
    first_is : x ≡ Some first
    others_are : xs ≡ Some others
    is : first ∷ others ≡ made

  cases_before : (x : Option CCase) (xs : Option (List CCase)) (made : List CCase) → before_cases x xs ≡ Some made → AreBefore x xs made
  unfolding before_cases
  cases_before (Some first) (Some others) made h = record { first = first; others = others; first_is = refl; others_are = refl; is = cc }
  cases_before (Some first) None made h = absurd (cc)
  cases_before None xs made h = absurd (cc)

  jump_sets : (item : Item) (position : ℕ) → item ≡ Jump position → is_set item ≡ false
  unfolding is_set
  jump_sets item position is = ap is_set is

  cases_kept : (n : ℕ) (cases : List Case) (later : List Item) (made : List CCase) → begin_well l once n later ≡ true → cases_for l n cases later ≡ Some made → CasesKept n (length cases) later made
  unfolding cases_for loops_from one_if
  cases_kept n [] later made well h =
      let nothing' : [] ≡ made = cc in
      record { within = omega arith; none = refl; named = subst (λ cs. AreLabels l (map (λ (case : CCase). case.label) cs)) nothing' no_name }
  cases_kept n (case ∷ cases) [] made well h = absurd (cc)
  cases_kept n (case ∷ cases) (item ∷ later) made well h =
      let parts = cases_before (case_for l n case item) (cases_for l (n + 1) cases later) made h in
      let one = case_kept n case item parts.first parts.first_is in
      let more : n + 1 ≡ suc n = omega arith in
      let rest = cases_kept (suc n) cases later parts.others (begin_later l once n item later well) (ap (λ k. cases_for l k cases later) (sym more) ∙ parts.others_are) in
      let over : l.loop n ≡ None = no_loop_first l once n item later well (jump_sets item one.position one.jumps) in
      let zero_first : one_if (l.loop n) ≡ 0 = ap one_if over in
      let none : one_if (l.loop n) + loops_from l.loop (suc n) (length cases) ≡ 0 = (let others = rest.none in omega (arith, zero_first, others)) in
      record {
        within = (let inside = rest.within in omega (arith, inside));
        none = none;
        named = subst (λ cs. AreLabels l (map (λ (case : CCase). case.label) cs)) parts.is (one_name one.position parts.first.label (map (λ (case : CCase). case.label) parts.others) one.names rest.named);
      }

  switch_made : (n : ℕ) (value : CExpr) (cases : List Case) (otherwise : ℕ) (later : List Item) (made : List CCase) → l.loop n ≡ None → begin_well l once (suc n) later ≡ true → cases_for l (n + 1) cases later ≡ Some made
      → Covers n (Select value cases otherwise) later (part (stmt.Switch value made) (length cases))
  unfolding loops_from one_if
  switch_made n value cases otherwise later made none well h =
      let more : n + 1 ≡ suc n = omega arith in
      let kept = cases_kept (suc n) cases later made well (ap (λ k. cases_for l k cases later) (sym more) ∙ h) in
      let zero_first : one_if (l.loop n) ≡ 0 = ap one_if none in
      let count : 0 ≡ one_if (l.loop n) + loops_from l.loop (suc n) (length cases) = (let others = kept.none in omega (arith, zero_first, others)) in
      record {
        within = kept.within;
        loops = loops_switch value made ∙ none_by once ∙ as_many 0 (one_if (l.loop n) + loops_from l.loop (suc n) (length cases)) count;
        named = subst (AreLabels l) (sym (named_switch value made)) kept.named;
      }

  switch_by_covers : (n : ℕ) (value : CExpr) (size : ℕ) (item : Item) (later : List Item) (x : Option (List CCase)) (p : Part) → ((made : List CCase) → x ≡ Some made → Covers n item later (part (stmt.Switch value made) size))
      → switch_by value size x ≡ Some p → Covers n item later p
  unfolding switch_by
  switch_by_covers n value size item later (Some made) p each h = subst (Covers n item later) (same_part (part (stmt.Switch value made) size) p h) (each made refl)
  switch_by_covers n value size item later None p each h = absurd (cc)

  switch_covers : (n : ℕ) (value : CExpr) (cases : List Case) (otherwise : ℕ) (later : List Item) (p : Part) → l.loop n ≡ None → begin_well l once (suc n) later ≡ true → switch_for l n value cases otherwise later ≡ Some p
      → Covers n (Select value cases otherwise) later p
  unfolding switch_for
  switch_covers n value cases otherwise later p none well h = by (nat_eq otherwise (n + 1 + length cases) && are_case_numbers (map (λ (case : Case). case.number) cases)) h
    where
      by : (b : Bool) → (if b then switch_by value (length cases) (cases_for l (n + 1) cases later) else None) ≡ Some p → Covers n (Select value cases otherwise) later p
      by true g = switch_by_covers n value (length cases) (Select value cases otherwise) later (cases_for l (n + 1) cases later) p (λ made is. switch_made n value cases otherwise later made none well is) g
      by false g = absurd (cc)

  plain_covers : (write : Writer) → Keeps write → (n : ℕ) (item : Item) (later : List Item) (p : Part) → l.loop n ≡ None → begin_well l once (suc n) later ≡ true → plain_for l write n item later ≡ Some p → Covers n item later p
  unfolding plain_for
  plain_covers write keeps n (Branch test on off) later p none well h = test_covers write keeps n test on off later p none well h
  plain_covers write keeps n (Select value cases otherwise) later p none well h = switch_covers n value cases otherwise later p none well h
  plain_covers write keeps n (Assign a b) later p none well h = alone_covers n (Assign a b) later (statement_of l (Assign a b)) p (λ s is. statement_covers n (Assign a b) later s none is) h
  plain_covers write keeps n (Jump position) later p none well h = alone_covers n (Jump position) later (statement_of l (Jump position)) p (λ s is. statement_covers n (Jump position) later s none is) h
  plain_covers write keeps n (Call callee arguments) later p none well h = alone_covers n (Call callee arguments) later (statement_of l (Call callee arguments)) p (λ s is. statement_covers n (Call callee arguments) later s none is) h
  plain_covers write keeps n (SetCall target callee arguments) later p none well h = alone_covers n (SetCall target callee arguments) later (statement_of l (SetCall target callee arguments)) p (λ s is. statement_covers n (SetCall target callee arguments) later s none is) h
  plain_covers write keeps n (Return value) later p none well h = alone_covers n (Return value) later (statement_of l (Return value)) p (λ s is. statement_covers n (Return value) later s none is) h
  plain_covers write keeps n Nothing later p none well h = alone_covers n Nothing later (statement_of l Nothing) p (λ s is. statement_covers n Nothing later s none is) h

  -- ## Loops

  -- what the item behind a turn is, and the one behind that
  record IsGrowth (x : Option Item) : Type 0 where
    place : CExpr
    value : CExpr
    is : x ≡ Some (Assign place value)

  growth_of : (variable : CExpr) (x : Option Item) (next : CNext) → next_for variable x ≡ Some next → IsGrowth x
  unfolding next_for
  growth_of variable (Some (Assign place value)) next h = record { place = place; value = value; is = refl }
  growth_of variable x next h = absurd (cc)

  goes_by_jump : (n : ℕ) (x : Option Item) → goes_back n x ≡ true → (position : ℕ) × (x ≡ Some (Jump position))
  unfolding goes_back
  goes_by_jump n (Some (Jump position)) h = (position, refl)
  goes_by_jump n x h = absurd (cc)

  test_sets : (test : CExpr) (on off : ℕ) → is_set (Branch test on off) ≡ false
  unfolding is_set
  test_sets test on off = refl

  jump_first : (n size position : ℕ) (items later : List Item) → items ≡ Jump position ∷ later → tests_first n size items ≡ false
  unfolding tests_ahead tests_first
  jump_first n size position items later is = ap (tests_first n size) is

  loop_made : (write : Writer) → Keeps write → (n size room : ℕ) (head : Head) (on off position : ℕ) (place value : CExpr) (later : List Item) (next : CNext) (turn : List CStmt) → once ≡ false → l.loop n ≡ Some room
      → begin_well l once (suc n) (Branch head.test on off ∷ later) ≡ true → slice_get later size ≡ Some (Assign place value) → slice_get later (size + 1) ≡ Some (Jump position) → write (n + 2) (take size later) ≡ Some turn
      → Covers n (Assign head.variable head.first) (Branch head.test on off ∷ later) (part (stmt.For head.variable head.first head.test next turn) (size + 3))
  unfolding one_if loops_from
  loop_made write keeps n size room head on off position place value later next turn before begins well grows goes_back' is =
      let two : n + 2 ≡ suc (suc n) = omega arith in
      let well' = begin_later l once (suc n) (Branch head.test on off) later well in
      let inner = keeps (n + 2) (take size later) turn (well_take l once size (n + 2) later (ap (λ k. begin_well l once k later) two ∙ well')) is in
      let more : size + 1 ≡ suc size = omega arith in
      let back : slice_get later (suc size) ≡ Some (Jump position) = ap (slice_get later) (sym more) ∙ goes_back' in
      let inside = get_inside (suc size) later (Jump position) back in
      let grown_at = dropped_at size later (Assign place value) grows in
      let back_at = dropped_at (suc size) later (Jump position) back in
      let long = length-take-le size later (omega (arith, inside)) in
      let turn_count : loops_from l.loop (n + 2) (length (take size later)) ≡ loops_from l.loop (suc (suc n)) size = (λ i. loops_from l.loop (two i) (long i)) in
      let no_test : l.loop (suc n) ≡ None = no_loop_first l once (suc n) (Branch head.test on off) later well (test_sets head.test on off) in
      let no_growth : l.loop (suc (suc n) + size) ≡ None =
      no_loop_alone l once size (suc (suc n)) (suc (suc n) + size) later (Assign place value) (drop (suc size) later) before well' refl grown_at
      (λ k. jump_first (suc (suc (suc n) + size)) k position (drop (suc size) later) (drop (suc (suc size)) later) back_at) in
      let no_back : l.loop (suc (suc n) + size + 1) ≡ None =
      no_loop_at l once (suc size) (suc (suc n)) (suc (suc n) + size + 1) later (Jump position) (drop (suc (suc size)) later) well' (omega arith) back_at (jump_sets (Jump position) position refl) in
      let one = ap one_if begins in
      let count_test = loops_one l.loop (suc n) None no_test in
      let count_growth = loops_one l.loop (suc (suc n) + size) None no_growth in
      let count_back = loops_one l.loop (suc (suc n) + size + 1) None no_back in
      let split_test = loops_split l.loop (suc n) (suc (suc n)) 1 (size + 2) (size + 3) (omega arith) (omega arith) in
      let split_turn = loops_split l.loop (suc (suc n)) (suc (suc n) + size) size 2 (size + 2) refl refl in
      let split_back = loops_split l.loop (suc (suc n) + size) (suc (suc n) + size + 1) 1 1 2 refl refl in
      let count : suc (loops_from l.loop (n + 2) (length (take size later))) ≡ one_if (l.loop n) + loops_from l.loop (suc n) (size + 3) =
      omega (arith, turn_count, one, count_test, count_growth, count_back, split_test, split_turn, split_back) in
      record {
        within = omega (arith, inside);
        loops = loops_for head.variable head.first head.test next turn ∙ ap within_for inner.loops ∙ by_for once (loops_from l.loop (n + 2) (length (take size later))) before
            ∙ as_many (suc (loops_from l.loop (n + 2) (length (take size later)))) (one_if (l.loop n) + loops_from l.loop (suc n) (size + 3)) count;
        named = subst (AreLabels l) (sym (ap (λ x. x.named) (named_for head.variable head.first head.test next turn))) inner.named;
      }

  for_by_covers : (n size : ℕ) (head : Head) (item : Item) (later : List Item) (x : Option CNext) (y : Option (List CStmt)) (p : Part)
      → ((next : CNext) (turn : List CStmt) → x ≡ Some next → y ≡ Some turn → Covers n item later (part (stmt.For head.variable head.first head.test next turn) (size + 3))) → for_by head size x y ≡ Some p → Covers n item later p
  unfolding for_by
  for_by_covers n size head item later (Some next) (Some turn) p each h = subst (Covers n item later) (same_part (part (stmt.For head.variable head.first head.test next turn) (size + 3)) p h) (each next turn refl refl)
  for_by_covers n size head item later (Some next) None p each h = absurd (cc)
  for_by_covers n size head item later None y p each h = absurd (cc)

  head_covers : (write : Writer) → Keeps write → (n size room : ℕ) (variable first : CExpr) (later : List Item) (p : Part) → once ≡ false → l.loop n ≡ Some room → begin_well l once (suc n) later ≡ true → head_for l write n size variable first later ≡ Some p
      → Covers n (Assign variable first) later p
  unfolding head_for is_loop turns_for
  head_covers write keeps n size room variable first (Branch test on off ∷ later) p before begins well h =
      by (nat_le (size + 2) (length later) && (nat_eq on (n + 2) && (nat_eq off (n + size + 4) && (goes_back (n + 1) (slice_get later (size + 1)) && is_unmarked l n size)))) refl h
    where
      head : Head
      head = record { variable = variable; first = first; test = test }

      by : (b : Bool) → nat_le (size + 2) (length later) && (nat_eq on (n + 2) && (nat_eq off (n + size + 4) && (goes_back (n + 1) (slice_get later (size + 1)) && is_unmarked l n size))) ≡ b
          → (if b then for_by head size (next_for variable (slice_get later size)) (write (n + 2) (take size later)) else None) ≡ Some p → Covers n (Assign variable first) (Branch test on off ∷ later) p
      by true so g =
          let one = and_parts (nat_le (size + 2) (length later)) (nat_eq on (n + 2) && (nat_eq off (n + size + 4) && (goes_back (n + 1) (slice_get later (size + 1)) && is_unmarked l n size))) so in
          let two = and_parts (nat_eq on (n + 2)) (nat_eq off (n + size + 4) && (goes_back (n + 1) (slice_get later (size + 1)) && is_unmarked l n size)) one.1 in
          let three = and_parts (nat_eq off (n + size + 4)) (goes_back (n + 1) (slice_get later (size + 1)) && is_unmarked l n size) two.1 in
          let four = and_parts (goes_back (n + 1) (slice_get later (size + 1))) (is_unmarked l n size) three.1 in
          let back = goes_by_jump (n + 1) (slice_get later (size + 1)) four.0 in
          for_by_covers n size head (Assign variable first) (Branch test on off ∷ later) (next_for variable (slice_get later size)) (write (n + 2) (take size later)) p
          (λ next turn next_is turn_is. let grown = growth_of variable (slice_get later size) next next_is in loop_made write keeps n size room head on off back.0 grown.place grown.value later next turn before begins well grown.is back.1 turn_is) g
      by false so g = absurd (cc)
  head_covers write keeps n size room variable first later p before begins well h = absurd (cc)

  -- an item that is inside some is there
  there : (items : List Item) (k : ℕ) → suc k ≤ length items → slice_get items k ≡ None → ⊥
  there [] k less is = absurd (omega arith)
  there (item ∷ items) zero less is = absurd (cc)
  there (item ∷ items) (suc k) less is = there items k (omega arith) is

  -- where no item is behind the turn, there is no room for a test before it
  past_head : (write : Writer) (n size : ℕ) (variable first : CExpr) (later : List Item) (p : Part) → slice_get later size ≡ None → head_for l write n size variable first later ≡ Some p → ⊥
  unfolding head_for is_loop
  past_head write n size variable first (Branch test on off ∷ later) p none h =
      by (nat_le (size + 2) (length later) && (nat_eq on (n + 2) && (nat_eq off (n + size + 4) && (goes_back (n + 1) (slice_get later (size + 1)) && is_unmarked l n size)))) refl h
    where
      by : (b : Bool) → nat_le (size + 2) (length later) && (nat_eq on (n + 2) && (nat_eq off (n + size + 4) && (goes_back (n + 1) (slice_get later (size + 1)) && is_unmarked l n size))) ≡ b
          → (if b then turns_for write n size (record { variable = variable; first = first; test = test }) later else None) ≡ Some p → ⊥
      by true so g =
          let room = leb-true (size + 2) (length later)
          (and_parts (nat_le (size + 2) (length later)) (nat_eq on (n + 2) && (nat_eq off (n + size + 4) && (goes_back (n + 1) (slice_get later (size + 1)) && is_unmarked l n size))) so).0 in
          there (Branch test on off ∷ later) size (let e : suc size ≤ suc (length later) = omega (arith, room) in e) none
      by false so g = absurd (cc)
  past_head write n size variable first later p none h = absurd (cc)

  -- a test behind the turn
  record IsTest (x : Option Item) : Type 0 where
    test : CExpr
    on : ℕ
    off : ℕ
    is : x ≡ Some (Branch test on off)

  turn_tested : (n size : ℕ) (x : Option Item) → tests_turn l n size x ≡ true → IsTest x
  unfolding tests_turn
  turn_tested n size (Some (Branch test on off)) h = record { test = test; on = on; off = off; is = refl }
  turn_tested n size x h = absurd (cc)

  do_made : (write : Writer) → Keeps write → (n size room : ℕ) (variable first test : CExpr) (later : List Item) (turn : List CStmt) → once ≡ true → l.loop n ≡ Some room → begin_well l once (suc n) later ≡ true → IsTest (slice_get later size)
      → write (n + 1) (take size later) ≡ Some turn → Covers n (Assign variable first) later (part (stmt.Block (stmt.Set variable first ∷ stmt.DoWhile turn test ∷ [])) (size + 1))
  unfolding one_if loops_from
  do_made write keeps n size room variable first test later turn behind' begins well tested is =
      let start : n + 1 ≡ suc n = omega arith in
      let inner = keeps (n + 1) (take size later) turn (well_take l once size (n + 1) later (ap (λ k. begin_well l once k later) start ∙ well)) is in
      let last = Branch tested.test tested.on tested.off in
      let inside = get_inside size later last tested.is in
      let at = dropped_at size later last tested.is in
      let long = length-take-le size later (omega (arith, inside)) in
      let turn_count : loops_from l.loop (n + 1) (length (take size later)) ≡ loops_from l.loop (suc n) size = (λ i. loops_from l.loop (start i) (long i)) in
      let no_test : l.loop (suc n + size) ≡ None = no_loop_at l once size (suc n) (suc n + size) later last (drop (suc size) later) well refl at (test_sets tested.test tested.on tested.off) in
      let one = ap one_if begins in
      let count_test = loops_one l.loop (suc n + size) None no_test in
      let split = loops_split l.loop (suc n) (suc n + size) size 1 (size + 1) refl refl in
      let count : suc (loops_from l.loop (n + 1) (length (take size later))) ≡ one_if (l.loop n) + loops_from l.loop (suc n) (size + 1) = omega (arith, turn_count, one, count_test, split) in
      let all = loops_from l.loop (n + 1) (length (take size later)) in
      record {
        within = omega (arith, inside);
        loops = loops_do variable first turn test ∙ (λ i. both_loops (none_by once i) (both_loops ((ap within_do inner.loops ∙ by_do once all behind') i) (none_by once i)))
            ∙ ap (both_loops (loops_by once 0)) (sum_by (suc all) 0 (suc all) (omega arith)) ∙ sum_by 0 (suc all) (one_if (l.loop n) + loops_from l.loop (suc n) (size + 1)) (omega (arith, count));
        named = subst (AreLabels l) (sym (ap (λ x. x.named) (named_do variable first turn test) ∙ append-nil (labels_of_all turn).named)) inner.named;
      }

  do_by_covers : (n size : ℕ) (variable first : CExpr) (item : Item) (later : List Item) (x : Option (List CStmt)) (y : Option CExpr) (p : Part)
      → ((turn : List CStmt) (test : CExpr) → x ≡ Some turn → y ≡ Some test → Covers n item later (part (stmt.Block (stmt.Set variable first ∷ stmt.DoWhile turn test ∷ [])) (size + 1))) → do_by variable first size x y ≡ Some p → Covers n item later p
  unfolding do_by
  do_by_covers n size variable first item later (Some turn) (Some test) p each h =
      subst (Covers n item later) (same_part (part (stmt.Block (stmt.Set variable first ∷ stmt.DoWhile turn test ∷ [])) (size + 1)) p h) (each turn test refl refl)
  do_by_covers n size variable first item later (Some turn) None p each h = absurd (cc)
  do_by_covers n size variable first item later None y p each h = absurd (cc)

  do_covers : (write : Writer) → Keeps write → (n size room : ℕ) (variable first : CExpr) (later : List Item) (p : Part) → once ≡ true → l.loop n ≡ Some room → begin_well l once (suc n) later ≡ true → tests_turn l n size (slice_get later size) ≡ true
      → do_for write n size variable first later ≡ Some p → Covers n (Assign variable first) later p
  unfolding do_for
  do_covers write keeps n size room variable first later p behind' begins well tested h =
      do_by_covers n size variable first (Assign variable first) later (write (n + 1) (take size later)) (test_in (slice_get later size)) p
      (λ turn test is is'. do_made write keeps n size room variable first test later turn behind' begins well (turn_tested n size (slice_get later size) tested) is) h

  -- which kind of loop it is
  not_ended : (n size : ℕ) (x : Option Item) → ends_turn l n size x ≡ true → tests_turn l n size x ≡ false → x ≡ None
  unfolding ends_turn
  not_ended n size None h other = refl
  not_ended n size (Some item) h other = absurd (let clash : true ≡ false = sym h ∙ other in cc)

  -- no statements have a first item that tests and passes more than all of them
  abbrev Refuses : Writer → Type 0
  Refuses write = (n : ℕ) (test : CExpr) (on off : ℕ) (later : List Item) (body : List CStmt) → l.loop n ≡ None → suc n + length later < off → write n (Branch test on off ∷ later) ≡ Some body → ⊥

  take_short : (k : ℕ) (items : List Item) → length (take k items) ≤ k
  take_short zero items = omega arith
  take_short (suc k) [] = omega arith
  take_short (suc k) (item ∷ items) = let more = take_short k items in omega (arith, more)

  record TestsAhead (n size : ℕ) (item : Item) : Type 0 where
    test : CExpr
    on : ℕ
    off : ℕ
    is : item ≡ Branch test on off
    on_is : on ≡ suc n
    off_is : off ≡ suc n + (size + 2)

  tested_ahead : (n size : ℕ) (item : Item) → tests_ahead n size item ≡ true → TestsAhead n size item
  unfolding tests_ahead
  tested_ahead n size (Branch test on off) h =
      let parts = and_parts (nat_eq on (suc n)) (nat_eq off (suc n + (size + 2))) h in
      record { test = test; on = on; off = off; is = refl; on_is = eqb-true on (suc n) parts.0; off_is = eqb-true off (suc n + (size + 2)) parts.1 }
  tested_ahead n size item h = absurd (cc)

  on_of : (n size : ℕ) (x : Option Item) (test : CExpr) (on off : ℕ) → x ≡ Some (Branch test on off) → tests_turn l n size x ≡ true → on ≡ n + 1
  unfolding tests_turn
  on_of n size (Some (Branch test on off)) test' on' off' is h =
      let same : Branch test on off ≡ Branch test' on' off' = cc in
      let place : on ≡ on' = cc in
      sym place ∙ eqb-true on (n + 1) (and_parts (nat_eq on (n + 1)) (nat_eq off (n + size + 2) && is_none (l.label (n + size + 1))) h).0
  on_of n size x test on off is h = absurd (cc)

  turn_of : (size : ℕ) (variable first : CExpr) (x : Option (List CStmt)) (y : Option CExpr) (p : Part) → do_by variable first size x y ≡ Some p → (turn : List CStmt) × (x ≡ Some turn)
  unfolding do_by
  turn_of size variable first (Some turn) y p h = (turn, refl)
  turn_of size variable first None y p h = absurd (cc)

  none_tested : (n size : ℕ) → tests_turn l n size (slice_get [] size) ≡ true → ⊥
  unfolding tests_turn
  none_tested n size h = absurd (cc)

  -- where the test before each turn passes it all, none behind the turn goes back to it
  not_behind : (write : Writer) → Refuses write → (n size : ℕ) (variable first : CExpr) (later : List Item) (p : Part) → once ≡ false → begin_well l once (suc n) later ≡ true → tests_first (suc n) size later ≡ true
      → tests_turn l n size (slice_get later size) ≡ true → do_for write n size variable first later ≡ Some p → ⊥
  unfolding tests_first do_for
  not_behind write refuses n size variable first [] p before well ahead tested h = absurd (none_tested n size tested)
  not_behind write refuses n zero variable first (item ∷ later) p before well ahead tested h =
      let t = tested_ahead (suc n) 0 item ahead in
      let on = on_of n 0 (Some item) t.test t.on t.off (ap Some t.is) tested in
      let other = t.on_is in
      absurd (omega (arith, on, other))
  not_behind write refuses n (suc size) variable first (item ∷ later) p before well ahead tested h =
      let t = tested_ahead (suc n) (suc size) item ahead in
      let start : n + 1 ≡ suc n = omega arith in
      let turn = turn_of (suc size) variable first (write (n + 1) (take (suc size) (item ∷ later))) (test_in (slice_get (item ∷ later) (suc size))) p h in
      let bare' : l.loop (suc n) ≡ None = no_loop_first l once (suc n) item later well (ap is_set t.is ∙ test_sets t.test t.on t.off) in
      let off = t.off_is in
      let short = take_short size later in
      refuses (n + 1) t.test t.on t.off (take size later) turn.0 (ap l.loop start ∙ bare') (omega (arith, off, short)) (ap (λ i. write (n + 1) (i ∷ take size later)) (sym t.is) ∙ turn.1)

  loop_covers : (write : Writer) → Keeps write → Refuses write → (n size : ℕ) (item : Item) (later : List Item) (p : Part) → l.loop n ≡ Some size → begin_well l once n (item ∷ later) ≡ true → loop_for l write n size item later ≡ Some p → Covers n item later p
  unfolding loop_for
  loop_covers write keeps refuses n size (Assign variable first) later p begins well h = by once (tests_turn l n size (slice_get later size)) refl refl h
    where
      by : (kind b : Bool) → once ≡ kind → tests_turn l n size (slice_get later size) ≡ b → (if b then do_for write n size variable first later else head_for l write n size variable first later) ≡ Some p → Covers n (Assign variable first) later p
      by true true is tested g = do_covers write keeps n size size variable first later p is begins (begin_later l once n (Assign variable first) later well) tested g
      by true false is tested g =
          absurd (past_head write n size variable first later p (not_ended n size (slice_get later size) (ends_well l once n size (Assign variable first) later is (begins_first l once n (Some size) (Assign variable first) later begins well)) tested) g)
      by false true is tested g =
          absurd (not_behind write refuses n size variable first later p is (begin_later l once n (Assign variable first) later well)
          (goes_well l once n size (Assign variable first) later is (begins_first l once n (Some size) (Assign variable first) later begins well)) tested g)
      by false false is tested g = head_covers write keeps n size size variable first later p is begins (begin_later l once n (Assign variable first) later well) g
  loop_covers write keeps refuses n size item later p begins well h = absurd (cc)

  -- ## Statements

  part_covers : (write : Writer) → Keeps write → Refuses write → (n : ℕ) (found : Option ℕ) (item : Item) (later : List Item) (p : Part) → l.loop n ≡ found → begin_well l once n (item ∷ later) ≡ true → part_for l write found n item later ≡ Some p → Covers n item later p
  unfolding part_for
  part_covers write keeps refuses n None item later p is well h = plain_covers write keeps n item later p is (begin_later l once n item later well) h
  part_covers write keeps refuses n (Some size) item later p is well h = loop_covers write keeps refuses n size item later p is well h

  labelled_covers : (n : ℕ) (item : Item) (later : List Item) (label : Option (List ℕ)) (p : Part) → Covers n item later p → Covers n item later (part (with_label label p.statement) p.taken)
  labelled_covers n item later label p covers = record {
    within = covers.within;
    loops = loops_labelled label p.statement ∙ covers.loops;
    named = subst (AreLabels l) (sym (named_labelled label p.statement)) covers.named;
  }

  marked_covers : (n : ℕ) (item : Item) (later : List Item) (label : Option (List ℕ)) (x : Option Part) (p : Part) → ((q : Part) → x ≡ Some q → Covers n item later q) → marked label x ≡ Some p → Covers n item later p
  unfolding marked
  marked_covers n item later label (Some q) p each h = subst (Covers n item later) (same_part (part (with_label label q.statement) q.taken) p h) (labelled_covers n item later label q (each q refl))
  marked_covers n item later label None p each h = absurd (cc)

  -- a part, and the statements of the items behind it
  all_made : (write : Writer) → Keeps write → (n : ℕ) (item : Item) (later : List Item) (p : Part) (rest : List CStmt) → begin_well l once (suc n) later ≡ true → Covers n item later p → write (n + 1 + p.taken) (drop p.taken later) ≡ Some rest
      → IsKept l once n (item ∷ later) (p.statement ∷ rest)
  unfolding loops_of_all
  all_made write keeps n item later p rest well covers is =
      let others = keeps (n + 1 + p.taken) (drop p.taken later) rest (well_drop l once p.taken (suc n) (n + 1 + p.taken) later (omega arith) well) is in
      let left = length-drop p.taken later in
      let inside = covers.within in
      let size : suc (length later) ≡ suc p.taken + length (drop p.taken later) = omega (arith, left, inside) in
      let split = loops_split l.loop n (n + 1 + p.taken) (suc p.taken) (length (drop p.taken later)) (suc (length later)) (omega arith) size in
      record {
        loops = (λ i. both_loops (covers.loops i) (others.loops i))
            ∙ sum_by (loops_from l.loop n (suc p.taken)) (loops_from l.loop (n + 1 + p.taken) (length (drop p.taken later))) (loops_from l.loop n (suc (length later))) (sym split);
        named = names_both l (labels_of p.statement).named (labels_of_all rest).named covers.named others.named;
      }

  behind_made : (n : ℕ) (items : List Item) (s : CStmt) (x : Option (List CStmt)) (body : List CStmt) → ((rest : List CStmt) → x ≡ Some rest → IsKept l once n items (s ∷ rest)) → behind s x ≡ Some body → IsKept l once n items body
  unfolding behind
  behind_made n items s (Some rest) body each h = subst (IsKept l once n items) (let same : s ∷ rest ≡ body = cc in same) (each rest refl)
  behind_made n items s None body each h = absurd (cc)

  onward_made : (write : Writer) → Keeps write → (n : ℕ) (item : Item) (later : List Item) (x : Option Part) (body : List CStmt) → begin_well l once (suc n) later ≡ true → ((p : Part) → x ≡ Some p → Covers n item later p) → onward write n later x ≡ Some body
      → IsKept l once n (item ∷ later) body
  unfolding onward
  onward_made write keeps n item later (Some p) body well each h =
      behind_made n (item ∷ later) p.statement (write (n + 1 + p.taken) (drop p.taken later)) body (λ rest is. all_made write keeps n item later p rest well (each p refl) is) h
  onward_made write keeps n item later None body well each h = absurd (cc)

  -- a test that passes more items than there are has no statement
  test_refused : (write : Writer) (n : ℕ) (test : CExpr) (on off : ℕ) (later : List Item) → suc n + length later < off → test_for l write n test on off later ≡ None
  unfolding test_for
  test_refused write n test on off later less = ap (λ b. if b then branch_for l write n test (off - (n + 1)) later else None) (no_room (nat_eq on (n + 1)) (nat_le (n + 1) off) (nat_le (off - (n + 1)) (length later)) (lt-leb (off - (n + 1)) (length later) (omega (arith, less))))
    where
      no_room : (a b c : Bool) → c ≡ false → a && (b && c) ≡ false
      no_room true true c is = is
      no_room true false c is = refl
      no_room false b c is = refl

  part_refused : (write : Writer) (n : ℕ) (found : Option ℕ) (test : CExpr) (on off : ℕ) (later : List Item) → found ≡ None → suc n + length later < off → part_for l write found n (Branch test on off) later ≡ None
  unfolding part_for plain_for
  part_refused write n None test on off later none less = test_refused write n test on off later less
  part_refused write n (Some size) test on off later none less = absurd (cc)

  nothing_on : (write : Writer) (n : ℕ) (later : List Item) (label : Option (List ℕ)) → onward write n later (marked label None) ≡ None
  unfolding onward marked
  nothing_on write n later label = refl

  all_refused : (turns : ℕ) → Refuses (structured l turns)
  unfolding structured part_at
  all_refused zero n test on off later body none less h = absurd (cc)
  all_refused (suc turns) n test on off later body none less h =
      absurd (let clash : None ≡ Some body = sym (ap (λ x. onward (structured l turns) n later (marked (l.label n) x)) (part_refused (structured l turns) n (l.loop n) test on off later none less) ∙ nothing_on (structured l turns) n later (l.label n)) ∙ h in cc)

  all_kept : (turns n : ℕ) (items : List Item) (body : List CStmt) → begin_well l once n items ≡ true → structured l turns n items ≡ Some body → IsKept l once n items body
  unfolding structured part_at loops_of_all loops_from
  all_kept turns n [] body well h =
      subst (IsKept l once n []) (let same : [] ≡ body = cc in same) (record { loops = none_by once; named = no_name })
  all_kept zero n (item ∷ later) body well h = absurd (cc)
  all_kept (suc turns) n (item ∷ later) body well h =
      let well' = begin_later l once n item later well in
      let keeps : Keeps (structured l turns) = λ m items' body' well'' h'. all_kept turns m items' body' well'' h' in
      onward_made (structured l turns) keeps n item later (part_at l (structured l turns) n item later) body well'
      (λ p is. marked_covers n item later (l.label n) (part_for l (structured l turns) (l.loop n) n item later) p (λ q is'. part_covers (structured l turns) keeps (all_refused turns) n (l.loop n) item later q refl well is') is) h

pub each_structure_is_kept : EachStructureIsKept
each_structure_is_kept l once turns n items body well h = all_kept l once turns n items body well h
