-- The strings of the statements that items have by names are those of the items.
use Rattle.std.specs.List.{list_all}
use Rattle.std.specs.Prelude.{◌≡◌, ℕ, zero, suc, ◌+◌, ◌-◌, nat_eq, nat_lt, nat_le, Bool, true, false, ◌&&◌, List, [], ◌∷◌, length, take, drop, Option, Some, None, slice_get, if◌then◌else◌}
use Rattle.std.proofs.Common.{refl, ap, ◌∙◌}
use Rattle.c_spelling.specs.c_tree.Opened.{trees_opened}
use Rattle.c_spelling.specs.c_tree.declared.expression.CExpr.{CExpr, Binary', more_of-CExpr, end_of-CExpr}
use Rattle.c_spelling.specs.c_tree.declared.expression.BinaryOp.{BinaryOp}
use Rattle.c_spelling.specs.c_tree.declared.expression.BinaryOp.TheVariants as op
use Rattle.c_spelling.specs.c_tree.declared.statement.CCase.{CCase}
use Rattle.c_spelling.specs.c_tree.declared.statement.CNext.{CNext}
use Rattle.c_spelling.specs.c_tree.declared.statement.CNext.TheVariants as next
use Rattle.c_spelling.specs.c_tree.declared.statement.CStmt.{CStmt}
use Rattle.c_spelling.specs.c_tree.declared.statement.CStmt.TheVariants as stmt
use Rattle.named_mains.specs.c_structure.Statements.{with_label}
use Rattle.c_spelling.specs.Spelled.{expression_of_bytes, next_of_bytes, statement_of_bytes, statements_of_bytes}
use Rattle.named_mains.specs.named_items.declared.item.Case.{Case}
use Rattle.named_mains.specs.named_items.declared.item.Item.{Item}
use Rattle.named_mains.specs.named_items.declared.item.Item.TheVariants.{Assign, Branch, Select, Jump, Call, SetCall, Return, Nothing}
use Rattle.named_mains.specs.named_items.declared.part.Head.{Head}
use Rattle.named_mains.specs.named_items.declared.part.Part.{Part}
use Rattle.named_mains.specs.named_items.Layouts.{Layout}
use Rattle.named_mains.specs.named_items.SamePlaces.{same_expr, number_in}
use Rattle.named_mains.specs.named_items.Structured as items
use Rattle.named_mains.specs.named_items.Structured.{Writer, part, structured}
use Rattle.named_main_laws.proofs.ByteValues.{passes, both, left, right, chosen, item_of_bytes, items_of_bytes}

-- ## Lists

taken : {A : Type 0} (test : A → Bool) (m : ℕ) (xs : List A) → list_all test xs ≡ true → list_all test (take m xs) ≡ true
taken test zero xs h = refl
taken test (suc m) [] h = refl
taken test (suc m) (x ∷ xs) h = both (test x) (list_all test (take m xs)) (left (test x) (list_all test xs) h) (taken test m xs (right (test x) (list_all test xs) h))

dropped : {A : Type 0} (test : A → Bool) (m : ℕ) (xs : List A) → list_all test xs ≡ true → list_all test (drop m xs) ≡ true
dropped test zero xs h = h
dropped test (suc m) [] h = refl
dropped test (suc m) (x ∷ xs) h = dropped test m xs (right (test x) (list_all test xs) h)

found : {A : Type 0} (test : A → Bool) (m : ℕ) (xs : List A) → list_all test xs ≡ true → passes test (slice_get xs m) ≡ true
found test zero [] h = refl
found test (suc m) [] h = refl
found test zero (x ∷ xs) h = left (test x) (list_all test xs) h
found test (suc m) (x ∷ xs) h = found test m xs (right (test x) (list_all test xs) h)

-- ## Trees

in_block : (ss : List CStmt) → statement_of_bytes (stmt.Block ss) ≡ statements_of_bytes ss
unfolding trees_opened
in_block [] = refl
in_block (first ∷ later) = ap (λ b. statement_of_bytes first && b) (in_block later)

in_label : (name : List ℕ) (s : CStmt) → statement_of_bytes (stmt.Label name s) ≡ statement_of_bytes s
unfolding trees_opened
in_label name s = refl

in_if : (test : CExpr) (first : List CStmt) → statement_of_bytes (stmt.If test first None) ≡ (expression_of_bytes test && (statements_of_bytes first && true))
unfolding trees_opened
in_if test first = ap (λ b. expression_of_bytes test && (b && true)) (in_block first)

in_if_else : (test : CExpr) (first second : List CStmt) → statement_of_bytes (stmt.If test first (Some second)) ≡ (expression_of_bytes test && (statements_of_bytes first && statements_of_bytes second))
unfolding trees_opened
in_if_else test first second = λ i. expression_of_bytes test && (in_block first i && in_block second i)

in_for : (variable first test : CExpr) (turn : CNext) (inner : List CStmt)
    → statement_of_bytes (stmt.For variable first test turn inner) ≡ (expression_of_bytes variable && (expression_of_bytes first && (expression_of_bytes test && (next_of_bytes turn && statements_of_bytes inner))))
unfolding trees_opened
in_for variable first test turn inner = ap (λ b. expression_of_bytes variable && (expression_of_bytes first && (expression_of_bytes test && (next_of_bytes turn && b)))) (in_block inner)

in_do : (inner : List CStmt) (test : CExpr) → statement_of_bytes (stmt.DoWhile inner test) ≡ (statements_of_bytes inner && expression_of_bytes test)
unfolding trees_opened
in_do inner test = ap (λ b. b && expression_of_bytes test) (in_block inner)

in_set : (a b : CExpr) → statement_of_bytes (stmt.Set a b) ≡ (expression_of_bytes a && expression_of_bytes b)
unfolding trees_opened
in_set a b = refl

-- ## One item

abbrev part_of_bytes : Part → Bool
part_of_bytes p = statement_of_bytes p.statement

jumped : (label : Option (List ℕ)) → passes statement_of_bytes (items.goto_label label) ≡ true
unfolding items.goto_label trees_opened
jumped None = refl
jumped (Some name) = refl

stated : (l : Layout) (i : Item) → item_of_bytes i ≡ true → passes statement_of_bytes (items.statement_of l i) ≡ true
unfolding items.statement_of items.call_of items.set_call_of trees_opened
stated l (Assign a b) h = h
stated l (Branch test on off) h = refl
stated l (Select value cases otherwise) h = refl
stated l (Jump position) h = jumped (l.label position)
stated l (Call callee arguments) h = h
stated l (SetCall target callee arguments) h = h
stated l (Return value) h = h
stated l Nothing h = refl

alone : (x : Option CStmt) → passes statement_of_bytes x ≡ true → passes part_of_bytes (items.alone x) ≡ true
unfolding items.alone
alone None h = refl
alone (Some s) h = h

-- items whose strings are of bytes are written as such statements
abbrev WritesBytes : Writer → Type 0
WritesBytes write = (n : ℕ) (is : List Item) → items_of_bytes is ≡ true → passes statements_of_bytes (write n is) ≡ true

-- ## Tests

if_by : (test : CExpr) (size : ℕ) (xs : Option (List CStmt)) → expression_of_bytes test ≡ true → passes statements_of_bytes xs ≡ true → passes part_of_bytes (items.if_by test size xs) ≡ true
unfolding items.if_by
if_by test size None h inner = refl
if_by test size (Some first) h inner =
    in_if test first ∙ both (expression_of_bytes test) (statements_of_bytes first && true) h (both (statements_of_bytes first) true inner refl)

if_else_by : (test : CExpr) (size : ℕ) (xs ys : Option (List CStmt)) → expression_of_bytes test ≡ true → passes statements_of_bytes xs ≡ true → passes statements_of_bytes ys ≡ true
    → passes part_of_bytes (items.if_else_by test size xs ys) ≡ true
unfolding items.if_else_by
if_else_by test size (Some first) (Some second) h inner other =
    in_if_else test first second ∙ both (expression_of_bytes test) (statements_of_bytes first && statements_of_bytes second) h (both (statements_of_bytes first) (statements_of_bytes second) inner other)
if_else_by test size (Some first) None h inner other = refl
if_else_by test size None ys h inner other = refl

-- ## Cases

switch_by : (value : CExpr) (size : ℕ) (xs : Option (List CCase)) → expression_of_bytes value ≡ true → passes part_of_bytes (items.switch_by value size xs) ≡ true
unfolding items.switch_by trees_opened
switch_by value size None h = refl
switch_by value size (Some cases) h = h

switched : (l : Layout) (n : ℕ) (value : CExpr) (cases : List Case) (otherwise : ℕ) (later : List Item) → expression_of_bytes value ≡ true → passes part_of_bytes (items.switch_for l n value cases otherwise later) ≡ true
unfolding items.switch_for
switched l n value cases otherwise later h =
    let found = items.cases_for l (n + 1) cases later in
    chosen part_of_bytes _ (items.switch_by value (length cases) found) None (switch_by value (length cases) found h) refl

-- ## Loops

abbrev two_of_bytes : CExpr × CExpr → Bool
two_of_bytes pair = expression_of_bytes pair.0 && expression_of_bytes pair.1

added : (sign : BinaryOp) (a b : CExpr) → expression_of_bytes a && expression_of_bytes b ≡ true → passes two_of_bytes (items.added_in sign a b) ≡ true
unfolding items.added_in
added op.Add a b h = h
added sign a b h = refl

summed : (e : CExpr) → expression_of_bytes e ≡ true → passes two_of_bytes (items.sum_in e) ≡ true
unfolding items.sum_in
summed (Binary' sign s (more_of-CExpr a end_of-CExpr) t (more_of-CExpr b end_of-CExpr)) h = added sign a b h
summed e h = refl

grown : (variable amount : CExpr) → expression_of_bytes variable ≡ true → expression_of_bytes amount ≡ true → next_of_bytes (items.next_by variable amount) ≡ true
unfolding items.next_by
grown variable amount one other = by (items.is_one (number_in amount))
  where
    by : (b : Bool) → next_of_bytes (if b then next.Up variable else next.Add variable amount) ≡ true
    by true = one
    by false = both (expression_of_bytes variable) (expression_of_bytes amount) one other

next_from : (variable target : CExpr) (sum : Option (CExpr × CExpr)) → expression_of_bytes target ≡ true → passes two_of_bytes sum ≡ true → passes next_of_bytes (items.next_from variable target sum) ≡ true
unfolding items.next_from
next_from variable target None one other = refl
next_from variable target (Some sum) one other =
    chosen next_of_bytes (same_expr variable target && same_expr variable sum.0) (Some (items.next_by target sum.1)) None
    (grown target sum.1 one (right (expression_of_bytes sum.0) (expression_of_bytes sum.1) other)) refl

next_for : (variable : CExpr) (i : Option Item) → passes item_of_bytes i ≡ true → passes next_of_bytes (items.next_for variable i) ≡ true
unfolding items.next_for
next_for variable (Some (Assign target value)) h =
    next_from variable target (items.sum_in value) (left (expression_of_bytes target) (expression_of_bytes value) h) (summed value (right (expression_of_bytes target) (expression_of_bytes value) h))
next_for variable i h = refl

-- a head whose strings are of bytes
record HasBytes (head : Head) : Type 0 where
  variable : expression_of_bytes head.variable ≡ true
  first : expression_of_bytes head.first ≡ true
  test : expression_of_bytes head.test ≡ true

for_by : (head : Head) (size : ℕ) (turn : Option CNext) (xs : Option (List CStmt)) → HasBytes head → passes next_of_bytes turn ≡ true → passes statements_of_bytes xs ≡ true → passes part_of_bytes (items.for_by head size turn xs) ≡ true
unfolding items.for_by
for_by head size (Some turn) (Some inner) has one others =
    let e = expression_of_bytes in
    in_for head.variable head.first head.test turn inner
    ∙ both (e head.variable) (e head.first && (e head.test && (next_of_bytes turn && statements_of_bytes inner))) has.variable
    (both (e head.first) (e head.test && (next_of_bytes turn && statements_of_bytes inner)) has.first
    (both (e head.test) (next_of_bytes turn && statements_of_bytes inner) has.test (both (next_of_bytes turn) (statements_of_bytes inner) one others)))
for_by head size (Some turn) None has one others = refl
for_by head size None xs has one others = refl

test_found : (i : Option Item) → passes item_of_bytes i ≡ true → passes expression_of_bytes (items.test_in i) ≡ true
unfolding items.test_in
test_found (Some (Branch test on off)) h = h
test_found i h = refl

do_by : (a b : CExpr) (size : ℕ) (xs : Option (List CStmt)) (x : Option CExpr) → expression_of_bytes a ≡ true → expression_of_bytes b ≡ true → passes statements_of_bytes xs ≡ true → passes expression_of_bytes x ≡ true
    → passes part_of_bytes (items.do_by a b size xs x) ≡ true
unfolding items.do_by
do_by a b size (Some turn) (Some test) one other inner last =
    let repeated = stmt.DoWhile turn test in
    let set : statement_of_bytes (stmt.Set a b) ≡ true = in_set a b ∙ both (expression_of_bytes a) (expression_of_bytes b) one other in
    let loop : statement_of_bytes repeated ≡ true = in_do turn test ∙ both (statements_of_bytes turn) (expression_of_bytes test) inner last in
    in_block (stmt.Set a b ∷ repeated ∷ [])
    ∙ both (statement_of_bytes (stmt.Set a b)) (statements_of_bytes (repeated ∷ [])) set (both (statement_of_bytes repeated) (statements_of_bytes []) loop refl)
do_by a b size (Some turn) None one other inner last = refl
do_by a b size None x one other inner last = refl

-- ## Statements

labelled : (label : Option (List ℕ)) (s : CStmt) → statement_of_bytes s ≡ true → statement_of_bytes (with_label label s) ≡ true
unfolding with_label
labelled None s h = h
labelled (Some name) s h = in_label name s ∙ h

marked : (label : Option (List ℕ)) (x : Option Part) → passes part_of_bytes x ≡ true → passes part_of_bytes (items.marked label x) ≡ true
unfolding items.marked
marked label None h = refl
marked label (Some p) h = labelled label p.statement h

behind : (s : CStmt) (xs : Option (List CStmt)) → statement_of_bytes s ≡ true → passes statements_of_bytes xs ≡ true → passes statements_of_bytes (items.behind s xs) ≡ true
unfolding items.behind
behind s None h hs = refl
behind s (Some ss) h hs = both (statement_of_bytes s) (statements_of_bytes ss) h hs

module _ (write : Writer) (writes : WritesBytes write) where
  one_arm : (n : ℕ) (test : CExpr) (size : ℕ) (later : List Item) → expression_of_bytes test ≡ true → items_of_bytes later ≡ true → passes part_of_bytes (items.one_arm write n test size later) ≡ true
  unfolding items.one_arm
  one_arm n test size later h hs = if_by test size (write (n + 1) (take size later)) h (writes (n + 1) (take size later) (taken item_of_bytes size later hs))

  two_arms : (n : ℕ) (test : CExpr) (size other : ℕ) (later : List Item) → expression_of_bytes test ≡ true → items_of_bytes later ≡ true → passes part_of_bytes (items.two_arms write n test size other later) ≡ true
  unfolding items.two_arms
  two_arms n test size other later h hs =
      if_else_by test (size + 1 + other) (write (n + 1) (take size later)) (write (n + size + 2) (take other (drop (size + 1) later))) h
      (writes (n + 1) (take size later) (taken item_of_bytes size later hs))
      (writes (n + size + 2) (take other (drop (size + 1) later)) (taken item_of_bytes other (drop (size + 1) later) (dropped item_of_bytes (size + 1) later hs)))

  arms : (n : ℕ) (test : CExpr) (size : ℕ) (last : Option ℕ) (later : List Item) → expression_of_bytes test ≡ true → items_of_bytes later ≡ true → passes part_of_bytes (items.arms_for write n test size last later) ≡ true
  unfolding items.arms_for
  arms n test size None later h hs = refl
  arms n test size (Some last) later h hs =
      chosen part_of_bytes (nat_le (n + size + 2) last && nat_le (last - (n + size + 2)) (length later - (size + 1))) (items.two_arms write n test size (last - (n + size + 2)) later) None
      (two_arms n test size (last - (n + size + 2)) later h hs) refl

  branch : (l : Layout) (n : ℕ) (test : CExpr) (size : ℕ) (later : List Item) → expression_of_bytes test ≡ true → items_of_bytes later ≡ true → passes part_of_bytes (items.branch_for l write n test size later) ≡ true
  unfolding items.branch_for
  branch l n test size later h hs =
      chosen part_of_bytes (nat_lt 0 size && l.ends_arm (n + size)) (items.arms_for write n test (size - 1) (items.end_of_arm (slice_get later (size - 1))) later) (items.one_arm write n test size later)
      (arms n test (size - 1) (items.end_of_arm (slice_get later (size - 1))) later h hs) (one_arm n test size later h hs)

  tested : (l : Layout) (n : ℕ) (test : CExpr) (on off : ℕ) (later : List Item) → expression_of_bytes test ≡ true → items_of_bytes later ≡ true → passes part_of_bytes (items.test_for l write n test on off later) ≡ true
  unfolding items.test_for
  tested l n test on off later h hs =
      chosen part_of_bytes (nat_eq on (n + 1) && (nat_le (n + 1) off && nat_le (off - (n + 1)) (length later))) (items.branch_for l write n test (off - (n + 1)) later) None (branch l n test (off - (n + 1)) later h hs) refl

  plain : (l : Layout) (n : ℕ) (i : Item) (later : List Item) → item_of_bytes i ≡ true → items_of_bytes later ≡ true → passes part_of_bytes (items.plain_for l write n i later) ≡ true
  unfolding items.plain_for
  plain l n (Branch test on off) later h hs = tested l n test on off later h hs
  plain l n (Select value cases otherwise) later h hs = switched l n value cases otherwise later h
  plain l n i later h hs = alone (items.statement_of l i) (stated l i h)

  turns : (n size : ℕ) (head : Head) (later : List Item) → HasBytes head → items_of_bytes later ≡ true → passes part_of_bytes (items.turns_for write n size head later) ≡ true
  unfolding items.turns_for
  turns n size head later has hs =
      for_by head size (items.next_for head.variable (slice_get later size)) (write (n + 2) (take size later)) has (next_for head.variable (slice_get later size) (found item_of_bytes size later hs))
      (writes (n + 2) (take size later) (taken item_of_bytes size later hs))

  headed : (l : Layout) (n size : ℕ) (variable first : CExpr) (later : List Item) → expression_of_bytes variable ≡ true → expression_of_bytes first ≡ true → items_of_bytes later ≡ true
      → passes part_of_bytes (items.head_for l write n size variable first later) ≡ true
  unfolding items.head_for
  headed l n size variable first (Branch test on off ∷ later) one other hs =
      let head : Head = record { variable = variable; first = first; test = test } in
      let has : HasBytes head = record { variable = one; first = other; test = left (expression_of_bytes test) (items_of_bytes later) hs } in
      chosen part_of_bytes (items.is_loop l n size on off later) (items.turns_for write n size head later) None (turns n size head later has (right (expression_of_bytes test) (items_of_bytes later) hs)) refl
  headed l n size variable first later one other hs = refl

  once : (n size : ℕ) (variable first : CExpr) (later : List Item) → expression_of_bytes variable ≡ true → expression_of_bytes first ≡ true → items_of_bytes later ≡ true
      → passes part_of_bytes (items.do_for write n size variable first later) ≡ true
  unfolding items.do_for
  once n size variable first later one other hs =
      do_by variable first size (write (n + 1) (take size later)) (items.test_in (slice_get later size)) one other (writes (n + 1) (take size later) (taken item_of_bytes size later hs))
      (test_found (slice_get later size) (found item_of_bytes size later hs))

  looped : (l : Layout) (n size : ℕ) (i : Item) (later : List Item) → item_of_bytes i ≡ true → items_of_bytes later ≡ true → passes part_of_bytes (items.loop_for l write n size i later) ≡ true
  unfolding items.loop_for
  looped l n size (Assign variable first) later h hs =
      let one = left (expression_of_bytes variable) (expression_of_bytes first) h in
      let other = right (expression_of_bytes variable) (expression_of_bytes first) h in
      chosen part_of_bytes (items.tests_turn l n size (slice_get later size)) (items.do_for write n size variable first later) (items.head_for l write n size variable first later)
      (once n size variable first later one other hs) (headed l n size variable first later one other hs)
  looped l n size i later h hs = refl

  parted : (l : Layout) (loop : Option ℕ) (n : ℕ) (i : Item) (later : List Item) → item_of_bytes i ≡ true → items_of_bytes later ≡ true → passes part_of_bytes (items.part_for l write loop n i later) ≡ true
  unfolding items.part_for
  parted l None n i later h hs = plain l n i later h hs
  parted l (Some size) n i later h hs = looped l n size i later h hs

  placed : (l : Layout) (n : ℕ) (i : Item) (later : List Item) → item_of_bytes i ≡ true → items_of_bytes later ≡ true → passes part_of_bytes (items.part_at l write n i later) ≡ true
  unfolding items.part_at
  placed l n i later h hs = marked (l.label n) (items.part_for l write (l.loop n) n i later) (parted l (l.loop n) n i later h hs)

  onward : (n : ℕ) (later : List Item) (x : Option Part) → items_of_bytes later ≡ true → passes part_of_bytes x ≡ true → passes statements_of_bytes (items.onward write n later x) ≡ true
  unfolding items.onward
  onward n later None hs h = refl
  onward n later (Some p) hs h = behind p.statement (write (n + 1 + p.taken) (drop p.taken later)) h (writes (n + 1 + p.taken) (drop p.taken later) (dropped item_of_bytes p.taken later hs))

-- statements of items by names
pub statements_are_of_bytes : (l : Layout) (turns n : ℕ) (is : List Item) → items_of_bytes is ≡ true → passes statements_of_bytes (structured l turns n is) ≡ true
unfolding structured
statements_are_of_bytes l turns n [] h = refl
statements_are_of_bytes l zero n (i ∷ later) h = refl
statements_are_of_bytes l (suc turns) n (i ∷ later) h =
    let write : Writer = structured l turns in
    let writes : WritesBytes write = λ m is all. statements_are_of_bytes l turns m is all in
    onward write writes n later (items.part_at l write n i later) (right (item_of_bytes i) (items_of_bytes later) h)
    (placed write writes l n i later (left (item_of_bytes i) (items_of_bytes later) h) (right (item_of_bytes i) (items_of_bytes later) h))
