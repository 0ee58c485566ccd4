-- The statements of items by names are those of the flat items.
use Rattle.std.specs.Prelude.{◌≡◌, ℕ, zero, suc, ◌+◌, ◌-◌, nat_eq, nat_lt, nat_le, Bool, true, false, ◌&&◌, List, [], ◌∷◌, map, length, take, drop, Option, Some, None, is_none, option_map, slice_get, if◌then◌else◌}
use Rattle.std.proofs.Common.{refl, sym, ap, ◌∙◌, subst, arith}
use Rattle.std.proofs.lemmas.Bool.{and_from, and_parts, lt-ltb}
use Rattle.std.proofs.lemmas.List.{drop-drop, length-drop, length-map}
use Rattle.c_tree.specs.declared.expression.CExpr.{CExpr}
use Rattle.c_tree.specs.declared.statement.CCase.{CCase}
use Rattle.c_tree.specs.declared.statement.CNext.{CNext}
use Rattle.c_tree.specs.declared.statement.CStmt.{CStmt}
use Rattle.c_tree.specs.declared.statement.CStmt.TheVariants as stmt
use Rattle.c_tree.specs.Access.{ToFunction}
use Rattle.c_tree.specs.Terms.{Term, Variable}
use Rattle.c_tree.specs.Flat.{Flat, Assign, Branch, Select, Jump, Invoke, Return, Nothing, Ignored, Kept, Direct, Through, CaseAt}
use Rattle.c_structure.specs.Expressions.{expr_for, exprs_for}
use Rattle.c_structure.specs.Statements.{Outline, with_label, case_by, before_cases}
use Rattle.c_structure.specs.Statements as flat
use Rattle.named_items.specs.declared.item.Case.{Case}
use Rattle.named_items.specs.declared.item.Item.{Item}
use Rattle.named_items.specs.declared.item.Item.TheVariants as item
use Rattle.named_items.specs.declared.part.Part.{Part}
use Rattle.named_items.specs.declared.part.Head.{Head}
use Rattle.named_items.specs.Items.{by_name, through, case_of, item_for, items_for}
use Rattle.named_items.specs.Structured as named
use Rattle.named_items.specs.Structured.{part}
use Rattle.named_items.specs.Agreement.{places_of, TellsPlaces, ItemsAreStructured}
use Rattle.named_items.proofs.WrittenAlike.{left_true, right_true}
use Rattle.named_items.proofs.NamedItems.{some_same, mapped_by, assigned, called, set_call, items_first, items_later, no_items, no_flats, items_take, items_drop, items_length, items_at, tells_take, tells_later, tells_drop, set_from, test_from, switch_from, jump_from, ends_alike, back_alike, turn_alike, test_alike}
use Rattle.named_items.proofs.Growth.{Told, next_alike}

-- ## One item

goto_alike : (label : Option (List ℕ)) → option_map stmt.Goto label ≡ named.goto_label label
unfolding named.goto_label
goto_alike None = refl
goto_alike (Some name) = refl

statement_alike : (o : Outline) (f : Flat) (i : Item) (s : CStmt) → item_for o.names f ≡ Some i → named.statement_of (places_of o) i ≡ Some s → flat.statement_of o f ≡ Some s
unfolding item_for named.statement_of named.call_of named.set_call_of flat.statement_of flat.set_by flat.call_by flat.set_call_by
statement_alike o (Assign t u) i s is h =
    let m = assigned (expr_for o.names t) (expr_for o.names u) i is in
    (λ k. flat.set_by (m.place_is k) (m.value_is k)) ∙ ap (named.statement_of (places_of o)) m.is ∙ h
statement_alike o (Branch t on off) i s is h =
    let m = mapped_by (λ e. item.Branch e on off) (expr_for o.names t) i is in
    let clash : None ≡ Some s = ap (named.statement_of (places_of o)) m.is ∙ h in absurd (cc)
statement_alike o (Select t cases otherwise) i s is h =
    let m = mapped_by (λ e. item.Select e (map case_of cases) otherwise) (expr_for o.names t) i is in
    let clash : None ≡ Some s = ap (named.statement_of (places_of o)) m.is ∙ h in absurd (cc)
statement_alike o (Jump position) i s is h = goto_alike (o.label position) ∙ ap (named.statement_of (places_of o)) (some_same (item.Jump position) i is) ∙ h
statement_alike o (Invoke Ignored (Direct k) arguments) i s is h =
    let m = called (by_name (o.names.routine k)) (exprs_for o.names arguments) i is in
    ap (flat.call_by false (o.names.routine k)) m.one_is ∙ ap (named.statement_of (places_of o)) m.is ∙ h
statement_alike o (Invoke (Kept t) (Direct k) arguments) i s is h =
    let m = set_call (expr_for o.names t) (by_name (o.names.routine k)) (exprs_for o.names arguments) i is in
    (λ k'. flat.set_call_by false (o.names.routine k) (m.place_is k') (m.arguments_are k')) ∙ ap (named.statement_of (places_of o)) m.is ∙ h
statement_alike o (Invoke Ignored (Through (Variable k ToFunction)) arguments) i s is h =
    let m = called (through (o.names.object k)) (exprs_for o.names arguments) i is in
    ap (flat.call_by true (o.names.object k)) m.one_is ∙ ap (named.statement_of (places_of o)) m.is ∙ h
statement_alike o (Invoke (Kept t) (Through (Variable k ToFunction)) arguments) i s is h =
    let m = set_call (expr_for o.names t) (through (o.names.object k)) (exprs_for o.names arguments) i is in
    (λ k'. flat.set_call_by true (o.names.object k) (m.place_is k') (m.arguments_are k')) ∙ ap (named.statement_of (places_of o)) m.is ∙ h
statement_alike o (Return None) i s is h = ap (named.statement_of (places_of o)) (some_same (item.Return None) i is) ∙ h
statement_alike o (Return (Some t)) i s is h =
    let m = mapped_by (λ e. item.Return (Some e)) (expr_for o.names t) i is in
    ap (option_map (λ e. stmt.Return (Some e))) m.one_is ∙ ap (named.statement_of (places_of o)) m.is ∙ h
statement_alike o Nothing i s is h = ap (named.statement_of (places_of o)) (some_same item.Nothing i is) ∙ h
statement_alike o other i s is h = absurd (cc)

-- ## Parts

record IsAlone (x : Option CStmt) (p : Part) : Type 0 where
  statement : CStmt
  statement_is : x ≡ Some statement
  is : part statement 0 ≡ p

alone_of : (x : Option CStmt) (p : Part) → named.alone x ≡ Some p → IsAlone x p
unfolding named.alone
alone_of (Some s) p h = record { statement = s; statement_is = refl; is = some_same (part s 0) p h }
alone_of None p h = absurd (cc)

record IsIf (e : CExpr) (size : ℕ) (x : Option (List CStmt)) (p : Part) : Type 0 where
  first : List CStmt
  first_is : x ≡ Some first
  is : part (stmt.If e first None) size ≡ p

if_of : (e : CExpr) (size : ℕ) (x : Option (List CStmt)) (p : Part) → named.if_by e size x ≡ Some p → IsIf e size x p
unfolding named.if_by
if_of e size (Some first) p h = record { first = first; first_is = refl; is = some_same (part (stmt.If e first None) size) p h }
if_of e size None p h = absurd (cc)

record AreArms (e : CExpr) (size : ℕ) (x y : Option (List CStmt)) (p : Part) : Type 0 where
  first : List CStmt
  second : List CStmt
  first_is : x ≡ Some first
  second_is : y ≡ Some second
  is : part (stmt.If e first (Some second)) size ≡ p

arms_of : (e : CExpr) (size : ℕ) (x y : Option (List CStmt)) (p : Part) → named.if_else_by e size x y ≡ Some p → AreArms e size x y p
unfolding named.if_else_by
arms_of e size (Some first) (Some second) p h = record { first = first; second = second; first_is = refl; second_is = refl; is = some_same (part (stmt.If e first (Some second)) size) p h }
arms_of e size (Some first) None p h = absurd (cc)
arms_of e size None y p h = absurd (cc)

record IsSwitch (e : CExpr) (size : ℕ) (x : Option (List CCase)) (p : Part) : Type 0 where
  cases : List CCase
  cases_are : x ≡ Some cases
  is : part (stmt.Switch e cases) size ≡ p

switch_of : (e : CExpr) (size : ℕ) (x : Option (List CCase)) (p : Part) → named.switch_by e size x ≡ Some p → IsSwitch e size x p
unfolding named.switch_by
switch_of e size (Some cases) p h = record { cases = cases; cases_are = refl; is = some_same (part (stmt.Switch e cases) size) p h }
switch_of e size None p h = absurd (cc)

record IsFor (head : Head) (size : ℕ) (x : Option CNext) (y : Option (List CStmt)) (p : Part) : Type 0 where
  next : CNext
  turn : List CStmt
  next_is : x ≡ Some next
  turn_is : y ≡ Some turn
  is : part (stmt.For head.variable head.first head.test next turn) (size + 3) ≡ p

for_of : (head : Head) (size : ℕ) (x : Option CNext) (y : Option (List CStmt)) (p : Part) → named.for_by head size x y ≡ Some p → IsFor head size x y p
unfolding named.for_by
for_of head size (Some next) (Some turn) p h = record { next = next; turn = turn; next_is = refl; turn_is = refl; is = some_same (part (stmt.For head.variable head.first head.test next turn) (size + 3)) p h }
for_of head size (Some next) None p h = absurd (cc)
for_of head size None y p h = absurd (cc)

record IsDo (a b : CExpr) (size : ℕ) (x : Option (List CStmt)) (y : Option CExpr) (p : Part) : Type 0 where
  turn : List CStmt
  test : CExpr
  turn_is : x ≡ Some turn
  test_is : y ≡ Some test
  is : part (stmt.Block (stmt.Set a b ∷ stmt.DoWhile turn test ∷ [])) (size + 1) ≡ p

do_of : (a b : CExpr) (size : ℕ) (x : Option (List CStmt)) (y : Option CExpr) (p : Part) → named.do_by a b size x y ≡ Some p → IsDo a b size x y p
unfolding named.do_by
do_of a b size (Some turn) (Some test) p h = record {
  turn = turn;
  test = test;
  turn_is = refl;
  test_is = refl;
  is = some_same (part (stmt.Block (stmt.Set a b ∷ stmt.DoWhile turn test ∷ [])) (size + 1)) p h;
}
do_of a b size (Some turn) None p h = absurd (cc)
do_of a b size None y p h = absurd (cc)

record IsMarked (label : Option (List ℕ)) (x : Option Part) (p : Part) : Type 0 where
  bare : Part
  bare_is : x ≡ Some bare
  is : part (with_label label bare.statement) bare.taken ≡ p

marked_of : (label : Option (List ℕ)) (x : Option Part) (p : Part) → named.marked label x ≡ Some p → IsMarked label x p
unfolding named.marked
marked_of label (Some q) p h = record { bare = q; bare_is = refl; is = some_same (part (with_label label q.statement) q.taken) p h }
marked_of label None p h = absurd (cc)

record IsOnward (write : named.Writer) (n : ℕ) (later : List Item) (x : Option Part) (ss : List CStmt) : Type 0 where
  first : Part
  rest : List CStmt
  first_is : x ≡ Some first
  rest_is : write (n + 1 + first.taken) (drop first.taken later) ≡ Some rest
  is : first.statement ∷ rest ≡ ss

behind_of : (write : named.Writer) (n : ℕ) (later : List Item) (p : Part) (y : Option (List CStmt)) (ss : List CStmt) → write (n + 1 + p.taken) (drop p.taken later) ≡ y → named.behind p.statement y ≡ Some ss
    → IsOnward write n later (Some p) ss
unfolding named.behind
behind_of write n later p (Some rest) ss is h = record { first = p; rest = rest; first_is = refl; rest_is = is; is = some_same (p.statement ∷ rest) ss h }
behind_of write n later p None ss is h = absurd (cc)

onward_of : (write : named.Writer) (n : ℕ) (later : List Item) (x : Option Part) (ss : List CStmt) → named.onward write n later x ≡ Some ss → IsOnward write n later x ss
unfolding named.onward
onward_of write n later (Some p) ss h = behind_of write n later p (write (n + 1 + p.taken) (drop p.taken later)) ss refl h
onward_of write n later None ss h = absurd (cc)

-- ## What a part becomes

module _ (o : Outline) where
  -- statements behind by names are statements behind in the flat form
  abbrev Agree : flat.Writer → named.Writer → Type 0
  Agree W V = (n : ℕ) (fs : List Flat) (is : List Item) (ss : List CStmt) → items_for o.names fs ≡ Some is → TellsPlaces o.names fs → V n is ≡ Some ss → W n fs ≡ Some ss

  -- statements begin with a part's, with its label, where those behind it are known
  abbrev Goes : flat.Writer → ℕ → List Flat → Option (List CStmt) → Part → Type 0
  Goes W n fs whole p = (rest : List CStmt) → W (n + 1 + p.taken) (drop p.taken fs) ≡ Some rest → whole ≡ Some (with_label (o.label n) p.statement ∷ rest)

  goes_as : (W : flat.Writer) (n : ℕ) (fs : List Flat) (x y : Option (List CStmt)) (p : Part) → x ≡ y → Goes W n fs y p → Goes W n fs x p
  goes_as W n fs x y p same goes rest others = same ∙ goes rest others

  before_gives : (n : ℕ) (x : Option CStmt) (xs : Option (List CStmt)) (s : CStmt) (rest : List CStmt) → x ≡ Some s → xs ≡ Some rest → flat.before (option_map (with_label (o.label n)) x) xs ≡ Some (with_label (o.label n) s ∷ rest)
  unfolding flat.before
  before_gives n x xs s rest one others = (λ k. flat.before (option_map (with_label (o.label n)) (one k)) (others k))

  at : (W : flat.Writer) (m n : ℕ) (fs : List Flat) (x : Option (List CStmt)) → m ≡ n → W n fs ≡ x → W m fs ≡ x
  at W m n fs x same h = ap (λ k. W k fs) same ∙ h

  single_goes : (W : flat.Writer) (n : ℕ) (f : Flat) (fs : List Flat) (i : Item) (p : Part) → item_for o.names f ≡ Some i → named.alone (named.statement_of (places_of o) i) ≡ Some p
      → Goes W n fs (flat.before (option_map (with_label (o.label n)) (flat.statement_of o f)) (W (suc n) fs)) p
  single_goes W n f fs i p is h =
      let a = alone_of (named.statement_of (places_of o) i) p h in
      subst (Goes W n fs (flat.before (option_map (with_label (o.label n)) (flat.statement_of o f)) (W (suc n) fs))) a.is
      (λ rest others. before_gives n (flat.statement_of o f) (W (suc n) fs) a.statement rest (statement_alike o f i a.statement is a.statement_is) (at W (suc n) (n + 1 + 0) fs (Some rest) (omega arith) others))

  -- ## Tests

  if_goes : (W : flat.Writer) (V : named.Writer) → Agree W V → (n m : ℕ) (t : Term) (e : CExpr) (fs : List Flat) (is : List Item) (p : Part) → expr_for o.names t ≡ Some e → items_for o.names fs ≡ Some is → TellsPlaces o.names fs
      → named.one_arm V n e m is ≡ Some p → Goes W n fs (flat.if_for o W n (expr_for o.names t) m fs) p
  unfolding named.one_arm flat.if_for flat.if_by
  if_goes W V agree n m t e fs is p test items tells h =
      let a = if_of e m (V (n + 1) (take m is)) p h in
      let first : W (suc n) (take m fs) ≡ Some a.first =
      at W (suc n) (n + 1) (take m fs) (Some a.first) (omega arith) (agree (n + 1) (take m fs) (take m is) a.first (items_take o.names m fs is items) (tells_take o.names m fs tells) a.first_is) in
      subst (Goes W n fs (flat.if_for o W n (expr_for o.names t) m fs)) a.is
      (λ rest others. before_gives n (flat.if_by (expr_for o.names t) (W (suc n) (take m fs))) (W (suc n + m) (drop m fs)) (stmt.If e a.first None) rest (λ k. flat.if_by (test k) (first k))
      (at W (suc n + m) (n + 1 + m) (drop m fs) (Some rest) (omega arith) others))

  two_go : (W : flat.Writer) (V : named.Writer) → Agree W V → (n m k : ℕ) (t : Term) (e : CExpr) (fs : List Flat) (is : List Item) (p : Part) → expr_for o.names t ≡ Some e → items_for o.names fs ≡ Some is → TellsPlaces o.names fs
      → named.two_arms V n e m k is ≡ Some p → Goes W n fs (flat.if_else_for o W n (expr_for o.names t) m k fs) p
  unfolding named.two_arms flat.if_else_for flat.if_else_by
  two_go W V agree n m k t e fs is p test items tells h =
      let a = arms_of e (m + 1 + k) (V (n + 1) (take m is)) (V (n + m + 2) (take k (drop (m + 1) is))) p h in
      let more : suc m ≡ m + 1 = omega arith in
      let first : W (suc n) (take m fs) ≡ Some a.first =
      at W (suc n) (n + 1) (take m fs) (Some a.first) (omega arith) (agree (n + 1) (take m fs) (take m is) a.first (items_take o.names m fs is items) (tells_take o.names m fs tells) a.first_is) in
      let inner : W (suc n + suc m) (take k (drop (m + 1) fs)) ≡ Some a.second =
      at W (suc n + suc m) (n + m + 2) (take k (drop (m + 1) fs)) (Some a.second) (omega arith)
      (agree (n + m + 2) (take k (drop (m + 1) fs)) (take k (drop (m + 1) is)) a.second (items_take o.names k (drop (m + 1) fs) (drop (m + 1) is) (items_drop o.names (m + 1) fs is items))
      (tells_take o.names k (drop (m + 1) fs) (tells_drop o.names (m + 1) fs tells)) a.second_is) in
      let second : W (suc n + suc m) (take k (drop (suc m) fs)) ≡ Some a.second = ap (λ j. W (suc n + suc m) (take k (drop j fs))) more ∙ inner in
      let there : suc m + k ≡ m + 1 + k = omega arith in
      let left : drop k (drop (suc m) fs) ≡ drop (m + 1 + k) fs = drop-drop k (suc m) fs ∙ ap (λ j. drop j fs) there in
      subst (Goes W n fs (flat.if_else_for o W n (expr_for o.names t) m k fs)) a.is
      (λ rest others. before_gives n (flat.if_else_by (expr_for o.names t) (W (suc n) (take m fs)) (W (suc n + suc m) (take k (drop (suc m) fs)))) (W (suc n + suc m + k) (drop k (drop (suc m) fs)))
      (stmt.If e a.first (Some a.second)) rest (λ j. flat.if_else_by (test j) (first j) (second j))
      (ap (W (suc n + suc m + k)) left ∙ at W (suc n + suc m + k) (n + 1 + (m + 1 + k)) (drop (m + 1 + k) fs) (Some rest) (omega arith) others))

  rooms_left : (m : ℕ) (fs : List Flat) (is : List Item) → items_for o.names fs ≡ Some is → length is - (m + 1) ≡ length (drop (suc m) fs)
  rooms_left m fs is items =
      let long = items_length o.names fs is items in
      let left = length-drop (suc m) fs in
      omega (arith, long, left)

  arms_go : (W : flat.Writer) (V : named.Writer) → Agree W V → (n m : ℕ) (t : Term) (e : CExpr) (fs : List Flat) (is : List Item) (p : Part) → expr_for o.names t ≡ Some e → items_for o.names fs ≡ Some is → TellsPlaces o.names fs
      → (found : Option ℕ) → ((end : ℕ) → found ≡ Some end → flat.end_of_arm (slice_get fs m) ≡ Some end)
      → named.arms_for V n e m found is ≡ Some p → Goes W n fs (flat.arms_for o W n (expr_for o.names t) m (flat.end_of_arm (slice_get fs m)) fs) p
  unfolding named.arms_for flat.arms_for
  arms_go W V agree n m t e fs is p test items tells None ends h = absurd (cc)
  arms_go W V agree n m t e fs is p test items tells (Some end) ends h = by (nat_le (n + m + 2) end && nat_le (end - (n + m + 2)) (length is - (m + 1))) refl h
    where
      by : (b : Bool) → nat_le (n + m + 2) end && nat_le (end - (n + m + 2)) (length is - (m + 1)) ≡ b → (if b then named.two_arms V n e m (end - (n + m + 2)) is else None) ≡ Some p
          → Goes W n fs (flat.arms_for o W n (expr_for o.names t) m (flat.end_of_arm (slice_get fs m)) fs) p
      by true so g =
          let there : n + m + 2 ≡ suc n + suc m = omega arith in
          let room : length is - (m + 1) ≡ length (drop (suc m) fs) = rooms_left m fs is items in
          let tests : nat_le (suc n + suc m) end && nat_le (end - (suc n + suc m)) (length (drop (suc m) fs)) ≡ true =
          sym (λ k. nat_le (there k) end && nat_le (end - there k) (room k)) ∙ so in
          goes_as W n fs (flat.arms_for o W n (expr_for o.names t) m (flat.end_of_arm (slice_get fs m)) fs) (flat.if_else_for o W n (expr_for o.names t) m (end - (n + m + 2)) fs) p
          (ap (λ x. flat.arms_for o W n (expr_for o.names t) m x fs) (ends end refl)
          ∙ ap (λ c. if c then flat.if_else_for o W n (expr_for o.names t) m (end - (suc n + suc m)) fs else None) tests
          ∙ ap (λ k. flat.if_else_for o W n (expr_for o.names t) m (end - k) fs) (sym there))
          (two_go W V agree n m (end - (n + m + 2)) t e fs is p test items tells g)
      by false so g = absurd (cc)

  branch_goes : (W : flat.Writer) (V : named.Writer) → Agree W V → (n size : ℕ) (t : Term) (e : CExpr) (fs : List Flat) (is : List Item) (p : Part) → expr_for o.names t ≡ Some e → items_for o.names fs ≡ Some is → TellsPlaces o.names fs
      → named.branch_for (places_of o) V n e size is ≡ Some p → Goes W n fs (flat.branch_for o W n (expr_for o.names t) size fs) p
  unfolding named.branch_for flat.branch_for
  branch_goes W V agree n zero t e fs is p test items tells h = if_goes W V agree n 0 t e fs is p test items tells h
  branch_goes W V agree n (suc m) t e fs is p test items tells h = by (o.ends_arm (suc n + m)) refl
    where
      there : n + suc m ≡ suc n + m
      there = omega arith

      less : suc m - 1 ≡ m
      less = omega arith

      found : (b : Bool) → o.ends_arm (suc n + m) ≡ b
          → (if b then named.arms_for V n e m (named.end_of_arm (slice_get is m)) is else named.one_arm V n e (suc m) is) ≡ Some p
      found b ends =
          sym ((λ k. if nat_lt 0 (suc m) && o.ends_arm (there k) then named.arms_for V n e (less k) (named.end_of_arm (slice_get is (less k))) is else named.one_arm V n e (suc m) is)
          ∙ (λ k. if (lt-ltb 0 (suc m) (omega arith)) k && (ends k) then named.arms_for V n e m (named.end_of_arm (slice_get is m)) is else named.one_arm V n e (suc m) is)) ∙ h

      by : (b : Bool) → o.ends_arm (suc n + m) ≡ b → Goes W n fs (flat.branch_for o W n (expr_for o.names t) (suc m) fs) p
      by true ends =
          goes_as W n fs (flat.branch_for o W n (expr_for o.names t) (suc m) fs) (flat.arms_for o W n (expr_for o.names t) m (flat.end_of_arm (slice_get fs m)) fs) p
          (ap (λ c. if c then flat.arms_for o W n (expr_for o.names t) m (flat.end_of_arm (slice_get fs m)) fs else flat.if_for o W n (expr_for o.names t) (suc m) fs) ends)
          (arms_go W V agree n m t e fs is p test items tells (named.end_of_arm (slice_get is m))
          (λ end at'. ends_alike o.names (slice_get fs m) (slice_get is m) end (items_at o.names m fs is items) at') (found true ends))
      by false ends =
          goes_as W n fs (flat.branch_for o W n (expr_for o.names t) (suc m) fs) (flat.if_for o W n (expr_for o.names t) (suc m) fs) p
          (ap (λ c. if c then flat.arms_for o W n (expr_for o.names t) m (flat.end_of_arm (slice_get fs m)) fs else flat.if_for o W n (expr_for o.names t) (suc m) fs) ends)
          (if_goes W V agree n (suc m) t e fs is p test items tells (found false ends))

  test_goes : (W : flat.Writer) (V : named.Writer) → Agree W V → (n on off : ℕ) (t : Term) (e : CExpr) (fs : List Flat) (is : List Item) (p : Part) → expr_for o.names t ≡ Some e → items_for o.names fs ≡ Some is → TellsPlaces o.names fs
      → named.test_for (places_of o) V n e on off is ≡ Some p → Goes W n fs (flat.item_for o W n (Branch t on off) fs) p
  unfolding named.test_for flat.item_for
  test_goes W V agree n on off t e fs is p test items tells h = by (nat_eq on (n + 1) && (nat_le (n + 1) off && nat_le (off - (n + 1)) (length is))) refl h
    where
      by : (b : Bool) → nat_eq on (n + 1) && (nat_le (n + 1) off && nat_le (off - (n + 1)) (length is)) ≡ b → (if b then named.branch_for (places_of o) V n e (off - (n + 1)) is else None) ≡ Some p
          → Goes W n fs (flat.item_for o W n (Branch t on off) fs) p
      by true so g =
          let there : n + 1 ≡ suc n = omega arith in
          let room : length is ≡ length fs = sym (items_length o.names fs is items) in
          let tests : nat_eq on (suc n) && (nat_le (suc n) off && nat_le (off - suc n) (length fs)) ≡ true = sym (λ k. nat_eq on (there k) && (nat_le (there k) off && nat_le (off - there k) (room k))) ∙ so in
          goes_as W n fs (flat.item_for o W n (Branch t on off) fs) (flat.branch_for o W n (expr_for o.names t) (off - (n + 1)) fs) p
          (ap (λ c. if c then flat.branch_for o W n (expr_for o.names t) (off - suc n) fs else None) tests ∙ ap (λ k. flat.branch_for o W n (expr_for o.names t) (off - k) fs) (sym there))
          (branch_goes W V agree n (off - (n + 1)) t e fs is p test items tells g)
      by false so g = absurd (cc)

  -- ## Cases

  case_alike : (n m : ℕ) (at : CaseAt) (f : Flat) (i : Item) (case : CCase) → n ≡ m → item_for o.names f ≡ Some i → named.case_for (places_of o) n (case_of at) i ≡ Some case → flat.case_for o m at f ≡ Some case
  unfolding named.case_for flat.case_for
  case_alike n m at f (item.Jump position) case same is h =
      ap (flat.case_for o m at) (jump_from o.names f position is) ∙ ap (λ k. if nat_eq at.position k && is_none (o.label k) then case_by at.number (o.label position) else None) (sym same) ∙ h
  case_alike n m at f i case same is h = absurd (cc)

  record AreCasesBefore (x : Option CCase) (xs : Option (List CCase)) (cases : List CCase) : Type 0 where
    first : CCase
    later : List CCase
    first_is : x ≡ Some first
    later_are : xs ≡ Some later
    is : first ∷ later ≡ cases

  cases_before : (x : Option CCase) (xs : Option (List CCase)) (cases : List CCase) → before_cases x xs ≡ Some cases → AreCasesBefore x xs cases
  unfolding before_cases
  cases_before (Some case) (Some later) cases h = record { first = case; later = later; first_is = refl; later_are = refl; is = some_same (case ∷ later) cases h }
  cases_before (Some case) None cases h = absurd (cc)
  cases_before None xs cases h = absurd (cc)

  cases_alike : (n m : ℕ) (ats : List CaseAt) (fs : List Flat) (is : List Item) (cases : List CCase) → n ≡ m → items_for o.names fs ≡ Some is → named.cases_for (places_of o) n (map case_of ats) is ≡ Some cases
      → flat.cases_for o m ats fs ≡ Some cases
  unfolding named.cases_for flat.cases_for before_cases
  cases_alike n m [] fs is cases same items h = h
  cases_alike n m (at ∷ ats) [] [] cases same items h = absurd (cc)
  cases_alike n m (at ∷ ats) [] (i ∷ is) cases same items h = absurd (no_flats o.names i is items)
  cases_alike n m (at ∷ ats) (f ∷ fs) [] cases same items h = absurd (no_items o.names f fs items)
  cases_alike n m (at ∷ ats) (f ∷ fs) (i ∷ is) cases same items h =
      let b = cases_before (named.case_for (places_of o) n (case_of at) i) (named.cases_for (places_of o) (n + 1) (map case_of ats) is) cases h in
      let next : n + 1 ≡ suc m = omega (arith, same) in
      let one = case_alike n m at f i b.first same (items_first o.names f fs i is items) b.first_is in
      let more = cases_alike (n + 1) (suc m) ats fs is b.later next (items_later o.names f fs i is items) b.later_are in
      (λ k. before_cases (one k) (more k)) ∙ ap Some b.is

  same_numbers : (ats : List CaseAt) → map (λ (case : Case). case.number) (map case_of ats) ≡ map (λ (at : CaseAt). at.number) ats
  same_numbers [] = refl
  same_numbers (at ∷ ats) = ap (λ numbers. at.number ∷ numbers) (same_numbers ats)

  switch_goes : (W : flat.Writer) (n otherwise : ℕ) (t : Term) (ats : List CaseAt) (e : CExpr) (fs : List Flat) (is : List Item) (p : Part) → expr_for o.names t ≡ Some e → items_for o.names fs ≡ Some is
      → named.switch_for (places_of o) n e (map case_of ats) otherwise is ≡ Some p → Goes W n fs (flat.item_for o W n (Select t ats otherwise) fs) p
  unfolding named.switch_for flat.item_for flat.switch_for flat.switch_by
  switch_goes W n otherwise t ats e fs is p value items h =
      by (nat_eq otherwise (n + 1 + length (map case_of ats)) && flat.are_case_numbers (map (λ (case : Case). case.number) (map case_of ats))) refl h
    where
      by : (b : Bool) → nat_eq otherwise (n + 1 + length (map case_of ats)) && flat.are_case_numbers (map (λ (case : Case). case.number) (map case_of ats)) ≡ b
          → (if b then named.switch_by e (length (map case_of ats)) (named.cases_for (places_of o) (n + 1) (map case_of ats) is) else None) ≡ Some p
          → Goes W n fs (flat.item_for o W n (Select t ats otherwise) fs) p
      by true so g =
          let long : length (map case_of ats) ≡ length ats = length-map ats case_of in
          let there : n + 1 + length (map case_of ats) ≡ suc n + length ats = omega (arith, long) in
          let both = and_parts _ _ so in
          let tests : nat_eq otherwise (suc n + length ats) && flat.are_case_numbers (map (λ (at : CaseAt). at.number) ats) ≡ true =
          and_from _ _ (ap (nat_eq otherwise) (sym there) ∙ both.0) (ap flat.are_case_numbers (sym (same_numbers ats)) ∙ both.1) in
          let s = switch_of e (length (map case_of ats)) (named.cases_for (places_of o) (n + 1) (map case_of ats) is) p g in
          let cases = cases_alike (n + 1) (suc n) ats fs is s.cases (omega arith) items s.cases_are in
          goes_as W n fs (flat.item_for o W n (Select t ats otherwise) fs) (flat.switch_for o W n (expr_for o.names t) ats fs) p
          (ap (λ c. if c then flat.switch_for o W n (expr_for o.names t) ats fs else None) tests)
          (subst (Goes W n fs (flat.switch_for o W n (expr_for o.names t) ats fs)) s.is
          (λ rest others. before_gives n (flat.switch_by (expr_for o.names t) (flat.cases_for o (suc n) ats fs)) (W (suc n + length ats) (drop (length ats) fs)) (stmt.Switch e s.cases) rest
          (λ k. flat.switch_by (value k) (cases k))
          (at W (suc n + length ats) (n + 1 + length ats) (drop (length ats) fs) (Some rest) (omega arith) (ap (λ k. W (n + 1 + k) (drop k fs)) (sym long) ∙ others))))
      by false so g = absurd (cc)

  -- ## Any item

  flat_single : (W : flat.Writer) (n : ℕ) (f : Flat) (fs : List Flat) (i : Item) → item_for o.names f ≡ Some i → ((e : CExpr) (on off : ℕ) → i ≡ item.Branch e on off → ⊥)
      → ((e : CExpr) (cases : List Case) (otherwise : ℕ) → i ≡ item.Select e cases otherwise → ⊥)
      → flat.item_for o W n f fs ≡ flat.before (option_map (with_label (o.label n)) (flat.statement_of o f)) (W (suc n) fs)
  unfolding item_for flat.item_for
  flat_single W n (Branch t on off) fs i is other picks = let m = mapped_by (λ e. item.Branch e on off) (expr_for o.names t) i is in absurd (other m.one on off (sym m.is))
  flat_single W n (Select t cases otherwise) fs i is other picks =
      let m = mapped_by (λ e. item.Select e (map case_of cases) otherwise) (expr_for o.names t) i is in absurd (picks m.one (map case_of cases) otherwise (sym m.is))
  flat_single W n f fs i is other picks = refl

  one_goes : (W : flat.Writer) (n : ℕ) (f : Flat) (fs : List Flat) (i : Item) (p : Part) → item_for o.names f ≡ Some i → ((e : CExpr) (on off : ℕ) → i ≡ item.Branch e on off → ⊥)
      → ((e : CExpr) (cases : List Case) (otherwise : ℕ) → i ≡ item.Select e cases otherwise → ⊥)
      → named.alone (named.statement_of (places_of o) i) ≡ Some p → Goes W n fs (flat.item_for o W n f fs) p
  one_goes W n f fs i p is other picks h =
      goes_as W n fs (flat.item_for o W n f fs) (flat.before (option_map (with_label (o.label n)) (flat.statement_of o f)) (W (suc n) fs)) p (flat_single W n f fs i is other picks) (single_goes W n f fs i p is h)

  plain_goes : (W : flat.Writer) (V : named.Writer) → Agree W V → (n : ℕ) (f : Flat) (fs : List Flat) (i : Item) (is : List Item) (p : Part) → item_for o.names f ≡ Some i → items_for o.names fs ≡ Some is → TellsPlaces o.names fs
      → named.plain_for (places_of o) V n i is ≡ Some p → Goes W n fs (flat.item_for o W n f fs) p
  unfolding named.plain_for
  plain_goes W V agree n f fs (item.Branch e on off) is p named items tells h =
      let t = test_from o.names f e on off named in
      goes_as W n fs (flat.item_for o W n f fs) (flat.item_for o W n (Branch t.test on off) fs) p (ap (λ g. flat.item_for o W n g fs) t.is) (test_goes W V agree n on off t.test e fs is p t.test_is items tells h)
  plain_goes W V agree n f fs (item.Select e cases otherwise) is p known items tells h =
      let t = switch_from o.names f e cases otherwise known in
      goes_as W n fs (flat.item_for o W n f fs) (flat.item_for o W n (Select t.value t.ats otherwise) fs) p (ap (λ g. flat.item_for o W n g fs) t.is)
      (switch_goes W n otherwise t.value t.ats e fs is p t.value_is items (subst (λ cs. named.switch_for (places_of o) n e cs otherwise is ≡ Some p) (sym t.cases_are) h))
  plain_goes W V agree n f fs (item.Assign a b) is p named items tells h = one_goes W n f fs (item.Assign a b) p named (λ e on off g. cc) (λ e cases otherwise g. cc) h
  plain_goes W V agree n f fs (item.Jump position) is p named items tells h = one_goes W n f fs (item.Jump position) p named (λ e on off g. cc) (λ e cases otherwise g. cc) h
  plain_goes W V agree n f fs (item.Call callee arguments) is p named items tells h = one_goes W n f fs (item.Call callee arguments) p named (λ e on off g. cc) (λ e cases otherwise g. cc) h
  plain_goes W V agree n f fs (item.SetCall target callee arguments) is p named items tells h = one_goes W n f fs (item.SetCall target callee arguments) p named (λ e on off g. cc) (λ e cases otherwise g. cc) h
  plain_goes W V agree n f fs (item.Return value) is p named items tells h = one_goes W n f fs (item.Return value) p named (λ e on off g. cc) (λ e cases otherwise g. cc) h
  plain_goes W V agree n f fs item.Nothing is p named items tells h = one_goes W n f fs item.Nothing p named (λ e on off g. cc) (λ e cases otherwise g. cc) h

  -- ## Loops

  loop_alike : (n size on off : ℕ) (fs : List Flat) (is : List Item) → items_for o.names fs ≡ Some is → named.is_loop (places_of o) n size on off is ≡ true → flat.is_loop o n size on off fs ≡ true
  unfolding named.is_loop named.is_unmarked flat.is_loop
  loop_alike n size on off fs is items h =
      let room : nat_le (size + 2) (length is) ≡ true = left_true _ _ h in
      let long : length fs ≡ length is = items_length o.names fs is items in
      let enough : suc (suc size) ≡ size + 2 = omega arith in
      let one : size + 1 ≡ suc size = omega arith in
      let on_at : n + 2 ≡ suc (suc n) = omega arith in
      let off_at : n + size + 4 ≡ suc (suc n) + suc (suc size) = omega arith in
      let back_at : n + 1 ≡ suc n = omega arith in
      let grow_at : n + size + 2 ≡ suc (suc n) + size = omega arith in
      let last_at : n + size + 3 ≡ suc (suc (suc n) + size) = omega arith in
      let r1 = right_true _ _ h in
      let r2 = right_true _ _ r1 in
      let r3 = right_true _ _ r2 in
      let r4 = right_true _ _ r3 in
      let r5 = right_true _ _ r4 in
      and_from _ _ (ap (nat_eq on) (sym on_at) ∙ left_true _ _ r1)
      (and_from _ _ (ap (nat_eq off) (sym off_at) ∙ left_true _ _ r2)
      (and_from _ _ ((λ k. nat_le (enough k) (long k)) ∙ room)
      (and_from _ _ (back_alike o.names (n + 1) (suc n) (slice_get fs (suc size)) (slice_get is (suc size)) back_at (items_at o.names (suc size) fs is items) (ap (λ k. named.goes_back (n + 1) (slice_get is k)) (sym one) ∙ left_true _ _ r3))
      (and_from _ _ (ap (λ k. is_none (o.label k)) (sym back_at) ∙ left_true _ _ r4)
      (and_from _ _ (ap (λ k. is_none (o.label k)) (sym grow_at) ∙ left_true _ _ r5) (ap (λ k. is_none (o.label k)) (sym last_at) ∙ right_true _ _ r5))))))

  told_at : (v u t : Term) (on off size : ℕ) (fs : List Flat) → TellsPlaces o.names (Assign v u ∷ Branch t on off ∷ fs) → Told o.names v (slice_get fs size)
  told_at v u t on off size fs tells = λ target operand amount is one other. tells.tells 0 (suc (suc size)) v u target operand amount refl is one other

  for_goes : (W : flat.Writer) (V : named.Writer) → Agree W V → (n size on off : ℕ) (v u t : Term) (head : Head) (fs : List Flat) (is : List Item) (p : Part) → expr_for o.names v ≡ Some head.variable → expr_for o.names u ≡ Some head.first
      → expr_for o.names t ≡ Some head.test → items_for o.names fs ≡ Some is → TellsPlaces o.names (Assign v u ∷ Branch t on off ∷ fs) → flat.is_loop o n size on off fs ≡ true → named.turns_for V n size head is ≡ Some p
      → Goes W n (Branch t on off ∷ fs) (flat.head_for o W n size v u (Branch t on off ∷ fs)) p
  unfolding named.turns_for flat.head_for flat.for_by
  for_goes W V agree n size on off v u t head fs is p place first test items tells loops h =
      let tells' = tells_later o.names (Branch t on off) fs (tells_later o.names (Assign v u) (Branch t on off ∷ fs) tells) in
      let a = for_of head size (named.next_for head.variable (slice_get is size)) (V (n + 2) (take size is)) p h in
      let turn : W (suc (suc n)) (take size fs) ≡ Some a.turn =
      at W (suc (suc n)) (n + 2) (take size fs) (Some a.turn) (omega arith) (agree (n + 2) (take size fs) (take size is) a.turn (items_take o.names size fs is items) (tells_take o.names size fs tells') a.turn_is) in
      let next = next_alike o.names v head.variable (slice_get fs size) (slice_get is size) a.next (told_at v u t on off size fs tells) place (items_at o.names size fs is items) a.next_is in
      let more : size + 3 ≡ suc (suc (suc size)) = omega arith in
      subst (Goes W n (Branch t on off ∷ fs) (flat.head_for o W n size v u (Branch t on off ∷ fs))) a.is
      (λ rest others.
      ap (λ c. if c then flat.before (option_map (with_label (o.label n)) (flat.for_by (expr_for o.names v) (expr_for o.names u) (expr_for o.names t) (flat.next_for o.names v (slice_get fs size)) (W (suc (suc n)) (take size fs))))
      (W (suc (suc n) + suc (suc size)) (drop (suc (suc size)) fs)) else None) loops
      ∙ before_gives n (flat.for_by (expr_for o.names v) (expr_for o.names u) (expr_for o.names t) (flat.next_for o.names v (slice_get fs size)) (W (suc (suc n)) (take size fs)))
      (W (suc (suc n) + suc (suc size)) (drop (suc (suc size)) fs)) (stmt.For head.variable head.first head.test a.next a.turn) rest
      (λ k. flat.for_by (place k) (first k) (test k) (next k) (turn k))
      (at W (suc (suc n) + suc (suc size)) (n + 1 + (size + 3)) (drop (suc (suc size)) fs) (Some rest) (omega arith) (ap (λ k. W (n + 1 + (size + 3)) (drop k (Branch t on off ∷ fs))) (sym more) ∙ others)))

  head_goes : (W : flat.Writer) (V : named.Writer) → Agree W V → (n size : ℕ) (v u : Term) (a b : CExpr) (fs : List Flat) (is : List Item) (p : Part) → expr_for o.names v ≡ Some a → expr_for o.names u ≡ Some b
      → items_for o.names fs ≡ Some is → TellsPlaces o.names (Assign v u ∷ fs) → named.head_for (places_of o) V n size a b is ≡ Some p → Goes W n fs (flat.head_for o W n size v u fs) p
  unfolding named.head_for
  head_goes W V agree n size v u a b [] (item.Branch e on off ∷ is) p place first items tells h = absurd (no_flats o.names (item.Branch e on off) is items)
  head_goes W V agree n size v u a b (f ∷ fs) (item.Branch e on off ∷ is) p place first items tells h =
      let t = test_from o.names f e on off (items_first o.names f fs (item.Branch e on off) is items) in
      let items' = items_later o.names f fs (item.Branch e on off) is items in
      subst (λ g. Goes W n (g ∷ fs) (flat.head_for o W n size v u (g ∷ fs)) p) (sym t.is)
      (by t.test t.test_is (subst (λ g. TellsPlaces o.names (Assign v u ∷ g ∷ fs)) t.is tells) items' (named.is_loop (places_of o) n size on off is) refl h)
    where
      by : (t : Term) → expr_for o.names t ≡ Some e → TellsPlaces o.names (Assign v u ∷ Branch t on off ∷ fs) → items_for o.names fs ≡ Some is → (c : Bool) → named.is_loop (places_of o) n size on off is ≡ c
          → (if c then named.turns_for V n size (record { variable = a; first = b; test = e }) is else None) ≡ Some p
          → Goes W n (Branch t on off ∷ fs) (flat.head_for o W n size v u (Branch t on off ∷ fs)) p
      by t test tells' items' true so g =
          for_goes W V agree n size on off v u t (record { variable = a; first = b; test = e }) fs is p place first test items' tells' (loop_alike n size on off fs is items' so) g
      by t test tells' items' false so g = absurd (cc)
  head_goes W V agree n size v u a b fs is p place first items tells h = absurd (cc)

  -- ## Loops that are tested behind the turn

  do_goes : (W : flat.Writer) (V : named.Writer) → Agree W V → (n size : ℕ) (v u : Term) (a b : CExpr) (fs : List Flat) (is : List Item) (p : Part) → expr_for o.names v ≡ Some a → expr_for o.names u ≡ Some b
      → items_for o.names fs ≡ Some is → TellsPlaces o.names fs → named.do_for V n size a b is ≡ Some p → Goes W n fs (flat.do_for o W n size v u fs) p
  unfolding named.do_for flat.do_for flat.do_by
  do_goes W V agree n size v u a b fs is p place first items tells h =
      let d = do_of a b size (V (n + 1) (take size is)) (named.test_in (slice_get is size)) p h in
      let turn : W (suc n) (take size fs) ≡ Some d.turn =
      at W (suc n) (n + 1) (take size fs) (Some d.turn) (omega arith) (agree (n + 1) (take size fs) (take size is) d.turn (items_take o.names size fs is items) (tells_take o.names size fs tells) d.turn_is) in
      let test = test_alike o.names (slice_get fs size) (slice_get is size) d.test (items_at o.names size fs is items) d.test_is in
      let more : suc size ≡ size + 1 = omega arith in
      subst (Goes W n fs (flat.do_for o W n size v u fs)) d.is
      (λ rest others. before_gives n (flat.do_by (expr_for o.names v) (expr_for o.names u) (W (suc n) (take size fs)) (flat.test_in o.names (slice_get fs size))) (W (suc (suc n + size)) (drop (suc size) fs))
      (stmt.Block (stmt.Set a b ∷ stmt.DoWhile d.turn d.test ∷ [])) rest
      (λ k. flat.do_by (place k) (first k) (turn k) (test k))
      (at W (suc (suc n + size)) (n + 1 + (size + 1)) (drop (suc size) fs) (Some rest) (omega arith) (ap (λ k. W (n + 1 + (size + 1)) (drop k fs)) more ∙ others)))

  set_goes : (W : flat.Writer) (V : named.Writer) → Agree W V → (n size : ℕ) (v u : Term) (a b : CExpr) (fs : List Flat) (is : List Item) (p : Part) → expr_for o.names v ≡ Some a → expr_for o.names u ≡ Some b
      → items_for o.names fs ≡ Some is → TellsPlaces o.names (Assign v u ∷ fs) → named.loop_for (places_of o) V n size (item.Assign a b) is ≡ Some p → Goes W n fs (flat.loop_for o W n size (Assign v u) fs) p
  unfolding named.loop_for flat.loop_for
  set_goes W V agree n size v u a b fs is p place first items tells h = by (named.tests_turn (places_of o) n size (slice_get is size)) refl h
    where
      alike : flat.tests_turn o n size (slice_get fs size) ≡ named.tests_turn (places_of o) n size (slice_get is size)
      alike = turn_alike o n size (slice_get fs size) (slice_get is size) (items_at o.names size fs is items)

      by : (c : Bool) → named.tests_turn (places_of o) n size (slice_get is size) ≡ c
          → (if c then named.do_for V n size a b is else named.head_for (places_of o) V n size a b is) ≡ Some p
          → Goes W n fs (if flat.tests_turn o n size (slice_get fs size) then flat.do_for o W n size v u fs else flat.head_for o W n size v u fs) p
      by true so g =
          goes_as W n fs (if flat.tests_turn o n size (slice_get fs size) then flat.do_for o W n size v u fs else flat.head_for o W n size v u fs) (flat.do_for o W n size v u fs) p
          (ap (λ c. if c then flat.do_for o W n size v u fs else flat.head_for o W n size v u fs) (alike ∙ so))
          (do_goes W V agree n size v u a b fs is p place first items (tells_later o.names (Assign v u) fs tells) g)
      by false so g =
          goes_as W n fs (if flat.tests_turn o n size (slice_get fs size) then flat.do_for o W n size v u fs else flat.head_for o W n size v u fs) (flat.head_for o W n size v u fs) p
          (ap (λ c. if c then flat.do_for o W n size v u fs else flat.head_for o W n size v u fs) (alike ∙ so))
          (head_goes W V agree n size v u a b fs is p place first items tells g)

  loop_goes : (W : flat.Writer) (V : named.Writer) → Agree W V → (n size : ℕ) (f : Flat) (fs : List Flat) (i : Item) (is : List Item) (p : Part) → item_for o.names f ≡ Some i → items_for o.names fs ≡ Some is → TellsPlaces o.names (f ∷ fs)
      → named.loop_for (places_of o) V n size i is ≡ Some p → Goes W n fs (flat.loop_for o W n size f fs) p
  unfolding named.loop_for
  loop_goes W V agree n size f fs (item.Assign a b) is p named items tells h =
      let s = set_from o.names f a b named in
      goes_as W n fs (flat.loop_for o W n size f fs) (flat.loop_for o W n size (Assign s.place s.value) fs) p (ap (λ g. flat.loop_for o W n size g fs) s.is)
      (set_goes W V agree n size s.place s.value a b fs is p s.place_is s.value_is items (subst (λ g. TellsPlaces o.names (g ∷ fs)) s.is tells) h)
  loop_goes W V agree n size f fs i is p named items tells h = absurd (cc)

  -- ## Statements

  part_goes : (W : flat.Writer) (V : named.Writer) → Agree W V → (found : Option ℕ) (n : ℕ) (f : Flat) (fs : List Flat) (i : Item) (is : List Item) (p : Part) → item_for o.names f ≡ Some i → items_for o.names fs ≡ Some is
      → TellsPlaces o.names (f ∷ fs) → named.part_for (places_of o) V found n i is ≡ Some p → Goes W n fs (flat.part_for o W found n f fs) p
  unfolding named.part_for flat.part_for
  part_goes W V agree None n f fs i is p named items tells h = plain_goes W V agree n f fs i is p named items (tells_later o.names f fs tells) h
  part_goes W V agree (Some size) n f fs i is p named items tells h = loop_goes W V agree n size f fs i is p named items tells h

  step_goes : (W : flat.Writer) (V : named.Writer) → Agree W V → (n : ℕ) (f : Flat) (fs : List Flat) (i : Item) (is : List Item) (ss : List CStmt) → item_for o.names f ≡ Some i → items_for o.names fs ≡ Some is
      → TellsPlaces o.names (f ∷ fs) → named.onward V n is (named.part_at (places_of o) V n i is) ≡ Some ss → flat.part_for o W (o.loop n) n f fs ≡ Some ss
  unfolding named.part_at
  step_goes W V agree n f fs i is ss known items tells h =
      let w = onward_of V n is (named.part_at (places_of o) V n i is) ss h in
      let m = marked_of (o.label n) (named.part_for (places_of o) V (o.loop n) n i is) w.first w.first_is in
      let same : m.bare.taken ≡ w.first.taken = ap (λ q. q.taken) m.is in
      let tells' = tells_later o.names f fs tells in
      let later = agree (n + 1 + w.first.taken) (drop w.first.taken fs) (drop w.first.taken is) w.rest (items_drop o.names w.first.taken fs is items) (tells_drop o.names w.first.taken fs tells') w.rest_is in
      part_goes W V agree (o.loop n) n f fs i is m.bare known items tells m.bare_is w.rest (ap (λ k. W (n + 1 + k) (drop k fs)) same ∙ later)
      ∙ ap (λ q. Some (q.statement ∷ w.rest)) m.is
      ∙ ap Some w.is

  all_agree : (turns n : ℕ) (fs : List Flat) (is : List Item) (ss : List CStmt) → items_for o.names fs ≡ Some is → TellsPlaces o.names fs → named.structured (places_of o) turns n is ≡ Some ss → flat.statements_for o turns n fs ≡ Some ss
  unfolding named.structured flat.statements_for
  all_agree turns n [] [] ss items tells h = h
  all_agree turns n [] (i ∷ is) ss items tells h = absurd (no_flats o.names i is items)
  all_agree turns n (f ∷ fs) [] ss items tells h = absurd (no_items o.names f fs items)
  all_agree zero n (f ∷ fs) (i ∷ is) ss items tells h = absurd (cc)
  all_agree (suc turns) n (f ∷ fs) (i ∷ is) ss items tells h =
      step_goes (flat.statements_for o turns) (named.structured (places_of o) turns) (λ m gs js rest named told is'. all_agree turns m gs js rest named told is') n f fs i is ss (items_first o.names f fs i is items) (items_later o.names f fs i is items)
      tells h

pub items_are_structured : ItemsAreStructured
items_are_structured o turns n flats items body named tells h = all_agree o turns n flats items body named tells h
