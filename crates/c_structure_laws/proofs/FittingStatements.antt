-- The statements that are built have the items that they are built for.
use Rattle.std.specs.Prelude.{◌≡◌, ℕ, ℤ, zero, suc, ◌+◌, ◌-◌, ◌≤◌, pos, nat_eq, nat_le, Bool, true, false, ◌&&◌, List, [], ◌∷◌, ◌++◌, length, map, take, drop, Option, Some, None, is_none, option_map, slice_get, if◌then◌else◌}
use Rattle.std.proofs.Common.{refl, sym, ap, ◌∙◌, subst, arith}
use Rattle.std.proofs.lemmas.Bool.{and_parts, eqb-true, leb-true}
use Rattle.std.proofs.lemmas.List.{append-nil, append_assoc, length-append, length-take-le, take-append-drop}
use Rattle.c_laws.specs.c_tree.declared.expression.CExpr.{CExpr}
use Rattle.c_laws.specs.c_tree.declared.expression.CCall.{CCall}
use Rattle.c_laws.specs.c_tree.declared.expression.BinaryOp.TheVariants as op
use Rattle.c_laws.specs.c_tree.declared.expression.UnaryOp.TheVariants as prefix
use Rattle.c_laws.specs.c_tree.declared.statement.CCase.{CCase}
use Rattle.c_laws.specs.c_tree.declared.statement.CNext.{CNext}
use Rattle.c_laws.specs.c_tree.declared.statement.CNext.TheVariants as next
use Rattle.c_laws.specs.c_tree.declared.statement.CStmt.{CStmt}
use Rattle.c_laws.specs.c_tree.declared.statement.CStmt.TheVariants as stmt
use Rattle.c_laws.specs.c_tree.Access.{ToNumber, ToPointer, ToFunction}
use Rattle.c_laws.specs.c_tree.Terms.{Term, Constant, Variable, Array, Routine, Prefixed, Between, Element}
use Rattle.c_laws.specs.c_tree.Flat.{Flat, Assign, Branch, Select, Jump, Invoke, Return, ReturnAnswer, Nothing, Lost, Ignored, Kept, Returned, Direct, Through, Nowhere, CaseAt}
use Rattle.c_laws.specs.c_tree.Drafts.{Scope, Draft, bare, drafted, joined}
use Rattle.c_laws.specs.c_tree.LinkedExpressions.{linked, name_of, linked_all, Calling, called, linked_call}
use Rattle.c_laws.specs.c_tree.FlatForm as code
use Rattle.c_laws.specs.c_tree.FlatForm.{LabelAt, Labels, Body, sequence, one, marked, if_only, if_else, jump_to, cases_from, case_jumps, next_item, tested, for_loop, do_while, body, body_of_all}
use Rattle.c_laws.proofs.TreeEquations.{body-Block, body-Label, body-If, body-IfElse, body-For, body-DoWhile}
use Rattle.c_structure.specs.Expressions.{Names, expr_for, exprs_for, string_at, strings_in, strings_in_all}
use Rattle.c_structure.specs.Statements.{Outline, set_by, call_by, set_call_by, statement_of, strings_of_item, strings_of_items, with_label, before, if_by, if_else_by, end_of_arm, Writer, if_for, if_else_for, arms_for, branch_for, case_by, case_for, before_cases, cases_for, are_case_numbers, switch_by, switch_for, item_for, same_place, added_by, next_by, next_for, for_by, goes_back, is_loop, head_for, tests_turn, test_in, do_by, do_for, loop_for, part_for, statements_for}
use Rattle.c_structure_laws.specs.Fitting.{KnowsArray, Knows, KnowsAll, KnowsItem, KnowsItems, AreNumbered, AreBytesOf, IsDrawn, mark_at, marks_from, Fits, AreLabels, StatementsAreTheirs}
use Rattle.c_structure_laws.proofs.DrawnExpressions.{bytes_both, numbered_left, behind_both, drawn_bare, drawn_name, drawn_by, drawn_both, some_same, mapped_by, expr_drawn, exprs_drawn}

plus_one : (n : ℕ) → n + 1 ≡ suc n
plus_one n = omega arith

-- ## Lists of items

marks_append : (label : ℕ → Option (List ℕ)) (n m : ℕ) (xs ys : List Flat) → m ≡ n + length xs → marks_from label n (xs ++ ys) ≡ marks_from label n xs ++ marks_from label m ys
marks_append label n m [] ys at = let same : m ≡ n = omega (arith, at) in ap (λ k. marks_from label k ys) (sym same)
marks_append label n m (x ∷ xs) ys at =
    ap (λ zs. mark_at n (label n) ++ zs) (marks_append label (suc n) m xs ys (omega (arith, at)))
    ∙ sym (append_assoc (mark_at n (label n)) (marks_from label (suc n) xs) (marks_from label m ys))

knows_take : (scope : Scope) (names : Names) (m : ℕ) (xs : List Flat) → KnowsItems scope names xs → KnowsItems scope names (take m xs)
knows_take scope names zero xs knows = tt
knows_take scope names (suc m) [] knows = tt
knows_take scope names (suc m) (x ∷ xs) knows = (knows.0, knows_take scope names m xs knows.1)

knows_drop : (scope : Scope) (names : Names) (m : ℕ) (xs : List Flat) → KnowsItems scope names xs → KnowsItems scope names (drop m xs)
knows_drop scope names zero xs knows = knows
knows_drop scope names (suc m) [] knows = tt
knows_drop scope names (suc m) (x ∷ xs) knows = knows_drop scope names m xs knows.1

strings_append : (names : Names) (xs ys : List Flat) → strings_of_items names (xs ++ ys) ≡ strings_of_items names xs ++ strings_of_items names ys
unfolding strings_of_items
strings_append names [] ys = refl
strings_append names (x ∷ xs) ys = ap (λ zs. strings_of_item names x ++ zs) (strings_append names xs ys) ∙ sym (append_assoc (strings_of_item names x) (strings_of_items names xs) (strings_of_items names ys))

-- an item in its place among the others
around : (m : ℕ) (xs : List Flat) (item : Flat) → slice_get xs m ≡ Some item → xs ≡ take m xs ++ item ∷ drop (suc m) xs
around zero [] item at = absurd (cc)
around zero (x ∷ xs) item at = ap (λ y. y ∷ xs) (some_same x item at)
around (suc m) [] item at = absurd (cc)
around (suc m) (x ∷ xs) item at = ap (λ ys. x ∷ ys) (around m xs item at)

-- ## Parts of a body

module _ (o : Outline) (scope : Scope) (labels : Labels) (are : AreLabels o labels) where
  -- nothing fits no items
  nothing_fits : (n : ℕ) → Fits o scope labels n [] (body_of_all [])
  unfolding strings_of_items
  nothing_fits n = record { size = refl; strings = refl; marks = refl; drawn = λ first are. refl }

  -- what fits some items and what fits those behind them
  both_fit : (n m : ℕ) (xs ys : List Flat) (b c : Body) → m ≡ n + length xs → Fits o scope labels n xs b → Fits o scope labels m ys c → Fits o scope labels n (xs ++ ys) (sequence b c)
  both_fit n m xs ys b c at one other =
      let size = one.size in
      let there : n + b.size ≡ m = omega (arith, at, size) in
      record {
        size = (λ i. one.size i + other.size i) ∙ sym (length-append xs ys);
        strings = bytes_both o.names b.items.strings c.items.strings (strings_of_items o.names xs) (strings_of_items o.names ys) one.strings other.strings ∙ sym (ap (map o.names.string) (strings_append o.names xs ys));
        marks = (λ i. one.marks i ++ c.labels (there i)) ∙ ap (λ zs. marks_from o.label n xs ++ zs) other.marks ∙ sym (marks_append o.label n m xs ys at);
        drawn = λ first are'.
            let both = subst (AreNumbered first) (strings_append o.names xs ys) are' in
            (λ i. one.drawn first (numbered_left first (strings_of_items o.names xs) (strings_of_items o.names ys) both) i ++ c.items.drawn scope (first + length b.items.strings) labels (there i))
            ∙ ap (λ zs. xs ++ zs) (other.drawn (first + length b.items.strings) (behind_both o.names first b.items.strings (strings_of_items o.names xs) (strings_of_items o.names ys) one.strings both));
      }

  -- a statement that fits an item and those behind it, its own label aside
  record FitsUnlabelled (n : ℕ) (item : Flat) (inner : List Flat) (b : Body) : Type 0 where
    size : b.size ≡ suc (length inner)
    strings : AreBytesOf o.names b.items.strings (strings_of_items o.names (item ∷ inner))
    marks : b.labels n ≡ marks_from o.label (suc n) inner
    drawn : (first : ℕ) → AreNumbered first (strings_of_items o.names (item ∷ inner)) → b.items.drawn scope first labels n ≡ item ∷ inner

  labelled_by : (found : Option (List ℕ)) (n : ℕ) (item : Flat) (inner : List Flat) (s : CStmt) → o.label n ≡ found → FitsUnlabelled n item inner (body s) → Fits o scope labels n (item ∷ inner) (body (with_label found s))
  unfolding with_label
  labelled_by None n item inner s none is = record {
    size = is.size;
    strings = is.strings;
    marks = is.marks ∙ ap (λ l. mark_at n l ++ marks_from o.label (suc n) inner) (sym none);
    drawn = is.drawn;
  }
  labelled_by (Some name) n item inner s some is =
      subst (Fits o scope labels n (item ∷ inner)) (sym (body-Label name s)) (record {
        size = is.size;
        strings = is.strings;
        marks = ap (λ zs. record { name = name; position = n } ∷ zs) is.marks ∙ ap (λ l. mark_at n l ++ marks_from o.label (suc n) inner) (sym some);
        drawn = is.drawn;
      })

  -- ## One item

  alone : (item : Flat) → strings_of_item o.names item ++ [] ≡ strings_of_items o.names (item ∷ [])
  unfolding strings_of_items
  alone item = refl

  one_fits : (n : ℕ) (item : Flat) (draft : Draft Flat) → IsDrawn o.names scope (strings_of_item o.names item) draft item → FitsUnlabelled n item [] (one draft)
  one_fits n item draft is = record {
    size = refl;
    strings = is.strings ∙ ap (map o.names.string) (sym (append-nil (strings_of_item o.names item)) ∙ alone item);
    marks = refl;
    drawn = λ first are'. ap (λ f. f ∷ []) (is.drawn first (numbered_left first (strings_of_item o.names item) [] (subst (AreNumbered first) (sym (alone item)) are')));
  }

  record AreSet (x y : Option CExpr) (s : CStmt) : Type 0 where
    target : CExpr
    value : CExpr
    target_is : x ≡ Some target
    value_is : y ≡ Some value
    is : stmt.Set target value ≡ s

  set_of : (x y : Option CExpr) (s : CStmt) → set_by x y ≡ Some s → AreSet x y s
  unfolding set_by
  set_of (Some a) (Some b) s h = record { target = a; value = b; target_is = refl; value_is = refl; is = cc }
  set_of (Some a) None s h = absurd (cc)
  set_of None y s h = absurd (cc)

  set_fits : (n : ℕ) (t u : Term) (s : CStmt) → set_by (expr_for o.names t) (expr_for o.names u) ≡ Some s → Knows scope o.names t × Knows scope o.names u → FitsUnlabelled n (Assign t u) [] (body s)
  unfolding strings_of_item
  set_fits n t u s h knows =
      let m = set_of (expr_for o.names t) (expr_for o.names u) s h in
      subst (λ z. FitsUnlabelled n (Assign t u) [] (body z)) m.is
      (one_fits n (Assign t u) (joined Assign (linked m.target) (linked m.value))
      (drawn_both o.names scope (strings_in o.names t) (strings_in o.names u) Assign (linked m.target) (linked m.value) t u (expr_drawn scope o.names t m.target m.target_is knows.0) (expr_drawn scope o.names u m.value m.value_is knows.1)))

  goto_fits : (n position : ℕ) (s : CStmt) → option_map stmt.Goto (o.label position) ≡ Some s → FitsUnlabelled n (Jump position) [] (body s)
  unfolding strings_of_items strings_of_item
  goto_fits n position s h =
      let m = mapped_by stmt.Goto (o.label position) s h in
      let found = are.found position m.one m.one_is in
      subst (λ z. FitsUnlabelled n (Jump position) [] (body z)) m.is
      (record { size = refl; strings = refl; marks = refl; drawn = λ first are'. ap (λ r. jump_to r ∷ []) found })

  -- a call by a name that stands for what it is taken to stand for
  calling_drawn : (through : Bool) (name : List ℕ) (term : Term) (arguments : List Term) (es : List CExpr) → scope name ≡ term → exprs_for o.names arguments ≡ Some es → KnowsAll scope o.names arguments
      → IsDrawn o.names scope (strings_in_all o.names arguments) (linked_call (record { through = through; name = name; arguments = es })) (record { callee = called through term; arguments = arguments })
  calling_drawn through name term arguments es stands made knows =
      let make : Term → List Term → Calling = λ callee later. record { callee = called through callee; arguments = later } in
      drawn_both o.names scope [] (strings_in_all o.names arguments) make (name_of name) (linked_all es) term arguments (drawn_name o.names scope name term stands) (exprs_drawn scope o.names arguments es made knows)

  call_fits : (n : ℕ) (through : Bool) (name : List ℕ) (term : Term) (arguments : List Term) (s : CStmt) → call_by through name (exprs_for o.names arguments) ≡ Some s → scope name ≡ term → KnowsAll scope o.names arguments
      → FitsUnlabelled n (Invoke Ignored (called through term) arguments) [] (body s)
  unfolding call_by strings_of_item
  call_fits n through name term arguments s h stands knows =
      let m = mapped_by (λ es. stmt.Call (record { through = through; name = name; arguments = es })) (exprs_for o.names arguments) s h in
      subst (λ z. FitsUnlabelled n (Invoke Ignored (called through term) arguments) [] (body z)) m.is
      (one_fits n (Invoke Ignored (called through term) arguments) (drafted (code.invoked Ignored) (linked_call (record { through = through; name = name; arguments = m.one })))
      (drawn_by o.names scope (strings_in_all o.names arguments) (code.invoked Ignored) (linked_call (record { through = through; name = name; arguments = m.one })) (record { callee = called through term; arguments = arguments })
      (calling_drawn through name term arguments m.one stands m.one_is knows)))

  record IsSetCall (through : Bool) (name : List ℕ) (x : Option CExpr) (xs : Option (List CExpr)) (s : CStmt) : Type 0 where
    target : CExpr
    arguments : List CExpr
    target_is : x ≡ Some target
    arguments_are : xs ≡ Some arguments
    is : stmt.SetCall target (record { through = through; name = name; arguments = arguments }) ≡ s

  set_call_of : (through : Bool) (name : List ℕ) (x : Option CExpr) (xs : Option (List CExpr)) (s : CStmt) → set_call_by through name x xs ≡ Some s → IsSetCall through name x xs s
  unfolding set_call_by
  set_call_of through name (Some e) (Some es) s h = record { target = e; arguments = es; target_is = refl; arguments_are = refl; is = cc }
  set_call_of through name (Some e) None s h = absurd (cc)
  set_call_of through name None xs s h = absurd (cc)

  set_call_fits : (n : ℕ) (through : Bool) (name : List ℕ) (term t : Term) (arguments : List Term) (s : CStmt) → set_call_by through name (expr_for o.names t) (exprs_for o.names arguments) ≡ Some s → scope name ≡ term
      → Knows scope o.names t → KnowsAll scope o.names arguments → FitsUnlabelled n (Invoke (Kept t) (called through term) arguments) [] (body s)
  unfolding strings_of_item
  set_call_fits n through name term t arguments s h stands target knows =
      let m = set_call_of through name (expr_for o.names t) (exprs_for o.names arguments) s h in
      let call : CCall = record { through = through; name = name; arguments = m.arguments } in
      subst (λ z. FitsUnlabelled n (Invoke (Kept t) (called through term) arguments) [] (body z)) m.is
      (one_fits n (Invoke (Kept t) (called through term) arguments) (code.set_call m.target call)
      (drawn_both o.names scope (strings_in o.names t) (strings_in_all o.names arguments) (λ place calling. code.invoked (Kept place) calling) (linked m.target) (linked_call call) t (record { callee = called through term; arguments = arguments })
      (expr_drawn scope o.names t m.target m.target_is target) (calling_drawn through name term arguments m.arguments stands m.arguments_are knows)))

  return_fits : (n : ℕ) (t : Term) (s : CStmt) → option_map (λ e. stmt.Return (Some e)) (expr_for o.names t) ≡ Some s → Knows scope o.names t → FitsUnlabelled n (Return (Some t)) [] (body s)
  unfolding strings_of_item
  return_fits n t s h knows =
      let m = mapped_by (λ e. stmt.Return (Some e)) (expr_for o.names t) s h in
      subst (λ z. FitsUnlabelled n (Return (Some t)) [] (body z)) m.is
      (one_fits n (Return (Some t)) (code.returned (Some m.one)) (drawn_by o.names scope (strings_in o.names t) (λ term. Return (Some term)) (linked m.one) t (expr_drawn scope o.names t m.one m.one_is knows)))

  statement_fits : (n : ℕ) (item : Flat) (s : CStmt) → statement_of o item ≡ Some s → KnowsItem scope o.names item → FitsUnlabelled n item [] (body s)
  unfolding statement_of strings_of_item
  statement_fits n (Assign t u) s h knows = set_fits n t u s h knows
  statement_fits n (Jump position) s h knows = goto_fits n position s h
  statement_fits n (Invoke Ignored (Direct k) arguments) s h knows = call_fits n false (o.names.routine k) (Routine k) arguments s h knows.0 knows.1
  statement_fits n (Invoke Ignored (Through (Variable k ToFunction)) arguments) s h knows = call_fits n true (o.names.object k) (Variable k ToFunction) arguments s h knows.0 knows.1
  statement_fits n (Invoke (Kept t) (Direct k) arguments) s h knows = set_call_fits n false (o.names.routine k) (Routine k) t arguments s h knows.1 knows.0 knows.2
  statement_fits n (Invoke (Kept t) (Through (Variable k ToFunction)) arguments) s h knows = set_call_fits n true (o.names.object k) (Variable k ToFunction) t arguments s h knows.1 knows.0 knows.2
  statement_fits n (Return None) s h knows = subst (λ z. FitsUnlabelled n (Return None) [] (body z)) (some_same (stmt.Return None) s h) (one_fits n (Return None) (bare (Return None)) (drawn_bare o.names scope (Return None)))
  statement_fits n (Return (Some t)) s h knows = return_fits n t s h knows
  statement_fits n Nothing s h knows = subst (λ z. FitsUnlabelled n Nothing [] (body z)) (some_same stmt.Empty s h) (one_fits n Nothing (bare Nothing) (drawn_bare o.names scope Nothing))
  statement_fits n (Branch test on off) s h knows = absurd (cc)
  statement_fits n (Select t cases otherwise) s h knows = absurd (cc)
  statement_fits n (Invoke Ignored (Through t) arguments) s h knows = absurd (cc)
  statement_fits n (Invoke Ignored Nowhere arguments) s h knows = absurd (cc)
  statement_fits n (Invoke (Kept t) (Through t') arguments) s h knows = absurd (cc)
  statement_fits n (Invoke (Kept t) Nowhere arguments) s h knows = absurd (cc)
  statement_fits n (Invoke Returned callee arguments) s h knows = absurd (cc)
  statement_fits n ReturnAnswer s h knows = absurd (cc)
  statement_fits n Lost s h knows = absurd (cc)

  -- ## Statements behind one another

  record AreBefore (x : Option CStmt) (xs : Option (List CStmt)) (ss : List CStmt) : Type 0 where
    first : CStmt
    later : List CStmt
    first_is : x ≡ Some first
    later_is : xs ≡ Some later
    is : first ∷ later ≡ ss

  before_by : (x : Option CStmt) (xs : Option (List CStmt)) (ss : List CStmt) → before x xs ≡ Some ss → AreBefore x xs ss
  unfolding before
  before_by (Some s) (Some later) ss h = record { first = s; later = later; first_is = refl; later_is = refl; is = cc }
  before_by (Some s) None ss h = absurd (cc)
  before_by None xs ss h = absurd (cc)

  -- a labelled statement for an item with those that belong to it, and what is behind
  first_fits : (n m : ℕ) (item : Flat) (inner later : List Flat) (x : Option CStmt) (xs : Option (List CStmt)) (ss : List CStmt) → m ≡ suc n + length inner → before (option_map (with_label (o.label n)) x) xs ≡ Some ss
      → ((s : CStmt) → x ≡ Some s → FitsUnlabelled n item inner (body s)) → ((rest : List CStmt) → xs ≡ Some rest → Fits o scope labels m later (body_of_all rest)) → Fits o scope labels n (item ∷ (inner ++ later)) (body_of_all ss)
  first_fits n m item inner later x xs ss at h one others =
      let b = before_by (option_map (with_label (o.label n)) x) xs ss h in
      let s = mapped_by (with_label (o.label n)) x b.first b.first_is in
      let labelled = labelled_by (o.label n) n item inner s.one refl (one s.one s.one_is) in
      subst (λ zs. Fits o scope labels n (item ∷ (inner ++ later)) (body_of_all zs)) b.is
      (subst (λ z. Fits o scope labels n (item ∷ (inner ++ later)) (sequence (body z) (body_of_all b.later))) s.is
      (both_fit n m (item ∷ inner) later (body (with_label (o.label n) s.one)) (body_of_all b.later) (omega (arith, at)) labelled (others b.later b.later_is)))

  -- ## A test

  WriterFits : Writer → Type 0
  WriterFits write = (n : ℕ) (items : List Flat) (ss : List CStmt) → write n items ≡ Some ss → KnowsItems scope o.names items → Fits o scope labels n items (body_of_all ss)

  if_only_fits : (n m : ℕ) (t : Term) (e : CExpr) (inner : List Flat) (first : List CStmt) → IsDrawn o.names scope (strings_in o.names t) (linked e) t → length inner ≡ m → Fits o scope labels (suc n) inner (body_of_all first)
      → FitsUnlabelled n (Branch t (suc n) (suc n + m)) inner (body (stmt.If e first None))
  unfolding strings_of_items strings_of_item
  if_only_fits n m t e inner first test long fits =
      let size = fits.size in
      let off : n + 1 + (body_of_all first).size ≡ suc n + m = omega (arith, size, long) in
      subst (FitsUnlabelled n (Branch t (suc n) (suc n + m)) inner) (sym (body-If e first)) (record {
        size = (let whole : 1 + (body_of_all first).size ≡ suc (length inner) = omega (arith, size) in whole);
        strings = bytes_both o.names (linked e).strings (body_of_all first).items.strings (strings_in o.names t) (strings_of_items o.names inner) test.strings fits.strings;
        marks = ap (body_of_all first).labels (plus_one n) ∙ fits.marks;
        drawn = λ k are'. (λ i. Branch (test.drawn k (numbered_left k (strings_in o.names t) (strings_of_items o.names inner) are') i) (plus_one n i) (off i)
            ∷ (body_of_all first).items.drawn scope (k + length (linked e).strings) labels (plus_one n i))
            ∙ ap (λ zs. Branch t (suc n) (suc n + m) ∷ zs)
            (fits.drawn (k + length (linked e).strings) (behind_both o.names k (linked e).strings (strings_in o.names t) (strings_of_items o.names inner) test.strings are'));
      })

  record AreIf (x : Option CExpr) (xs : Option (List CStmt)) (s : CStmt) : Type 0 where
    test : CExpr
    first : List CStmt
    test_is : x ≡ Some test
    first_is : xs ≡ Some first
    is : stmt.If test first None ≡ s

  if_of : (x : Option CExpr) (xs : Option (List CStmt)) (s : CStmt) → if_by x xs ≡ Some s → AreIf x xs s
  unfolding if_by
  if_of (Some test) (Some first) s h = record { test = test; first = first; test_is = refl; first_is = refl; is = cc }
  if_of (Some test) None s h = absurd (cc)
  if_of None xs s h = absurd (cc)

  if_fits : (write : Writer) → WriterFits write → (n m : ℕ) (t : Term) (later : List Flat) (ss : List CStmt) → m ≤ length later → if_for o write n (expr_for o.names t) m later ≡ Some ss → Knows scope o.names t → KnowsItems scope o.names later
      → Fits o scope labels n (Branch t (suc n) (suc n + m) ∷ later) (body_of_all ss)
  unfolding WriterFits if_for
  if_fits write fit n m t later ss room h test knows =
      let long : length (take m later) ≡ m = length-take-le m later room in
      subst (λ zs. Fits o scope labels n (Branch t (suc n) (suc n + m) ∷ zs) (body_of_all ss)) (take-append-drop m later)
      (first_fits n (suc n + m) (Branch t (suc n) (suc n + m)) (take m later) (drop m later) (if_by (expr_for o.names t) (write (suc n) (take m later))) (write (suc n + m) (drop m later)) ss (omega (arith, long)) h
      (λ s is.
      let a = if_of (expr_for o.names t) (write (suc n) (take m later)) s is in
      subst (λ z. FitsUnlabelled n (Branch t (suc n) (suc n + m)) (take m later) (body z)) a.is
      (if_only_fits n m t a.test (take m later) a.first (expr_drawn scope o.names t a.test a.test_is test) long (fit (suc n) (take m later) a.first a.first_is (knows_take scope o.names m later knows))))
      (λ rest is. fit (suc n + m) (drop m later) rest is (knows_drop scope o.names m later knows)))

  -- ## Two arms

  if_else_fits : (n m k : ℕ) (t : Term) (e : CExpr) (one other : List Flat) (first second : List CStmt) → IsDrawn o.names scope (strings_in o.names t) (linked e) t → length one ≡ m → length other ≡ k → o.label (suc n + m) ≡ None
      → Fits o scope labels (suc n) one (body_of_all first) → Fits o scope labels (suc n + suc m) other (body_of_all second)
      → FitsUnlabelled n (Branch t (suc n) (suc n + suc m)) (one ++ Jump (suc n + suc m + k) ∷ other) (body (stmt.If e first (Some second)))
  unfolding strings_of_items strings_of_item
  if_else_fits n m k t e one other first second test long long' none fits fits' =
      let ks = strings_in o.names t in
      let js = strings_of_items o.names one in
      let is = strings_of_items o.names other in
      let all : ks ++ strings_of_items o.names (one ++ Jump (suc n + suc m + k) ∷ other) ≡ (ks ++ js) ++ is =
      ap (λ zs. ks ++ zs) (strings_append o.names one (Jump (suc n + suc m + k) ∷ other)) ∙ sym (append_assoc ks js is) in
      let two = bytes_both o.names (linked e).strings (body_of_all first).items.strings ks js test.strings fits.strings in
      let size = fits.size in
      let size' = fits'.size in
      let off : n + 2 + (body_of_all first).size ≡ suc n + suc m = omega (arith, size, long) in
      let end : n + 2 + (body_of_all first).size + (body_of_all second).size ≡ suc n + suc m + k = omega (arith, size, long, size', long') in
      let behind : suc (suc n + m) ≡ suc n + suc m = omega arith in
      subst (FitsUnlabelled n (Branch t (suc n) (suc n + suc m)) (one ++ Jump (suc n + suc m + k) ∷ other)) (sym (body-IfElse e first second)) (record {
        size = (let whole : 2 + (body_of_all first).size + (body_of_all second).size ≡ suc (length one + suc (length other)) = omega (arith, size, size') in
            whole ∙ ap suc (sym (length-append one (Jump (suc n + suc m + k) ∷ other))));
        strings = bytes_both o.names ((linked e).strings ++ (body_of_all first).items.strings) (body_of_all second).items.strings (ks ++ js) is two fits'.strings ∙ sym (ap (map o.names.string) all);
        marks = (λ i. (body_of_all first).labels (plus_one n i) ++ (body_of_all second).labels (off i)) ∙ (λ i. fits.marks i ++ fits'.marks i)
            ∙ ap (λ p. marks_from o.label (suc n) one ++ marks_from o.label p other) (sym behind)
            ∙ ap (λ l. marks_from o.label (suc n) one ++ (mark_at (suc n + m) l ++ marks_from o.label (suc (suc n + m)) other)) (sym none)
            ∙ sym (marks_append o.label (suc n) (suc n + m) one (Jump (suc n + suc m + k) ∷ other) (omega (arith, long)));
        drawn = λ j are'.
            let whole = subst (AreNumbered j) all are' in
            let left = numbered_left j (ks ++ js) is whole in
            (λ i. Branch (test.drawn j (numbered_left j ks js left) i) (plus_one n i) (off i) ∷ ((body_of_all first).items.drawn scope (j + length (linked e).strings) labels (plus_one n i)
            ++ Jump (end i) ∷ (body_of_all second).items.drawn scope (j + length ((linked e).strings ++ (body_of_all first).items.strings)) labels (off i)))
            ∙ (λ i. Branch t (suc n) (suc n + suc m) ∷ (fits.drawn (j + length (linked e).strings) (behind_both o.names j (linked e).strings ks js test.strings left) i
            ++ Jump (suc n + suc m + k) ∷ fits'.drawn (j + length ((linked e).strings ++ (body_of_all first).items.strings)) (behind_both o.names j ((linked e).strings ++ (body_of_all first).items.strings) (ks ++ js) is two whole) i));
      })

  record AreArms (x : Option CExpr) (xs ys : Option (List CStmt)) (s : CStmt) : Type 0 where
    test : CExpr
    first : List CStmt
    second : List CStmt
    test_is : x ≡ Some test
    first_is : xs ≡ Some first
    second_is : ys ≡ Some second
    is : stmt.If test first (Some second) ≡ s

  arms_of : (x : Option CExpr) (xs ys : Option (List CStmt)) (s : CStmt) → if_else_by x xs ys ≡ Some s → AreArms x xs ys s
  unfolding if_else_by
  arms_of (Some test) (Some first) (Some second) s h = record { test = test; first = first; second = second; test_is = refl; first_is = refl; second_is = refl; is = cc }
  arms_of (Some test) (Some first) None s h = absurd (cc)
  arms_of (Some test) None ys s h = absurd (cc)
  arms_of None xs ys s h = absurd (cc)

  both_arms_fit : (write : Writer) → WriterFits write → (n m k : ℕ) (t : Term) (later : List Flat) (ss : List CStmt) → suc m ≤ length later → k ≤ length (drop (suc m) later) → slice_get later m ≡ Some (Jump (suc n + suc m + k)) → o.ends_arm (suc n + m) ≡ true
      → if_else_for o write n (expr_for o.names t) m k later ≡ Some ss → Knows scope o.names t → KnowsItems scope o.names later → Fits o scope labels n (Branch t (suc n) (suc n + suc m) ∷ later) (body_of_all ss)
  unfolding WriterFits if_else_for
  both_arms_fit write fit n m k t later ss room room' at ends h test knows =
      let jump = Jump (suc n + suc m + k) in
      let one = take m later in
      let behind = drop (suc m) later in
      let other = take k behind in
      let rest = drop k behind in
      let long : length one ≡ m = length-take-le m later (omega (arith, room)) in
      let long' : length other ≡ k = length-take-le k behind room' in
      let inner : length (one ++ jump ∷ other) ≡ m + suc k = length-append one (jump ∷ other) ∙ (λ i. long i + suc (long' i)) in
      let whole : (one ++ jump ∷ other) ++ rest ≡ later =
      append_assoc one (jump ∷ other) rest ∙ ap (λ zs. one ++ jump ∷ zs) (take-append-drop k behind) ∙ sym (around m later jump at) in
      subst (λ zs. Fits o scope labels n (Branch t (suc n) (suc n + suc m) ∷ zs) (body_of_all ss)) whole
      (first_fits n (suc n + suc m + k) (Branch t (suc n) (suc n + suc m)) (one ++ jump ∷ other) rest
      (if_else_by (expr_for o.names t) (write (suc n) one) (write (suc n + suc m) other)) (write (suc n + suc m + k) rest) ss (omega (arith, inner)) h
      (λ s is.
      let a = arms_of (expr_for o.names t) (write (suc n) one) (write (suc n + suc m) other) s is in
      subst (λ z. FitsUnlabelled n (Branch t (suc n) (suc n + suc m)) (one ++ jump ∷ other) (body z)) a.is
      (if_else_fits n m k t a.test one other a.first a.second (expr_drawn scope o.names t a.test a.test_is test) long long' (are.none (suc n + m) ends)
      (fit (suc n) one a.first a.first_is (knows_take scope o.names m later knows))
      (fit (suc n + suc m) other a.second a.second_is (knows_take scope o.names k behind (knows_drop scope o.names (suc m) later knows)))))
      (λ others is. fit (suc n + suc m + k) rest others is (knows_drop scope o.names k behind (knows_drop scope o.names (suc m) later knows))))

  -- ## Any item

  left_true : (a b : Bool) → a && b ≡ true → a ≡ true
  left_true true b h = refl
  left_true false b h = absurd (cc)

  right_true : (a b : Bool) → a && b ≡ true → b ≡ true
  right_true true b h = h
  right_true false b h = absurd (cc)

  arms_fit : (write : Writer) → WriterFits write → (n m : ℕ) (t : Term) (later : List Flat) (ss : List CStmt) → suc m ≤ length later → o.ends_arm (suc n + m) ≡ true → Knows scope o.names t → KnowsItems scope o.names later
      → (found : Option Flat) → slice_get later m ≡ found → arms_for o write n (expr_for o.names t) m (end_of_arm found) later ≡ Some ss → Fits o scope labels n (Branch t (suc n) (suc n + suc m) ∷ later) (body_of_all ss)
  unfolding arms_for end_of_arm
  arms_fit write fit n m t later ss room ends test knows (Some (Jump end)) at h =
      by (nat_le (suc n + suc m) end && nat_le (end - (suc n + suc m)) (length (drop (suc m) later))) refl h
    where
      by : (b : Bool) → nat_le (suc n + suc m) end && nat_le (end - (suc n + suc m)) (length (drop (suc m) later)) ≡ b
          → (if b then if_else_for o write n (expr_for o.names t) m (end - (suc n + suc m)) later else None) ≡ Some ss → Fits o scope labels n (Branch t (suc n) (suc n + suc m) ∷ later) (body_of_all ss)
      by true so g =
          let forward = leb-true (suc n + suc m) end (left_true (nat_le (suc n + suc m) end) (nat_le (end - (suc n + suc m)) (length (drop (suc m) later))) so) in
          let within = leb-true (end - (suc n + suc m)) (length (drop (suc m) later)) (right_true (nat_le (suc n + suc m) end) (nat_le (end - (suc n + suc m)) (length (drop (suc m) later))) so) in
          let there : suc n + suc m + (end - (suc n + suc m)) ≡ end = omega (arith, forward) in
          both_arms_fit write fit n m (end - (suc n + suc m)) t later ss room within (at ∙ ap (λ p. Some (Jump p)) (sym there)) ends g test knows
      by false so g = absurd (cc)
  arms_fit write fit n m t later ss room ends test knows None at h = absurd (cc)
  arms_fit write fit n m t later ss room ends test knows (Some (Assign a b)) at h = absurd (cc)
  arms_fit write fit n m t later ss room ends test knows (Some (Branch a on off)) at h = absurd (cc)
  arms_fit write fit n m t later ss room ends test knows (Some (Select a cases otherwise)) at h = absurd (cc)
  arms_fit write fit n m t later ss room ends test knows (Some (Invoke how callee arguments)) at h = absurd (cc)
  arms_fit write fit n m t later ss room ends test knows (Some (Return value)) at h = absurd (cc)
  arms_fit write fit n m t later ss room ends test knows (Some ReturnAnswer) at h = absurd (cc)
  arms_fit write fit n m t later ss room ends test knows (Some Nothing) at h = absurd (cc)
  arms_fit write fit n m t later ss room ends test knows (Some Lost) at h = absurd (cc)

  branch_fits : (write : Writer) → WriterFits write → (n m : ℕ) (t : Term) (later : List Flat) (ss : List CStmt) → m ≤ length later → branch_for o write n (expr_for o.names t) m later ≡ Some ss → Knows scope o.names t → KnowsItems scope o.names later
      → Fits o scope labels n (Branch t (suc n) (suc n + m) ∷ later) (body_of_all ss)
  unfolding branch_for
  branch_fits write fit n zero t later ss room h test knows = if_fits write fit n 0 t later ss room h test knows
  branch_fits write fit n (suc m) t later ss room h test knows = by (o.ends_arm (suc n + m)) refl h
    where
      by : (b : Bool) → o.ends_arm (suc n + m) ≡ b → (if b then arms_for o write n (expr_for o.names t) m (end_of_arm (slice_get later m)) later else if_for o write n (expr_for o.names t) (suc m) later) ≡ Some ss
          → Fits o scope labels n (Branch t (suc n) (suc n + suc m) ∷ later) (body_of_all ss)
      by true ends g = arms_fit write fit n m t later ss room ends test knows (slice_get later m) refl g
      by false ends g = if_fits write fit n (suc m) t later ss room g test knows

  single_fits : (write : Writer) → WriterFits write → (n : ℕ) (item : Flat) (later : List Flat) (ss : List CStmt) → before (option_map (with_label (o.label n)) (statement_of o item)) (write (suc n) later) ≡ Some ss → KnowsItem scope o.names item
      → KnowsItems scope o.names later → Fits o scope labels n (item ∷ later) (body_of_all ss)
  unfolding WriterFits
  single_fits write fit n item later ss h known knows =
      first_fits n (suc n) item [] later (statement_of o item) (write (suc n) later) ss (omega arith) h (λ s is. statement_fits n item s is known) (λ rest is. fit (suc n) later rest is knows)

  test_fits : (write : Writer) → WriterFits write → (n on off : ℕ) (t : Term) (later : List Flat) (ss : List CStmt)
      → (if nat_eq on (suc n) && (nat_le (suc n) off && nat_le (off - suc n) (length later)) then branch_for o write n (expr_for o.names t) (off - suc n) later else None) ≡ Some ss → Knows scope o.names t → KnowsItems scope o.names later
      → Fits o scope labels n (Branch t on off ∷ later) (body_of_all ss)
  test_fits write fit n on off t later ss h test knows = by (nat_eq on (suc n) && (nat_le (suc n) off && nat_le (off - suc n) (length later))) refl h
    where
      by : (b : Bool) → nat_eq on (suc n) && (nat_le (suc n) off && nat_le (off - suc n) (length later)) ≡ b → (if b then branch_for o write n (expr_for o.names t) (off - suc n) later else None) ≡ Some ss
          → Fits o scope labels n (Branch t on off ∷ later) (body_of_all ss)
      by true so g =
          let next : on ≡ suc n = eqb-true on (suc n) (left_true (nat_eq on (suc n)) (nat_le (suc n) off && nat_le (off - suc n) (length later)) so) in
          let more = right_true (nat_eq on (suc n)) (nat_le (suc n) off && nat_le (off - suc n) (length later)) so in
          let forward = leb-true (suc n) off (left_true (nat_le (suc n) off) (nat_le (off - suc n) (length later)) more) in
          let within = leb-true (off - suc n) (length later) (right_true (nat_le (suc n) off) (nat_le (off - suc n) (length later)) more) in
          let there : suc n + (off - suc n) ≡ off = omega (arith, forward) in
          subst (λ p. Fits o scope labels n (Branch t p off ∷ later) (body_of_all ss)) (sym next)
          (subst (λ p. Fits o scope labels n (Branch t (suc n) p ∷ later) (body_of_all ss)) there (branch_fits write fit n (off - suc n) t later ss within g test knows))
      by false so g = absurd (cc)

  is_bare : (found : Option (List ℕ)) → is_none found ≡ true → found ≡ None
  is_bare None h = refl
  is_bare (Some name) h = absurd (cc)

  -- ## A value that picks a jump

  record IsLabelled (number : ℤ) (found : Option (List ℕ)) (case : CCase) : Type 0 where
    label : List ℕ
    label_is : found ≡ Some label
    is : record { number = number; label = label } ≡ case

  labelled_case : (number : ℤ) (found : Option (List ℕ)) (case : CCase) → case_by number found ≡ Some case → IsLabelled number found case
  unfolding case_by
  labelled_case number None case h = absurd (cc)
  labelled_case number (Some label) case h = record { label = label; label_is = refl; is = some_same (record { number = number; label = label }) case h }

  at_place : ℤ → ℕ → CaseAt
  at_place number position = record { number = number; position = position }

  -- a case whose jump is an item
  record IsCase (n : ℕ) (at : CaseAt) (item : Flat) (case : CCase) : Type 0 where
    place : at_place case.number n ≡ at
    jump : jump_to (labels case.label) ≡ item
    bare : o.label n ≡ None
    strings : strings_of_item o.names item ≡ []

  case_found : (n : ℕ) (at : CaseAt) (item : Flat) (case : CCase) → case_for o n at item ≡ Some case → IsCase n at item case
  unfolding case_for strings_of_item at_place
  case_found n at (Jump position) case h = by (nat_eq at.position n && is_none (o.label n)) refl h
    where
      by : (b : Bool) → nat_eq at.position n && is_none (o.label n) ≡ b → (if b then case_by at.number (o.label position) else None) ≡ Some case → IsCase n at (Jump position) case
      by true so g =
          let c = labelled_case at.number (o.label position) case g in
          let there : at.position ≡ n = eqb-true at.position n (left_true _ _ so) in
          subst (IsCase n at (Jump position)) c.is (record {
            place = ap (at_place at.number) (sym there);
            jump = ap jump_to (are.found position c.label c.label_is);
            bare = is_bare (o.label n) (right_true _ _ so);
            strings = refl;
          })
      by false so g = absurd (cc)
  case_found n at item case h = absurd (cc)

  record AreCasesBefore (x : Option CCase) (xs : Option (List CCase)) (cases : List CCase) : Type 0 where
    first : CCase
    later : List CCase
    first_is : x ≡ Some first
    later_are : xs ≡ Some later
    is : first ∷ later ≡ cases

  cases_before : (x : Option CCase) (xs : Option (List CCase)) (cases : List CCase) → before_cases x xs ≡ Some cases → AreCasesBefore x xs cases
  unfolding before_cases
  cases_before (Some case) (Some later) cases h = record { first = case; later = later; first_is = refl; later_are = refl; is = some_same (case ∷ later) cases h }
  cases_before (Some case) None cases h = absurd (cc)
  cases_before None xs cases h = absurd (cc)

  -- cases whose jumps are the first items from a position on
  record AreCases (n : ℕ) (ats : List CaseAt) (later : List Flat) (cases : List CCase) : Type 0 where
    long : length cases ≡ length ats
    room : length (take (length ats) later) ≡ length ats
    places : cases_from n cases ≡ ats
    jumps : case_jumps cases labels ≡ take (length ats) later
    marks : marks_from o.label n (take (length ats) later) ≡ []
    strings : strings_of_items o.names (take (length ats) later) ≡ []

  cases_found : (n : ℕ) (ats : List CaseAt) (later : List Flat) (cases : List CCase) → cases_for o n ats later ≡ Some cases → AreCases n ats later cases
  unfolding cases_for strings_of_items at_place
  cases_found n [] later cases h =
      subst (AreCases n [] later) (some_same [] cases h) (record { long = refl; room = refl; places = refl; jumps = refl; marks = refl; strings = refl })
  cases_found n (at ∷ ats) [] cases h = absurd (cc)
  cases_found n (at ∷ ats) (item ∷ later) cases h =
      let b = cases_before (case_for o n at item) (cases_for o (suc n) ats later) cases h in
      let one = case_found n at item b.first b.first_is in
      let more = cases_found (suc n) ats later b.later b.later_are in
      subst (AreCases n (at ∷ ats) (item ∷ later)) b.is (record {
        long = ap suc more.long;
        room = ap suc more.room;
        places = (λ i. one.place i ∷ cases_from (plus_one n i) b.later) ∙ ap (λ zs. at ∷ zs) more.places;
        jumps = (λ i. one.jump i ∷ more.jumps i);
        marks = (λ i. mark_at n (one.bare i) ++ more.marks i);
        strings = (λ i. one.strings i ++ more.strings i);
      })

  record IsSwitch (x : Option CExpr) (xs : Option (List CCase)) (s : CStmt) : Type 0 where
    value : CExpr
    cases : List CCase
    value_is : x ≡ Some value
    cases_are : xs ≡ Some cases
    is : stmt.Switch value cases ≡ s

  switch_of : (x : Option CExpr) (xs : Option (List CCase)) (s : CStmt) → switch_by x xs ≡ Some s → IsSwitch x xs s
  unfolding switch_by
  switch_of (Some value) (Some cases) s h = record { value = value; cases = cases; value_is = refl; cases_are = refl; is = cc }
  switch_of (Some value) None s h = absurd (cc)
  switch_of None xs s h = absurd (cc)

  -- a switch fits a value and the jumps of its cases
  switch_is : (n : ℕ) (t : Term) (ats : List CaseAt) (later : List Flat) (value : CExpr) (cases : List CCase) → IsDrawn o.names scope (strings_in o.names t) (linked value) t → AreCases (suc n) ats later cases
      → FitsUnlabelled n (Select t ats (suc n + length ats)) (take (length ats) later) (body (stmt.Switch value cases))
  unfolding strings_of_items strings_of_item
  switch_is n t ats later value cases is found =
      let ks = strings_in o.names t in
      let js = strings_of_items o.names (take (length ats) later) in
      let long = found.long in
      let room = found.room in
      let there : n + 1 + length cases ≡ suc n + length ats = omega (arith, long) in
      record {
        size = (let whole : 1 + length cases ≡ suc (length (take (length ats) later)) = omega (arith, long, room) in whole);
        strings = is.strings ∙ ap (map o.names.string) (sym (append-nil ks) ∙ ap (λ zs. ks ++ zs) (sym found.strings));
        marks = sym found.marks;
        drawn = λ first are'. (λ i. Select (is.drawn first (numbered_left first ks js are') i) (cases_from (plus_one n i) cases) (there i) ∷ case_jumps cases labels)
            ∙ (λ i. Select t (found.places i) (suc n + length ats) ∷ found.jumps i);
      }

  picked_fit : (write : Writer) → WriterFits write → (n : ℕ) (t : Term) (ats : List CaseAt) (later : List Flat) (ss : List CStmt) → switch_for o write n (expr_for o.names t) ats later ≡ Some ss → Knows scope o.names t
      → KnowsItems scope o.names later → Fits o scope labels n (Select t ats (suc n + length ats) ∷ later) (body_of_all ss)
  unfolding WriterFits switch_for
  picked_fit write fit n t ats later ss h value knows =
      let m = length ats in
      let item = Select t ats (suc n + m) in
      let made = switch_by (expr_for o.names t) (cases_for o (suc n) ats later) in
      let rest = write (suc n + m) (drop m later) in
      let b = before_by (option_map (with_label (o.label n)) made) rest ss h in
      let s = mapped_by (with_label (o.label n)) made b.first b.first_is in
      let w = switch_of (expr_for o.names t) (cases_for o (suc n) ats later) s.one s.one_is in
      let room = (cases_found (suc n) ats later w.cases w.cases_are).room in
      subst (λ zs. Fits o scope labels n (item ∷ zs) (body_of_all ss)) (take-append-drop m later)
      (first_fits n (suc n + m) item (take m later) (drop m later) made rest ss (omega (arith, room)) h
      (λ one is.
      let v = switch_of (expr_for o.names t) (cases_for o (suc n) ats later) one is in
      subst (λ z. FitsUnlabelled n item (take m later) (body z)) v.is
      (switch_is n t ats later v.value v.cases (expr_drawn scope o.names t v.value v.value_is value) (cases_found (suc n) ats later v.cases v.cases_are)))
      (λ others is. fit (suc n + m) (drop m later) others is (knows_drop scope o.names m later knows)))

  switch_fits : (write : Writer) → WriterFits write → (n : ℕ) (t : Term) (ats : List CaseAt) (otherwise : ℕ) (later : List Flat) (ss : List CStmt)
      → (if nat_eq otherwise (suc n + length ats) && are_case_numbers (map (λ (at : CaseAt). at.number) ats) then switch_for o write n (expr_for o.names t) ats later else None) ≡ Some ss → Knows scope o.names t → KnowsItems scope o.names later
      → Fits o scope labels n (Select t ats otherwise ∷ later) (body_of_all ss)
  switch_fits write fit n t ats otherwise later ss h value knows = by (nat_eq otherwise (suc n + length ats) && are_case_numbers (map (λ (at : CaseAt). at.number) ats)) refl h
    where
      by : (b : Bool) → nat_eq otherwise (suc n + length ats) && are_case_numbers (map (λ (at : CaseAt). at.number) ats) ≡ b → (if b then switch_for o write n (expr_for o.names t) ats later else None) ≡ Some ss
          → Fits o scope labels n (Select t ats otherwise ∷ later) (body_of_all ss)
      by true so g =
          let last : otherwise ≡ suc n + length ats = eqb-true otherwise (suc n + length ats) (and_parts _ _ so).0 in
          subst (λ p. Fits o scope labels n (Select t ats p ∷ later) (body_of_all ss)) (sym last) (picked_fit write fit n t ats later ss g value knows)
      by false so g = absurd (cc)

  -- ## An item that begins no loop

  item_fits : (write : Writer) → WriterFits write → (n : ℕ) (item : Flat) (later : List Flat) (ss : List CStmt) → item_for o write n item later ≡ Some ss → KnowsItem scope o.names item → KnowsItems scope o.names later
      → Fits o scope labels n (item ∷ later) (body_of_all ss)
  unfolding item_for
  item_fits write fit n (Branch t on off) later ss h known knows = test_fits write fit n on off t later ss h known knows
  item_fits write fit n (Assign t u) later ss h known knows = single_fits write fit n (Assign t u) later ss h known knows
  item_fits write fit n (Select t cases otherwise) later ss h known knows = switch_fits write fit n t cases otherwise later ss h known knows
  item_fits write fit n (Jump position) later ss h known knows = single_fits write fit n (Jump position) later ss h known knows
  item_fits write fit n (Invoke how callee arguments) later ss h known knows = single_fits write fit n (Invoke how callee arguments) later ss h known knows
  item_fits write fit n (Return value) later ss h known knows = single_fits write fit n (Return value) later ss h known knows
  item_fits write fit n ReturnAnswer later ss h known knows = single_fits write fit n ReturnAnswer later ss h known knows
  item_fits write fit n Nothing later ss h known knows = single_fits write fit n Nothing later ss h known knows
  item_fits write fit n Lost later ss h known knows = single_fits write fit n Lost later ss h known knows

  -- ## Loops

  place_is : (v t : Term) → same_place v t ≡ true → v ≡ t
  unfolding same_place
  place_is (Variable j ToNumber) (Variable k ToNumber) h = ap (λ n. Variable n ToNumber) (eqb-true j k h)
  place_is (Element (Array j ToNumber) (Constant (pos a))) (Element (Array k ToNumber) (Constant (pos b))) h =
      let one = eqb-true j k (left_true (nat_eq j k) (nat_eq a b) h) in
      let other = eqb-true a b (right_true (nat_eq j k) (nat_eq a b) h) in
      (λ i. Element (Array (one i) ToNumber) (Constant (pos (other i))))
  place_is (Prefixed prefix.Deref (Variable j (ToPointer ToNumber))) (Prefixed prefix.Deref (Variable k (ToPointer ToNumber))) h = ap (λ n. Prefixed prefix.Deref (Variable n (ToPointer ToNumber))) (eqb-true j k h)
  place_is (Element (Variable j (ToPointer ToNumber)) (Constant (pos a))) (Element (Variable k (ToPointer ToNumber)) (Constant (pos b))) h =
      let one = eqb-true j k (left_true (nat_eq j k) (nat_eq a b) h) in
      let other = eqb-true a b (right_true (nat_eq j k) (nat_eq a b) h) in
      (λ i. Element (Variable (one i) (ToPointer ToNumber)) (Constant (pos (other i))))
  place_is v t h = absurd (cc)

  no_string_at : (found : Option (List ℕ)) (name : List ℕ) (k : ℕ) → KnowsArray scope name found k ToNumber → string_at found k ≡ []
  unfolding string_at
  no_string_at None name k knows = refl
  no_string_at (Some bytes) name k knows = absurd (cc)

  place_has_none : (v t : Term) → same_place v t ≡ true → Knows scope o.names v → strings_in o.names v ≡ []
  unfolding same_place strings_in
  place_has_none (Variable j ToNumber) (Variable k ToNumber) h knows = refl
  place_has_none (Element (Array j ToNumber) (Constant (pos a))) (Element (Array k ToNumber) (Constant (pos b))) h knows = ap (λ zs. zs ++ []) (no_string_at (o.names.string j) (o.names.object j) j knows.0)
  place_has_none (Prefixed prefix.Deref (Variable j (ToPointer ToNumber))) (Prefixed prefix.Deref (Variable k (ToPointer ToNumber))) h knows = refl
  place_has_none (Element (Variable j (ToPointer ToNumber)) (Constant (pos a))) (Element (Variable k (ToPointer ToNumber)) (Constant (pos b))) h knows = refl
  place_has_none v t h knows = absurd (cc)

  -- what is done behind each turn, with the item that it is
  record IsNext (variable : Term) (item : Flat) (n : CNext) : Type 0 where
    drawn : IsDrawn o.names scope (strings_of_item o.names item) (next_item n) item

  up_is : (v : Term) (n : CNext) → option_map next.Up (expr_for o.names v) ≡ Some n → Knows scope o.names v → strings_in o.names v ≡ [] → IsNext v (Assign v (Between op.Add v (Constant (pos 1)))) n
  unfolding strings_of_item strings_in
  up_is v n h knows none =
      let m = mapped_by next.Up (expr_for o.names v) n h in
      let item : Term → Flat = λ term. Assign term (Between op.Add term (Constant (pos 1))) in
      let bare : strings_in o.names v ≡ strings_in o.names v ++ (strings_in o.names v ++ []) = none ∙ sym (λ i. none i ++ (none i ++ [])) in
      subst (IsNext v (item v)) m.is
      (record { drawn = subst (λ ks. IsDrawn o.names scope ks (drafted item (linked m.one)) (item v)) bare (drawn_by o.names scope (strings_in o.names v) item (linked m.one) v (expr_drawn scope o.names v m.one m.one_is knows)) })

  record AreAdded (x y : Option CExpr) (n : CNext) : Type 0 where
    variable : CExpr
    amount : CExpr
    variable_is : x ≡ Some variable
    amount_is : y ≡ Some amount
    is : next.Add variable amount ≡ n

  added_of : (x y : Option CExpr) (n : CNext) → added_by x y ≡ Some n → AreAdded x y n
  unfolding added_by
  added_of (Some a) (Some b) n h = record { variable = a; amount = b; variable_is = refl; amount_is = refl; is = cc }
  added_of (Some a) None n h = absurd (cc)
  added_of None y n h = absurd (cc)

  add_is : (v amount : Term) (n : CNext) → added_by (expr_for o.names v) (expr_for o.names amount) ≡ Some n → Knows scope o.names v → Knows scope o.names amount → strings_in o.names v ≡ []
      → IsNext v (Assign v (Between op.Add v amount)) n
  unfolding strings_of_item strings_in
  add_is v amount n h knows knows' none =
      let m = added_of (expr_for o.names v) (expr_for o.names amount) n h in
      let item : Term → Term → Flat = λ term more. Assign term (Between op.Add term more) in
      let ks = strings_in o.names v in
      let js = strings_in o.names amount in
      let bare : ks ++ js ≡ ks ++ (ks ++ js) = (λ i. none i ++ js) ∙ sym (λ i. none i ++ (none i ++ js)) in
      subst (IsNext v (item v amount)) m.is
      (record {
        drawn = subst (λ zs. IsDrawn o.names scope zs (joined item (linked m.variable) (linked m.amount)) (item v amount)) bare
            (drawn_both o.names scope ks js item (linked m.variable) (linked m.amount) v amount (expr_drawn scope o.names v m.variable m.variable_is knows) (expr_drawn scope o.names amount m.amount m.amount_is knows'));
      })

  next_is : (v amount : Term) (n : CNext) → next_by o.names v amount ≡ Some n → Knows scope o.names v → Knows scope o.names amount → strings_in o.names v ≡ [] → IsNext v (Assign v (Between op.Add v amount)) n
  unfolding next_by
  next_is v (Constant (pos (suc zero))) n h knows knows' none = up_is v n h knows none
  next_is v amount n h knows knows' none = add_is v amount n h knows knows' none

  -- the item behind the turn
  record NextItem (v : Term) (found : Option Flat) (n : CNext) : Type 0 where
    item : Flat
    at : found ≡ Some item
    next : IsNext v item n

  next_found : (v : Term) (found : Option Flat) (n : CNext) → next_for o.names v found ≡ Some n → Knows scope o.names v → ((item : Flat) → found ≡ Some item → KnowsItem scope o.names item) → NextItem v found n
  unfolding next_for
  next_found v (Some (Assign t (Between op.Add u amount))) n h knows knows' = by (same_place v t && same_place v u) refl h
    where
      by : (b : Bool) → same_place v t && same_place v u ≡ b → (if b then next_by o.names v amount else None) ≡ Some n → NextItem v (Some (Assign t (Between op.Add u amount))) n
      by true so g =
          let one = place_is v t (left_true (same_place v t) (same_place v u) so) in
          let other = place_is v u (right_true (same_place v t) (same_place v u) so) in
          let none = place_has_none v t (left_true (same_place v t) (same_place v u) so) knows in
          let known = knows' (Assign t (Between op.Add u amount)) refl in
          record {
            item = Assign t (Between op.Add u amount);
            at = refl;
            next = subst (λ w. IsNext v (Assign w (Between op.Add u amount)) n) one (subst (λ w. IsNext v (Assign v (Between op.Add w amount)) n) other (next_is v amount n g knows known.1.1 none));
          }
      by false so g = absurd (cc)
  next_found v found n h knows knows' = absurd (cc)

  for_fits : (n size : ℕ) (v first test : Term) (item : Flat) (turn : List Flat) (a b c : CExpr) (nx : CNext) (ss : List CStmt) → length turn ≡ size → IsDrawn o.names scope (strings_in o.names v) (linked a) v
      → IsDrawn o.names scope (strings_in o.names first) (linked b) first → IsDrawn o.names scope (strings_in o.names test) (linked c) test → IsNext v item nx → Fits o scope labels (suc (suc n)) turn (body_of_all ss)
      → o.label (suc n) ≡ None → o.label (suc (suc n) + size) ≡ None → o.label (suc (suc (suc n) + size)) ≡ None
      → FitsUnlabelled n (Assign v first) (Branch test (suc (suc n)) (suc (suc n) + suc (suc size)) ∷ (turn ++ item ∷ Jump (suc n) ∷ [])) (body (stmt.For a b c nx ss))
  unfolding strings_of_items strings_of_item
  for_fits n size v first test item turn a b c nx ss long da db dc dn fits bare bare' bare'' =
      let whole = body_of_all ss in
      let sized = fits.size in
      let behind = item ∷ Jump (suc n) ∷ [] in
      let ks = strings_in o.names v ++ strings_in o.names first in
      let js = strings_in o.names test in
      let hs = strings_of_items o.names turn in
      let gs = strings_of_item o.names item in
      let start = (linked a).strings ++ (linked b).strings in
      let all : ks ++ (js ++ strings_of_items o.names (turn ++ behind)) ≡ ks ++ ((js ++ hs) ++ gs) =
      ap (λ zs. ks ++ (js ++ zs)) (strings_append o.names turn behind ∙ ap (λ zs. hs ++ zs) (append-nil gs)) ∙ ap (λ zs. ks ++ zs) (sym (append_assoc js hs gs)) in
      let first_bytes = bytes_both o.names (linked a).strings (linked b).strings (strings_in o.names v) (strings_in o.names first) da.strings db.strings in
      let two_bytes = bytes_both o.names (linked c).strings whole.items.strings js hs dc.strings fits.strings in
      let on : n + 1 + 1 ≡ suc (suc n) = omega arith in
      let back : n + 1 ≡ suc n = omega arith in
      let off : n + 1 + 3 + whole.size ≡ suc (suc n) + suc (suc size) = omega (arith, sized, long) in
      let two : n + 2 ≡ suc (suc n) = omega arith in
      subst (FitsUnlabelled n (Assign v first) (Branch test (suc (suc n)) (suc (suc n) + suc (suc size)) ∷ (turn ++ behind))) (sym (body-For a b c nx ss)) (record {
        size = (let counted = length-append turn behind in let total : 4 + whole.size ≡ suc (suc (length (turn ++ behind))) = omega (arith, sized, counted) in total);
        strings = bytes_both o.names start (((linked c).strings ++ whole.items.strings) ++ (next_item nx).strings) ks ((js ++ hs) ++ gs) first_bytes
            (bytes_both o.names ((linked c).strings ++ whole.items.strings) (next_item nx).strings (js ++ hs) gs two_bytes dn.drawn.strings) ∙ sym (ap (map o.names.string) all);
        marks = ap whole.labels two ∙ fits.marks ∙ sym (append-nil (marks_from o.label (suc (suc n)) turn))
            ∙ ap (λ l. marks_from o.label (suc (suc n)) turn ++ (mark_at (suc (suc (suc n) + size)) l ++ [])) (sym bare'')
            ∙ ap (λ l. marks_from o.label (suc (suc n)) turn ++ (mark_at (suc (suc n) + size) l ++ (mark_at (suc (suc (suc n) + size)) (o.label (suc (suc (suc n) + size))) ++ []))) (sym bare')
            ∙ sym (marks_append o.label (suc (suc n)) (suc (suc n) + size) turn behind (omega (arith, long)))
            ∙ ap (λ l. mark_at (suc n) l ++ marks_from o.label (suc (suc n)) (turn ++ behind)) (sym bare);
        drawn = λ k are'.
            let numbered = subst (AreNumbered k) all are' in
            let here = numbered_left k ks ((js ++ hs) ++ gs) numbered in
            let later = behind_both o.names k start ks ((js ++ hs) ++ gs) first_bytes numbered in
            let k1 = k + length start in
            let front = numbered_left k1 (js ++ hs) gs later in
            let last = behind_both o.names k1 ((linked c).strings ++ whole.items.strings) (js ++ hs) gs two_bytes later in
            (λ i. Assign (da.drawn k (numbered_left k (strings_in o.names v) (strings_in o.names first) here) i)
            (db.drawn (k + length (linked a).strings) (behind_both o.names k (linked a).strings (strings_in o.names v) (strings_in o.names first) da.strings here) i)
            ∷ Branch (dc.drawn k1 (numbered_left k1 js hs front) i) (on i) (off i)
            ∷ (whole.items.drawn scope (k1 + length (linked c).strings) labels (on i) ++ dn.drawn.drawn (k1 + length ((linked c).strings ++ whole.items.strings)) last i ∷ Jump (back i) ∷ []))
            ∙ ap (λ zs. Assign v first ∷ Branch test (suc (suc n)) (suc (suc n) + suc (suc size)) ∷ (zs ++ behind))
            (fits.drawn (k1 + length (linked c).strings) (behind_both o.names k1 (linked c).strings js hs dc.strings front));
      })

  record IsFor (x y z : Option CExpr) (m : Option CNext) (xs : Option (List CStmt)) (s : CStmt) : Type 0 where
    variable : CExpr
    first : CExpr
    test : CExpr
    next : CNext
    turn : List CStmt
    variable_is : x ≡ Some variable
    first_is : y ≡ Some first
    test_is : z ≡ Some test
    next_is : m ≡ Some next
    turn_is : xs ≡ Some turn
    is : stmt.For variable first test next turn ≡ s

  for_of : (x y z : Option CExpr) (m : Option CNext) (xs : Option (List CStmt)) (s : CStmt) → for_by x y z m xs ≡ Some s → IsFor x y z m xs s
  unfolding for_by
  for_of (Some a) (Some b) (Some c) (Some d) (Some e) s h = record { variable = a; first = b; test = c; next = d; turn = e; variable_is = refl; first_is = refl; test_is = refl; next_is = refl; turn_is = refl; is = cc }
  for_of x y z m xs s h = absurd (cc)

  back_is : (n : ℕ) (found : Option Flat) → goes_back n found ≡ true → found ≡ Some (Jump n)
  unfolding goes_back
  back_is n (Some (Jump position)) h = ap (λ p. Some (Jump p)) (eqb-true position n h)
  back_is n found h = absurd (cc)

  -- two items in their places
  around_two : (m : ℕ) (xs : List Flat) (one other : Flat) → slice_get xs m ≡ Some one → slice_get xs (suc m) ≡ Some other → xs ≡ take m xs ++ one ∷ other ∷ drop (suc (suc m)) xs
  around_two zero [] one other at at' = absurd (cc)
  around_two zero (x ∷ []) one other at at' = absurd (cc)
  around_two zero (x ∷ y ∷ xs) one other at at' = (λ i. some_same x one at i ∷ some_same y other at' i ∷ xs)
  around_two (suc m) [] one other at at' = absurd (cc)
  around_two (suc m) (x ∷ xs) one other at at' = ap (λ ys. x ∷ ys) (around_two m xs one other at at')

  knows_at : (m : ℕ) (xs : List Flat) (item : Flat) → KnowsItems scope o.names xs → slice_get xs m ≡ Some item → KnowsItem scope o.names item
  knows_at m [] item knows at = absurd (cc)
  knows_at zero (x ∷ xs) item knows at = subst (KnowsItem scope o.names) (some_same x item at) knows.0
  knows_at (suc m) (x ∷ xs) item knows at = knows_at m xs item knows.1 at

  loop_found : (write : Writer) → WriterFits write → (n size : ℕ) (v first test : Term) (later : List Flat) (ss : List CStmt) → suc (suc size) ≤ length later → slice_get later (suc size) ≡ Some (Jump (suc n))
      → o.label (suc n) ≡ None → o.label (suc (suc n) + size) ≡ None → o.label (suc (suc (suc n) + size)) ≡ None
      → before (option_map (with_label (o.label n)) (for_by (expr_for o.names v) (expr_for o.names first) (expr_for o.names test) (next_for o.names v (slice_get later size)) (write (suc (suc n)) (take size later))))
      (write (suc (suc n) + suc (suc size)) (drop (suc (suc size)) later)) ≡ Some ss
      → Knows scope o.names v → Knows scope o.names first → Knows scope o.names test → KnowsItems scope o.names later
      → Fits o scope labels n (Assign v first ∷ Branch test (suc (suc n)) (suc (suc n) + suc (suc size)) ∷ later) (body_of_all ss)
  unfolding WriterFits
  loop_found write fit n size v first test later ss room back bare bare' bare'' h kv kf kt knows =
      let turn = take size later in
      let rest = drop (suc (suc size)) later in
      let off = suc (suc n) + suc (suc size) in
      let long : length turn ≡ size = length-take-le size later (omega (arith, room)) in
      let made = for_by (expr_for o.names v) (expr_for o.names first) (expr_for o.names test) (next_for o.names v (slice_get later size)) (write (suc (suc n)) (take size later)) in
      let b = before_by (option_map (with_label (o.label n)) made) (write off rest) ss h in
      let s = mapped_by (with_label (o.label n)) made b.first b.first_is in
      let f = for_of (expr_for o.names v) (expr_for o.names first) (expr_for o.names test) (next_for o.names v (slice_get later size)) (write (suc (suc n)) (take size later)) s.one s.one_is in
      let nx = next_found v (slice_get later size) f.next f.next_is kv (λ item at. knows_at size later item knows at) in
      let behind = nx.item ∷ Jump (suc n) ∷ [] in
      let inner = Branch test (suc (suc n)) off ∷ (turn ++ behind) in
      let counted = length-append turn behind in
      let whole : (turn ++ behind) ++ rest ≡ later = append_assoc turn behind rest ∙ sym (around_two size later nx.item (Jump (suc n)) nx.at back) in
      subst (λ zs. Fits o scope labels n (Assign v first ∷ Branch test (suc (suc n)) off ∷ zs) (body_of_all ss)) whole
      (first_fits n off (Assign v first) inner rest made (write off rest) ss (omega (arith, counted, long)) h
      (λ one is.
      let g = for_of (expr_for o.names v) (expr_for o.names first) (expr_for o.names test) (next_for o.names v (slice_get later size)) (write (suc (suc n)) (take size later)) one is in
      let ny = next_found v (slice_get later size) g.next g.next_is kv (λ item at. knows_at size later item knows at) in
      let same : ny.item ≡ nx.item = some_same ny.item nx.item (sym ny.at ∙ nx.at) in
      subst (λ z. FitsUnlabelled n (Assign v first) inner (body z)) g.is
      (for_fits n size v first test nx.item turn g.variable g.first g.test g.next g.turn long (expr_drawn scope o.names v g.variable g.variable_is kv) (expr_drawn scope o.names first g.first g.first_is kf)
      (expr_drawn scope o.names test g.test g.test_is kt) (subst (λ it. IsNext v it g.next) same ny.next) (fit (suc (suc n)) turn g.turn g.turn_is (knows_take scope o.names size later knows)) bare bare' bare''))
      (λ others is. fit off rest others is (knows_drop scope o.names (suc (suc size)) later knows)))

  head_fits : (write : Writer) → WriterFits write → (n size : ℕ) (v first : Term) (later : List Flat) (ss : List CStmt) → head_for o write n size v first later ≡ Some ss → KnowsItem scope o.names (Assign v first)
      → KnowsItems scope o.names later → Fits o scope labels n (Assign v first ∷ later) (body_of_all ss)
  unfolding head_for is_loop
  head_fits write fit n size v first (Branch test on off ∷ later) ss h known knows = by (is_loop o n size on off later) refl h
    where
      by : (b : Bool) → is_loop o n size on off later ≡ b
          → (if b then
          before (option_map (with_label (o.label n)) (for_by (expr_for o.names v) (expr_for o.names first) (expr_for o.names test) (next_for o.names v (slice_get later size)) (write (suc (suc n)) (take size later))))
          (write (suc (suc n) + suc (suc size)) (drop (suc (suc size)) later))
          else None) ≡ Some ss → Fits o scope labels n (Assign v first ∷ Branch test on off ∷ later) (body_of_all ss)
      by true so g =
          let r1 = right_true _ _ so in
          let r2 = right_true _ _ r1 in
          let r3 = right_true _ _ r2 in
          let r4 = right_true _ _ r3 in
          let r5 = right_true _ _ r4 in
          let first_on : on ≡ suc (suc n) = eqb-true on (suc (suc n)) (left_true _ _ so) in
          let last_off : off ≡ suc (suc n) + suc (suc size) = eqb-true off (suc (suc n) + suc (suc size)) (left_true _ _ r1) in
          let room = leb-true (suc (suc size)) (length later) (left_true _ _ r2) in
          let back = back_is (suc n) (slice_get later (suc size)) (left_true _ _ r3) in
          subst (λ p. Fits o scope labels n (Assign v first ∷ Branch test p off ∷ later) (body_of_all ss)) (sym first_on)
          (subst (λ p. Fits o scope labels n (Assign v first ∷ Branch test (suc (suc n)) p ∷ later) (body_of_all ss)) (sym last_off)
          (loop_found write fit n size v first test later ss room back (is_bare (o.label (suc n)) (left_true _ _ r4)) (is_bare (o.label (suc (suc n) + size)) (left_true _ _ r5))
          (is_bare (o.label (suc (suc (suc n) + size))) (right_true _ _ r5)) g known.0 known.1 knows.0 knows.1))
      by false so g = absurd (cc)
  head_fits write fit n size v first later ss h known knows = absurd (cc)

  -- ## Loops that are tested behind the turn

  -- a statement for an item, and those for the items behind it
  with_later : (n : ℕ) (item : Flat) (inner : List Flat) (b c : Body) → FitsUnlabelled n item [] b → Fits o scope labels (suc n) inner c → FitsUnlabelled n item inner (sequence b c)
  with_later n item inner b c one other =
      let first_size = one.size in
      let later_size = other.size in
      let xs = item ∷ [] in
      let ks = strings_of_items o.names xs in
      let js = strings_of_items o.names inner in
      let there : n + b.size ≡ suc n = omega (arith, first_size) in
      record {
        size = (let whole : b.size + c.size ≡ suc (length inner) = omega (arith, first_size, later_size) in whole);
        strings = bytes_both o.names b.items.strings c.items.strings ks js one.strings other.strings ∙ sym (ap (map o.names.string) (strings_append o.names xs inner));
        marks = (λ i. one.marks i ++ c.labels (there i)) ∙ other.marks;
        drawn = λ first are'.
            let both = subst (AreNumbered first) (strings_append o.names xs inner) are' in
            (λ i. one.drawn first (numbered_left first ks js both) i ++ c.items.drawn scope (first + length b.items.strings) labels (there i))
            ∙ ap (λ zs. item ∷ zs) (other.drawn (first + length b.items.strings) (behind_both o.names first b.items.strings ks js one.strings both));
      }

  -- a turn, and the test behind it
  turn_fits : (m size : ℕ) (test : Term) (turn : List Flat) (c : CExpr) (ss : List CStmt) → length turn ≡ size → IsDrawn o.names scope (strings_in o.names test) (linked c) test → Fits o scope labels m turn (body_of_all ss)
      → o.label (m + size) ≡ None → Fits o scope labels m (turn ++ Branch test m (suc (m + size)) ∷ []) (do_while (body_of_all ss) c)
  unfolding strings_of_items strings_of_item
  turn_fits m size test turn c ss long dc fits bare =
      let whole = body_of_all ss in
      let sized = fits.size in
      let behind = Branch test m (suc (m + size)) ∷ [] in
      let hs = strings_of_items o.names turn in
      let js = strings_in o.names test in
      let all : strings_of_items o.names (turn ++ behind) ≡ hs ++ js = strings_append o.names turn behind ∙ ap (λ zs. hs ++ zs) (append-nil js) in
      let off : m + whole.size + 1 ≡ suc (m + size) = omega (arith, sized, long) in
      record {
        size = (let counted = length-append turn behind in let total : whole.size + 1 ≡ length (turn ++ behind) = omega (arith, sized, counted) in total);
        strings = bytes_both o.names whole.items.strings (linked c).strings hs js fits.strings dc.strings ∙ sym (ap (map o.names.string) all);
        marks = fits.marks ∙ sym (append-nil (marks_from o.label m turn)) ∙ ap (λ l. marks_from o.label m turn ++ (mark_at (m + size) l ++ [])) (sym bare)
            ∙ sym (marks_append o.label m (m + size) turn behind (omega (arith, long)));
        drawn = λ k are'.
            let numbered = subst (AreNumbered k) all are' in
            (λ i. fits.drawn k (numbered_left k hs js numbered) i
            ++ Branch (dc.drawn (k + length whole.items.strings) (behind_both o.names k whole.items.strings hs js fits.strings numbered) i) m (off i) ∷ []);
      }

  -- the last of some statements
  last_fits : (m : ℕ) (items : List Flat) (s : CStmt) → Fits o scope labels m items (body s) → Fits o scope labels m items (body_of_all (s ∷ []))
  last_fits m items s fits =
      subst (λ zs. Fits o scope labels m zs (body_of_all (s ∷ []))) (append-nil items) (both_fit m (m + length items) items [] (body s) (body_of_all []) refl fits (nothing_fits (m + length items)))

  do_fits : (n size : ℕ) (v first test : Term) (turn : List Flat) (a b c : CExpr) (ss : List CStmt) → length turn ≡ size → FitsUnlabelled n (Assign v first) [] (body (stmt.Set a b))
      → IsDrawn o.names scope (strings_in o.names test) (linked c) test → Fits o scope labels (suc n) turn (body_of_all ss) → o.label (suc n + size) ≡ None
      → FitsUnlabelled n (Assign v first) (turn ++ Branch test (suc n) (suc (suc n + size)) ∷ []) (body (stmt.Block (stmt.Set a b ∷ stmt.DoWhile ss c ∷ [])))
  do_fits n size v first test turn a b c ss long set dc fits bare =
      let items = turn ++ Branch test (suc n) (suc (suc n + size)) ∷ [] in
      subst (FitsUnlabelled n (Assign v first) items) (sym (body-Block (stmt.Set a b ∷ stmt.DoWhile ss c ∷ [])))
      (with_later n (Assign v first) items (body (stmt.Set a b)) (body_of_all (stmt.DoWhile ss c ∷ [])) set
      (last_fits (suc n) items (stmt.DoWhile ss c) (subst (Fits o scope labels (suc n) items) (sym (body-DoWhile ss c)) (turn_fits (suc n) size test turn c ss long dc fits bare))))

  record IsDo (x y : Option CExpr) (xs : Option (List CStmt)) (z : Option CExpr) (s : CStmt) : Type 0 where
    variable : CExpr
    first : CExpr
    turn : List CStmt
    test : CExpr
    variable_is : x ≡ Some variable
    first_is : y ≡ Some first
    turn_is : xs ≡ Some turn
    test_is : z ≡ Some test
    is : stmt.Block (stmt.Set variable first ∷ stmt.DoWhile turn test ∷ []) ≡ s

  do_of : (x y : Option CExpr) (xs : Option (List CStmt)) (z : Option CExpr) (s : CStmt) → do_by x y xs z ≡ Some s → IsDo x y xs z s
  unfolding do_by
  do_of (Some a) (Some b) (Some turn) (Some c) s h = record {
    variable = a;
    first = b;
    turn = turn;
    test = c;
    variable_is = refl;
    first_is = refl;
    turn_is = refl;
    test_is = refl;
    is = some_same (stmt.Block (stmt.Set a b ∷ stmt.DoWhile turn c ∷ [])) s h;
  }
  do_of x y xs z s h = absurd (cc)

  both_set : (a b : CExpr) → set_by (Some a) (Some b) ≡ Some (stmt.Set a b)
  unfolding set_by
  both_set a b = refl

  -- the test behind a turn
  record IsTestBehind (n size : ℕ) (found : Option Flat) : Type 0 where
    test : Term
    at : found ≡ Some (Branch test (suc n) (suc (suc n + size)))
    bare : o.label (suc n + size) ≡ None

  test_found : (n size : ℕ) (found : Option Flat) → tests_turn o n size found ≡ true → IsTestBehind n size found
  unfolding tests_turn
  test_found n size (Some (Branch test on off)) h =
      let more = right_true _ _ h in
      let first_on : on ≡ suc n = eqb-true on (suc n) (left_true _ _ h) in
      let last_off : off ≡ suc (suc n + size) = eqb-true off (suc (suc n + size)) (left_true _ _ more) in
      record { test = test; at = (λ i. Some (Branch test (first_on i) (last_off i))); bare = is_bare (o.label (suc n + size)) (right_true _ _ more) }
  test_found n size found h = absurd (cc)

  inside : (m : ℕ) (xs : List Flat) (item : Flat) → slice_get xs m ≡ Some item → suc m ≤ length xs
  inside m [] item at = absurd (cc)
  inside zero (x ∷ xs) item at = omega arith
  inside (suc m) (x ∷ xs) item at = let less = inside m xs item at in omega (arith, less)

  tested_by : (found : Option Flat) (test : Term) (on off : ℕ) (c : CExpr) → found ≡ Some (Branch test on off) → test_in o.names found ≡ Some c → expr_for o.names test ≡ Some c
  unfolding test_in
  tested_by found test on off c at is = sym (ap (test_in o.names) at) ∙ is

  do_found : (write : Writer) → WriterFits write → (n size : ℕ) (v first : Term) (later : List Flat) (ss : List CStmt) → IsTestBehind n size (slice_get later size) → do_for o write n size v first later ≡ Some ss
      → Knows scope o.names v → Knows scope o.names first → KnowsItems scope o.names later → Fits o scope labels n (Assign v first ∷ later) (body_of_all ss)
  unfolding WriterFits do_for
  do_found write fit n size v first later ss found h kv kf knows =
      let turn = take size later in
      let rest = drop (suc size) later in
      let off = suc (suc n + size) in
      let item = Branch found.test (suc n) off in
      let room = inside size later item found.at in
      let long : length turn ≡ size = length-take-le size later (omega (arith, room)) in
      let counted = length-append turn (item ∷ []) in
      let whole : (turn ++ item ∷ []) ++ rest ≡ later = append_assoc turn (item ∷ []) rest ∙ sym (around size later item found.at) in
      let made = do_by (expr_for o.names v) (expr_for o.names first) (write (suc n) turn) (test_in o.names (slice_get later size)) in
      subst (λ zs. Fits o scope labels n (Assign v first ∷ zs) (body_of_all ss)) whole
      (first_fits n off (Assign v first) (turn ++ item ∷ []) rest made (write off rest) ss (omega (arith, counted, long)) h
      (λ s is.
      let d = do_of (expr_for o.names v) (expr_for o.names first) (write (suc n) turn) (test_in o.names (slice_get later size)) s is in
      let test_is = tested_by (slice_get later size) found.test (suc n) off d.test found.at d.test_is in
      let set = set_fits n v first (stmt.Set d.variable d.first) ((λ i. set_by (d.variable_is i) (d.first_is i)) ∙ both_set d.variable d.first) (kv, kf) in
      subst (λ z. FitsUnlabelled n (Assign v first) (turn ++ item ∷ []) (body z)) d.is
      (do_fits n size v first found.test turn d.variable d.first d.test d.turn long set (expr_drawn scope o.names found.test d.test test_is (knows_at size later item knows found.at))
      (fit (suc n) turn d.turn d.turn_is (knows_take scope o.names size later knows)) found.bare))
      (λ others is. fit off rest others is (knows_drop scope o.names (suc size) later knows)))

  loop_fits : (write : Writer) → WriterFits write → (n size : ℕ) (item : Flat) (later : List Flat) (ss : List CStmt) → loop_for o write n size item later ≡ Some ss → KnowsItem scope o.names item → KnowsItems scope o.names later
      → Fits o scope labels n (item ∷ later) (body_of_all ss)
  unfolding loop_for
  loop_fits write fit n size (Assign v first) later ss h known knows = by (tests_turn o n size (slice_get later size)) refl h
    where
      by : (b : Bool) → tests_turn o n size (slice_get later size) ≡ b → (if b then do_for o write n size v first later else head_for o write n size v first later) ≡ Some ss
          → Fits o scope labels n (Assign v first ∷ later) (body_of_all ss)
      by true so g = do_found write fit n size v first later ss (test_found n size (slice_get later size) so) g known.0 known.1 knows
      by false so g = head_fits write fit n size v first later ss g known knows
  loop_fits write fit n size item later ss h known knows = absurd (cc)

  part_fits : (write : Writer) → WriterFits write → (found : Option ℕ) (n : ℕ) (item : Flat) (later : List Flat) (ss : List CStmt) → part_for o write found n item later ≡ Some ss → KnowsItem scope o.names item
      → KnowsItems scope o.names later → Fits o scope labels n (item ∷ later) (body_of_all ss)
  unfolding part_for
  part_fits write fit None n item later ss h known knows = item_fits write fit n item later ss h known knows
  part_fits write fit (Some size) n item later ss h known knows = loop_fits write fit n size item later ss h known knows

  pub all_fit : (turns n : ℕ) (items : List Flat) (ss : List CStmt) → statements_for o turns n items ≡ Some ss → KnowsItems scope o.names items → Fits o scope labels n items (body_of_all ss)
  unfolding statements_for WriterFits
  all_fit turns n [] ss h knows = subst (λ zs. Fits o scope labels n [] (body_of_all zs)) (some_same [] ss h) (nothing_fits n)
  all_fit zero n (item ∷ later) ss h knows = absurd (cc)
  all_fit (suc turns) n (item ∷ later) ss h knows = part_fits (statements_for o turns) (λ m items rest is known. all_fit turns m items rest is known) (o.loop n) n item later ss h knows.0 knows.1

pub statements_are_theirs : StatementsAreTheirs
statements_are_theirs o scope labels turns n items ss are h knows = all_fit o scope labels are turns n items ss h knows
