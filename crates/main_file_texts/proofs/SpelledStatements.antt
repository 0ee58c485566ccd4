-- Tokens that spell the statements that are built, each of whose jumps goes where a label is said to stand.
use Rattle.std.specs.Prelude.{◌≡◌, ℕ, zero, suc, ◌+◌, ◌-◌, ◌≤◌, ℤ, pos, nat_eq, nat_le, Bool, true, false, ◌&&◌, List, [], ◌∷◌, ◌++◌, map, length, take, drop, codes, Option, Some, None, is_none, option_map, slice_get, if◌then◌else◌}
use Rattle.std.proofs.Common.{refl, sym, ap, subst, arith}
use Rattle.std.proofs.lemmas.Bool.{and_parts}
use Rattle.main_translation_laws.specs.c_tree.declared.expression.CExpr.{CExpr}
use Rattle.main_translation_laws.specs.c_tree.declared.expression.BinaryOp.TheVariants as op
use Rattle.main_translation_laws.specs.c_tree.declared.statement.CCase.{CCase}
use Rattle.main_translation_laws.specs.c_tree.declared.statement.CNext.{CNext}
use Rattle.main_translation_laws.specs.c_tree.declared.statement.CNext.TheVariants as next
use Rattle.main_translation_laws.specs.c_tree.declared.statement.CStmt.{CStmt}
use Rattle.main_translation_laws.specs.c_tree.declared.statement.CStmt.TheVariants as stmt
use Rattle.main_translation_laws.specs.c_tree.Tokens.{Token, Word, Digits, Sign}
use Rattle.main_translation_laws.specs.c_tree.CWords.{Separated, last_item, one_item, is_among, is_name}
use Rattle.main_translation_laws.specs.c_tree.CLabels.{labels_of, labels_of_all}
use Rattle.main_translation_laws.specs.c_tree.CExpressionText.{Scope, ReadsExpr, ReadsArguments, no_argument, some_arguments, ReadsCall, by_name, through_a_parameter}
use Rattle.main_translation_laws.specs.c_tree.CStatementText.{ReadsCases, no_case, one_case, has_twice, case_numbers, ReadsNext, up, added, for_head, tested, ReadsStmt, assigned, assigned_call, called, empty, a_block, labelled, jump, returned, returned_value, if_only, if_else, switched, repeated_for, repeated_do, ReadsStmts, closed, one_more}
use Rattle.main_translation_laws.specs.c_tree.Drafts as linking
use Rattle.main_translation_laws.specs.c_tree.Access.{ToFunction}
use Rattle.main_translation_laws.specs.c_tree.Terms.{Term, Constant, Variable, Between}
use Rattle.main_translation_laws.specs.c_tree.Flat.{Flat, Assign, Branch, Select, Jump, Invoke, Return, ReturnAnswer, Nothing, Lost, Ignored, Kept, Returned, Direct, Through, Nowhere, CaseAt}
use Rattle.main_translation_laws.specs.c_structure.Expressions as expressions
use Rattle.main_translation_laws.specs.c_structure.Expressions.{Names, expr_for, exprs_for}
use Rattle.main_translation_laws.specs.c_structure.Statements.{Outline, set_by, call_by, set_call_by, statement_of, with_label, before, if_by, if_else_by, end_of_arm, Writer, if_for, if_else_for, arms_for, branch_for, case_by, case_for, before_cases, cases_for, are_case_numbers, switch_by, switch_for, item_for, same_place, added_by, next_by, next_for, for_by, is_loop, head_for, tests_turn, test_in, do_by, do_for, loop_for, part_for, statements_for}
use Rattle.main_translation_laws.specs.c_structure_laws.Fitting.{Knows, KnowsAll, KnowsItem, KnowsItems}
use Rattle.main_translation_laws.proofs.c_structure_laws.DrawnExpressions.{some_same}
use Rattle.main_file_texts.specs.WellFormedMains.{IsSpelled, Agrees, HasNoField, HaveNoField, and_term, ItemHasNoField, ItemsHaveNoField, AllStand, StatementsAreSpelled, AreSpelled}
use Rattle.main_file_texts.proofs.SpelledTerms.{anywhere, term_spelled}
use Rattle.main_file_texts.proofs.CaseNumbers.{HasDigits, digits_of, none_twice}
use Rattle.main_file_texts.proofs.TreeLabels.{labels_block, labels_label, labels_if, labels_if_else, labels_switch, labels_for, labels_do}

-- ## Labels that are named

stand_both : (label : ℕ → Option (List ℕ)) (xs ys : List (List ℕ)) → AllStand label xs → AllStand label ys → AllStand label (xs ++ ys)
stand_both label [] ys one other = other
stand_both label (x ∷ xs) ys one other = (one.0, stand_both label xs ys one.1 other)

-- ## Items in their places

module _ (links : linking.Scope) (names : Names) where
  -- an item whose names are known, and that takes no fields
  abbrev ItemIsPlain : Flat → Type 0
  ItemIsPlain item = KnowsItem links names item × ItemHasNoField item

  abbrev ItemsArePlain : List Flat → Type 0
  ItemsArePlain [] = Unit {0}
  ItemsArePlain (item ∷ later) = ItemIsPlain item × ItemsArePlain later

  plain_items : (items : List Flat) → KnowsItems links names items → ItemsHaveNoField items → ItemsArePlain items
  plain_items [] knows none = tt
  plain_items (item ∷ later) knows none = ((knows.0, none.0), plain_items later knows.1 none.1)

  plain_take : (m : ℕ) (xs : List Flat) → ItemsArePlain xs → ItemsArePlain (take m xs)
  plain_take zero xs are = tt
  plain_take (suc m) [] are = tt
  plain_take (suc m) (x ∷ xs) are = (are.0, plain_take m xs are.1)

  plain_drop : (m : ℕ) (xs : List Flat) → ItemsArePlain xs → ItemsArePlain (drop m xs)
  plain_drop zero xs are = are
  plain_drop (suc m) [] are = tt
  plain_drop (suc m) (x ∷ xs) are = plain_drop m xs are.1

  plain_at : (m : ℕ) (xs : List Flat) (item : Flat) → ItemsArePlain xs → slice_get xs m ≡ Some item → ItemIsPlain item
  plain_at m [] item are at = absurd (cc)
  plain_at zero (x ∷ xs) item are at = subst ItemIsPlain (some_same x item at) are.0
  plain_at (suc m) (x ∷ xs) item are at = plain_at m xs item are.1 at

module _ (o : Outline) (scope : Scope) (links : linking.Scope) (agrees : Agrees links scope) (words : (n : ℕ) (name : List ℕ) → o.label n ≡ Some name → is_name name ≡ true) where
  term_is : (t : Term) (e : CExpr) → expr_for o.names t ≡ Some e → Knows links o.names t → HasNoField t → IsSpelled (ReadsExpr scope 0 e)
  term_is t e h knows none = term_spelled scope links o.names agrees t e h knows none

  -- a statement that tokens spell, each of whose jumps goes where a label is said to stand
  record IsFine (s : CStmt) : Type 0 where
    text : IsSpelled (ReadsStmt scope s)
    named : AllStand o.label (labels_of s).named

  record AreFine (ss : List CStmt) : Type 0 where
    text : IsSpelled (ReadsStmts scope ss)
    named : AllStand o.label (labels_of_all ss).named

  nothing_fine : AreFine []
  nothing_fine = record { text = record { from = λ behind. Sign (codes "}") ∷ behind; reads = λ behind. closed refl }; named = tt }

  more_fine : (s : CStmt) (ss : List CStmt) → IsFine s → AreFine ss → AreFine (s ∷ ss)
  more_fine s ss one others = record {
    text = record { from = λ behind. one.text.from (others.text.from behind); reads = λ behind. one_more (one.text.reads (others.text.from behind)) (others.text.reads behind) };
    named = stand_both o.label (labels_of s).named (labels_of_all ss).named one.named others.named;
  }

  label_fine : (found : Option (List ℕ)) (n : ℕ) (s : CStmt) → o.label n ≡ found → IsFine s → IsFine (with_label found s)
  unfolding with_label
  label_fine None n s at one = one
  label_fine (Some name) n s at one = record {
    text = record { from = λ behind. Word name ∷ Sign (codes ":") ∷ one.text.from behind; reads = λ behind. labelled name (words n name at) refl refl (one.text.reads behind) };
    named = subst (λ l. AllStand o.label l.named) (sym (labels_label name s)) one.named;
  }

  before_fine : (n : ℕ) (x : Option CStmt) (xs : Option (List CStmt)) (ss : List CStmt) → before (option_map (with_label (o.label n)) x) xs ≡ Some ss → ((s : CStmt) → x ≡ Some s → IsFine s)
      → ((rest : List CStmt) → xs ≡ Some rest → AreFine rest) → AreFine ss
  unfolding before
  before_fine n (Some s) (Some rest) ss h one others =
      subst AreFine (some_same (with_label (o.label n) s ∷ rest) ss h) (more_fine (with_label (o.label n) s) rest (label_fine (o.label n) n s refl (one s refl)) (others rest refl))
  before_fine n (Some s) None ss h one others = absurd (cc)
  before_fine n None xs ss h one others = absurd (cc)

  -- ## One item

  set_fine : (x y : Option CExpr) (s : CStmt) → set_by x y ≡ Some s → ((a : CExpr) → x ≡ Some a → IsSpelled (ReadsExpr scope 0 a)) → ((b : CExpr) → y ≡ Some b → IsSpelled (ReadsExpr scope 0 b)) → IsFine s
  unfolding set_by
  set_fine (Some a) (Some b) s h one other =
      let target = anywhere scope 7 a (one a refl) in
      let value = other b refl in
      subst IsFine (some_same (stmt.Set a b) s h) (record {
        text = record {
          from = λ behind. target.from (Sign (codes "=") ∷ value.from (Sign (codes ";") ∷ behind));
          reads = λ behind. assigned (target.reads (Sign (codes "=") ∷ value.from (Sign (codes ";") ∷ behind))) refl (value.reads (Sign (codes ";") ∷ behind)) refl;
        };
        named = tt;
      })
  set_fine (Some a) None s h one other = absurd (cc)
  set_fine None y s h one other = absurd (cc)

  goto_fine : (position : ℕ) (found : Option (List ℕ)) (s : CStmt) → o.label position ≡ found → option_map stmt.Goto found ≡ Some s → IsFine s
  goto_fine position (Some name) s at h =
      subst IsFine (some_same (stmt.Goto name) s h) (record {
        text = record { from = λ behind. Word (codes "goto") ∷ Word name ∷ Sign (codes ";") ∷ behind; reads = λ behind. jump name refl refl refl };
        named = ((position, at), tt);
      })
  goto_fine position None s at h = absurd (cc)

  data AllSpelled : List CExpr → Type 0 where
    none_spelled : AllSpelled []
    and_spelled : {e : CExpr} {es : List CExpr} → IsSpelled (ReadsExpr scope 0 e) → AllSpelled es → AllSpelled (e ∷ es)

  more_by : (x : Option CExpr) (xs : Option (List CExpr)) (es : List CExpr) → expressions.one_more x xs ≡ Some es → ((a : CExpr) → x ≡ Some a → IsSpelled (ReadsExpr scope 0 a)) → ((later : List CExpr) → xs ≡ Some later → AllSpelled later) → AllSpelled es
  unfolding expressions.one_more
  more_by (Some a) (Some later) es h one others = subst AllSpelled (some_same (a ∷ later) es h) (and_spelled (one a refl) (others later refl))
  more_by (Some a) None es h one others = absurd (cc)
  more_by None xs es h one others = absurd (cc)

  all_spelled : (ts : List Term) (es : List CExpr) → exprs_for o.names ts ≡ Some es → KnowsAll links o.names ts → HaveNoField ts → AllSpelled es
  unfolding exprs_for
  all_spelled [] es h knows none = subst AllSpelled (some_same [] es h) none_spelled
  all_spelled (t ∷ ts) es h knows (and_term none rest) = more_by (expr_for o.names t) (exprs_for o.names ts) es h (λ a is. term_is t a is knows.0 none) (λ later is. all_spelled ts later is knows.1 rest)

  separated : (e : CExpr) (es : List CExpr) → IsSpelled (ReadsExpr scope 0 e) → AllSpelled es → IsSpelled (Separated (ReadsExpr scope 0) (codes ")") (e ∷ es))
  separated e [] one none_spelled = record { from = λ behind. one.from (Sign (codes ")") ∷ behind); reads = λ behind. last_item (one.reads (Sign (codes ")") ∷ behind)) refl }
  separated e (f ∷ es) one (and_spelled other rest) =
      let later = separated f es other rest in
      record { from = λ behind. one.from (Sign (codes ",") ∷ later.from behind); reads = λ behind. one_item (one.reads (Sign (codes ",") ∷ later.from behind)) refl (later.reads behind) }

  arguments_spelled : (es : List CExpr) → AllSpelled es → IsSpelled (ReadsArguments scope es)
  arguments_spelled [] none_spelled = record { from = λ behind. Sign (codes ")") ∷ behind; reads = λ behind. no_argument refl }
  arguments_spelled (e ∷ es) (and_spelled one rest) = let all = separated e es one rest in record { from = all.from; reads = λ behind. some_arguments (all.reads behind) }

  -- a function that is declared, or a parameter that points to one
  abbrev MayCall : Bool → List ℕ → Type 0
  MayCall true name = is_among name scope.pointers ≡ true
  MayCall false name = is_among name scope.functions ≡ true

  calling_spelled : (through : Bool) (name : List ℕ) (es : List CExpr) → MayCall through name → AllSpelled es → IsSpelled (ReadsCall scope (record { through = through; name = name; arguments = es }))
  calling_spelled true name es known all =
      let arguments = arguments_spelled es all in
      record {
        from = λ behind. Sign (codes "(") ∷ Sign (codes "*") ∷ Word name ∷ Sign (codes ")") ∷ Sign (codes "(") ∷ arguments.from behind;
        reads = λ behind. through_a_parameter name known refl refl refl refl refl (arguments.reads behind);
      }
  calling_spelled false name es known all =
      let arguments = arguments_spelled es all in
      record { from = λ behind. Word name ∷ Sign (codes "(") ∷ arguments.from behind; reads = λ behind. by_name name known refl refl (arguments.reads behind) }

  call_fine : (through : Bool) (name : List ℕ) (xs : Option (List CExpr)) (s : CStmt) → MayCall through name → call_by through name xs ≡ Some s → ((es : List CExpr) → xs ≡ Some es → AllSpelled es) → IsFine s
  unfolding call_by
  call_fine through name (Some es) s known h all =
      let call = calling_spelled through name es known (all es refl) in
      subst IsFine (some_same (stmt.Call (record { through = through; name = name; arguments = es })) s h) (record {
        text = record { from = λ behind. call.from (Sign (codes ";") ∷ behind); reads = λ behind. called (call.reads (Sign (codes ";") ∷ behind)) refl };
        named = tt;
      })
  call_fine through name None s known h all = absurd (cc)

  set_call_fine : (through : Bool) (name : List ℕ) (x : Option CExpr) (xs : Option (List CExpr)) (s : CStmt) → MayCall through name → set_call_by through name x xs ≡ Some s → ((a : CExpr) → x ≡ Some a → IsSpelled (ReadsExpr scope 0 a))
      → ((es : List CExpr) → xs ≡ Some es → AllSpelled es) → IsFine s
  unfolding set_call_by
  set_call_fine through name (Some a) (Some es) s known h one all =
      let target = anywhere scope 7 a (one a refl) in
      let call = calling_spelled through name es known (all es refl) in
      subst IsFine (some_same (stmt.SetCall a (record { through = through; name = name; arguments = es })) s h) (record {
        text = record {
          from = λ behind. target.from (Sign (codes "=") ∷ call.from (Sign (codes ";") ∷ behind));
          reads = λ behind. assigned_call (target.reads (Sign (codes "=") ∷ call.from (Sign (codes ";") ∷ behind))) refl (call.reads (Sign (codes ";") ∷ behind)) refl;
        };
        named = tt;
      })
  set_call_fine through name (Some a) None s known h one all = absurd (cc)
  set_call_fine through name None xs s known h one all = absurd (cc)

  return_fine : (x : Option CExpr) (s : CStmt) → option_map (λ e. stmt.Return (Some e)) x ≡ Some s → ((a : CExpr) → x ≡ Some a → IsSpelled (ReadsExpr scope 0 a)) → IsFine s
  return_fine (Some e) s h one =
      let value = one e refl in
      subst IsFine (some_same (stmt.Return (Some e)) s h) (record {
        text = record { from = λ behind. Word (codes "return") ∷ value.from (Sign (codes ";") ∷ behind); reads = λ behind. returned_value refl (value.reads (Sign (codes ";") ∷ behind)) refl };
        named = tt;
      })
  return_fine None s h one = absurd (cc)

  statement_fine : (item : Flat) (s : CStmt) → statement_of o item ≡ Some s → ItemIsPlain links o.names item → IsFine s
  unfolding statement_of
  statement_fine (Assign t u) s h plain = set_fine (expr_for o.names t) (expr_for o.names u) s h (λ a is. term_is t a is plain.0.0 plain.1.0) (λ b is. term_is u b is plain.0.1 plain.1.1)
  statement_fine (Jump position) s h plain = goto_fine position (o.label position) s refl h
  statement_fine (Invoke Ignored (Direct k) arguments) s h plain =
      call_fine false (o.names.routine k) (exprs_for o.names arguments) s (agrees.functions (o.names.routine k) k plain.0.0) h (λ es is. all_spelled arguments es is plain.0.1 plain.1)
  statement_fine (Invoke Ignored (Through (Variable k ToFunction)) arguments) s h plain =
      call_fine true (o.names.object k) (exprs_for o.names arguments) s (agrees.pointers (o.names.object k) k plain.0.0) h (λ es is. all_spelled arguments es is plain.0.1 plain.1)
  statement_fine (Invoke (Kept t) (Direct k) arguments) s h plain =
      set_call_fine false (o.names.routine k) (expr_for o.names t) (exprs_for o.names arguments) s (agrees.functions (o.names.routine k) k plain.0.1) h (λ a is. term_is t a is plain.0.0 plain.1.0)
      (λ es is. all_spelled arguments es is plain.0.2 plain.1.1)
  statement_fine (Invoke (Kept t) (Through (Variable k ToFunction)) arguments) s h plain =
      set_call_fine true (o.names.object k) (expr_for o.names t) (exprs_for o.names arguments) s (agrees.pointers (o.names.object k) k plain.0.1) h (λ a is. term_is t a is plain.0.0 plain.1.0)
      (λ es is. all_spelled arguments es is plain.0.2 plain.1.1)
  statement_fine (Return None) s h plain =
      subst IsFine (some_same (stmt.Return None) s h) (record { text = record { from = λ behind. Word (codes "return") ∷ Sign (codes ";") ∷ behind; reads = λ behind. returned refl refl }; named = tt })
  statement_fine (Return (Some t)) s h plain = return_fine (expr_for o.names t) s h (λ a is. term_is t a is plain.0 plain.1)
  statement_fine Nothing s h plain = subst IsFine (some_same stmt.Empty s h) (record { text = record { from = λ behind. Sign (codes ";") ∷ behind; reads = λ behind. empty refl }; named = tt })
  statement_fine (Branch test on off) s h plain = absurd (cc)
  statement_fine (Select t cases otherwise) s h plain = absurd (cc)
  statement_fine (Invoke Ignored (Through t) arguments) s h plain = absurd (cc)
  statement_fine (Invoke Ignored Nowhere arguments) s h plain = absurd (cc)
  statement_fine (Invoke (Kept t) (Through t') arguments) s h plain = absurd (cc)
  statement_fine (Invoke (Kept t) Nowhere arguments) s h plain = absurd (cc)
  statement_fine (Invoke Returned callee arguments) s h plain = absurd (cc)
  statement_fine ReturnAnswer s h plain = absurd (cc)
  statement_fine Lost s h plain = absurd (cc)

  -- ## Tests and arms

  if_fine : (x : Option CExpr) (xs : Option (List CStmt)) (s : CStmt) → if_by x xs ≡ Some s → ((a : CExpr) → x ≡ Some a → IsSpelled (ReadsExpr scope 0 a)) → ((first : List CStmt) → xs ≡ Some first → AreFine first) → IsFine s
  unfolding if_by
  if_fine (Some e) (Some first) s h one inner =
      let test = one e refl in
      let arm = inner first refl in
      subst IsFine (some_same (stmt.If e first None) s h) (record {
        text = record {
          from = λ behind. Word (codes "if") ∷ Sign (codes "(") ∷ test.from (Sign (codes ")") ∷ Sign (codes "{") ∷ arm.text.from behind);
          reads = λ behind. if_only (tested (codes "if") refl refl (test.reads (Sign (codes ")") ∷ Sign (codes "{") ∷ arm.text.from behind)) refl) refl (arm.text.reads behind);
        };
        named = subst (λ l. AllStand o.label l.named) (sym (labels_if e first)) (stand_both o.label (labels_of_all first).named [] arm.named tt);
      })
  if_fine (Some e) None s h one inner = absurd (cc)
  if_fine None xs s h one inner = absurd (cc)

  if_else_fine : (x : Option CExpr) (xs ys : Option (List CStmt)) (s : CStmt) → if_else_by x xs ys ≡ Some s → ((a : CExpr) → x ≡ Some a → IsSpelled (ReadsExpr scope 0 a)) → ((first : List CStmt) → xs ≡ Some first → AreFine first)
      → ((second : List CStmt) → ys ≡ Some second → AreFine second) → IsFine s
  unfolding if_else_by
  if_else_fine (Some e) (Some first) (Some second) s h one inner other =
      let test = one e refl in
      let arm = inner first refl in
      let arm' = other second refl in
      subst IsFine (some_same (stmt.If e first (Some second)) s h) (record {
        text = record {
          from = λ behind. Word (codes "if") ∷ Sign (codes "(") ∷ test.from (Sign (codes ")") ∷ Sign (codes "{") ∷ arm.text.from (Word (codes "else") ∷ Sign (codes "{") ∷ arm'.text.from behind));
          reads = λ behind.
              if_else (tested (codes "if") refl refl (test.reads (Sign (codes ")") ∷ Sign (codes "{") ∷ arm.text.from (Word (codes "else") ∷ Sign (codes "{") ∷ arm'.text.from behind))) refl) refl
              (arm.text.reads (Word (codes "else") ∷ Sign (codes "{") ∷ arm'.text.from behind)) refl refl (arm'.text.reads behind);
        };
        named = subst (λ l. AllStand o.label l.named) (sym (labels_if_else e first second)) (stand_both o.label (labels_of_all first).named (labels_of_all second).named arm.named arm'.named);
      })
  if_else_fine (Some e) (Some first) None s h one inner other = absurd (cc)
  if_else_fine (Some e) None ys s h one inner other = absurd (cc)
  if_else_fine None xs ys s h one inner other = absurd (cc)

  WriterFine : Writer → Type 0
  WriterFine write = (n : ℕ) (items : List Flat) (ss : List CStmt) → write n items ≡ Some ss → ItemsArePlain links o.names items → AreFine ss

  test_fine : (write : Writer) → WriterFine write → (n m : ℕ) (t : Term) (later : List Flat) (ss : List CStmt) → if_for o write n (expr_for o.names t) m later ≡ Some ss → Knows links o.names t × HasNoField t
      → ItemsArePlain links o.names later → AreFine ss
  unfolding WriterFine if_for
  test_fine write fine n m t later ss h plain plains =
      before_fine n (if_by (expr_for o.names t) (write (suc n) (take m later))) (write (suc n + m) (drop m later)) ss h
      (λ s is. if_fine (expr_for o.names t) (write (suc n) (take m later)) s is (λ a is'. term_is t a is' plain.0 plain.1) (λ first is'. fine (suc n) (take m later) first is' (plain_take links o.names m later plains)))
      (λ rest is. fine (suc n + m) (drop m later) rest is (plain_drop links o.names m later plains))

  both_fine : (write : Writer) → WriterFine write → (n m k : ℕ) (t : Term) (later : List Flat) (ss : List CStmt) → if_else_for o write n (expr_for o.names t) m k later ≡ Some ss → Knows links o.names t × HasNoField t
      → ItemsArePlain links o.names later → AreFine ss
  unfolding WriterFine if_else_for
  both_fine write fine n m k t later ss h plain plains =
      let behind = plain_drop links o.names (suc m) later plains in
      before_fine n (if_else_by (expr_for o.names t) (write (suc n) (take m later)) (write (suc n + suc m) (take k (drop (suc m) later)))) (write (suc n + suc m + k) (drop k (drop (suc m) later))) ss h
      (λ s is. if_else_fine (expr_for o.names t) (write (suc n) (take m later)) (write (suc n + suc m) (take k (drop (suc m) later))) s is (λ a is'. term_is t a is' plain.0 plain.1)
      (λ first is'. fine (suc n) (take m later) first is' (plain_take links o.names m later plains)) (λ second is'. fine (suc n + suc m) (take k (drop (suc m) later)) second is' (plain_take links o.names k (drop (suc m) later) behind)))
      (λ rest is. fine (suc n + suc m + k) (drop k (drop (suc m) later)) rest is (plain_drop links o.names k (drop (suc m) later) behind))

  arms_fine : (write : Writer) → WriterFine write → (n m : ℕ) (t : Term) (found : Option ℕ) (later : List Flat) (ss : List CStmt) → arms_for o write n (expr_for o.names t) m found later ≡ Some ss → Knows links o.names t × HasNoField t
      → ItemsArePlain links o.names later → AreFine ss
  unfolding arms_for
  arms_fine write fine n m t (Some end) later ss h plain plains = by (nat_le (suc n + suc m) end && nat_le (end - (suc n + suc m)) (length (drop (suc m) later))) h
    where
      by : (b : Bool) → (if b then if_else_for o write n (expr_for o.names t) m (end - (suc n + suc m)) later else None) ≡ Some ss → AreFine ss
      by true g = both_fine write fine n m (end - (suc n + suc m)) t later ss g plain plains
      by false g = absurd (cc)
  arms_fine write fine n m t None later ss h plain plains = absurd (cc)

  branch_fine : (write : Writer) → WriterFine write → (n m : ℕ) (t : Term) (later : List Flat) (ss : List CStmt) → branch_for o write n (expr_for o.names t) m later ≡ Some ss → Knows links o.names t × HasNoField t
      → ItemsArePlain links o.names later → AreFine ss
  unfolding branch_for
  branch_fine write fine n zero t later ss h plain plains = test_fine write fine n 0 t later ss h plain plains
  branch_fine write fine n (suc m) t later ss h plain plains = by (o.ends_arm (suc n + m)) h
    where
      by : (b : Bool) → (if b then arms_for o write n (expr_for o.names t) m (end_of_arm (slice_get later m)) later else if_for o write n (expr_for o.names t) (suc m) later) ≡ Some ss → AreFine ss
      by true g = arms_fine write fine n m t (end_of_arm (slice_get later m)) later ss g plain plains
      by false g = test_fine write fine n (suc m) t later ss g plain plains

  -- ## Cases

  -- a case of a number, whose jump goes where a label is said to stand
  data IsFineCase : ℤ → CCase → Type 0 where
    fine_case : (number : ℤ) (label : List ℕ) (n : ℕ) → o.label n ≡ Some label → IsFineCase number (record { number = number; label = label })

  -- cases of some numbers that tokens spell, and whose jumps go where labels are said to stand
  record AreFineCases (numbers : List ℤ) (cases : List CCase) : Type 0 where
    text : IsSpelled (ReadsCases cases)
    named : AllStand o.label (map (λ (case : CCase). case.label) cases)
    same : case_numbers cases ≡ numbers

  case_by_fine : (number : ℤ) (position : ℕ) (found : Option (List ℕ)) (case : CCase) → o.label position ≡ found → case_by number found ≡ Some case → IsFineCase number case
  unfolding case_by
  case_by_fine number position (Some label) case at h = subst (IsFineCase number) (some_same (record { number = number; label = label }) case h) (fine_case number label position at)
  case_by_fine number position None case at h = absurd (cc)

  case_fine : (n : ℕ) (at : CaseAt) (item : Flat) (case : CCase) → case_for o n at item ≡ Some case → IsFineCase at.number case
  unfolding case_for
  case_fine n at (Jump position) case h = by (nat_eq at.position n && is_none (o.label n)) h
    where
      by : (b : Bool) → (if b then case_by at.number (o.label position) else None) ≡ Some case → IsFineCase at.number case
      by true g = case_by_fine at.number position (o.label position) case refl g
      by false g = absurd (cc)
  case_fine n at item case h = absurd (cc)

  no_case_fine : AreFineCases [] []
  no_case_fine = record { text = record { from = λ behind. Sign (codes "}") ∷ behind; reads = λ behind. no_case refl }; named = tt; same = refl }

  and_case : (number : ℤ) (numbers : List ℤ) (case : CCase) (rest : List CCase) → HasDigits number → IsFineCase number case → AreFineCases numbers rest → AreFineCases (number ∷ numbers) (case ∷ rest)
  and_case _ numbers _ rest digits (fine_case number label n at) others =
      subst (λ z. AreFineCases (z ∷ numbers) (record { number = z; label = label } ∷ rest)) (sym digits.is) (record {
        text = record {
          from = λ behind. Word (codes "case") ∷ Digits digits.number ∷ Sign (codes ":") ∷ Word (codes "goto") ∷ Word label ∷ Sign (codes ";") ∷ others.text.from behind;
          reads = λ behind. one_case digits.number label digits.small refl refl refl refl refl refl (others.text.reads behind);
        };
        named = ((n, at), others.named);
        same = ap (λ zs. pos digits.number ∷ zs) others.same;
      })

  more_cases : (number : ℤ) (numbers : List ℤ) (x : Option CCase) (xs : Option (List CCase)) (cases : List CCase) → before_cases x xs ≡ Some cases → HasDigits number → ((case : CCase) → x ≡ Some case → IsFineCase number case)
      → ((rest : List CCase) → xs ≡ Some rest → AreFineCases numbers rest) → AreFineCases (number ∷ numbers) cases
  unfolding before_cases
  more_cases number numbers (Some case) (Some rest) cases h digits one others =
      subst (AreFineCases (number ∷ numbers)) (some_same (case ∷ rest) cases h) (and_case number numbers case rest digits (one case refl) (others rest refl))
  more_cases number numbers (Some case) None cases h digits one others = absurd (cc)
  more_cases number numbers None xs cases h digits one others = absurd (cc)

  cases_fine : (n : ℕ) (ats : List CaseAt) (later : List Flat) (cases : List CCase) → cases_for o n ats later ≡ Some cases → are_case_numbers (map (λ (at : CaseAt). at.number) ats) ≡ true
      → AreFineCases (map (λ (at : CaseAt). at.number) ats) cases
  unfolding cases_for are_case_numbers
  cases_fine n [] later cases h counted = subst (AreFineCases []) (some_same [] cases h) no_case_fine
  cases_fine n (at ∷ ats) [] cases h counted = absurd (cc)
  cases_fine n (at ∷ ats) (item ∷ later) cases h counted =
      let both = and_parts _ _ counted in
      let apart = and_parts _ _ both.1 in
      more_cases at.number (map (λ (at : CaseAt). at.number) ats) (case_for o n at item) (cases_for o (suc n) ats later) cases h (digits_of at.number both.0) (λ case is. case_fine n at item case is)
      (λ rest is. cases_fine (suc n) ats later rest is apart.1)

  switch_by_fine : (x : Option CExpr) (xs : Option (List CCase)) (s : CStmt) → switch_by x xs ≡ Some s → ((a : CExpr) → x ≡ Some a → IsSpelled (ReadsExpr scope 0 a)) → (numbers : List ℤ) → are_case_numbers numbers ≡ true
      → ((cases : List CCase) → xs ≡ Some cases → AreFineCases numbers cases) → IsFine s
  unfolding switch_by
  switch_by_fine (Some e) (Some cases) s h one numbers counted all =
      let value = one e refl in
      let them = all cases refl in
      subst IsFine (some_same (stmt.Switch e cases) s h) (record {
        text = record {
          from = λ behind. Word (codes "switch") ∷ Sign (codes "(") ∷ value.from (Sign (codes ")") ∷ Sign (codes "{") ∷ them.text.from behind);
          reads = λ behind.
              switched (subst (λ zs. has_twice zs ≡ false) (sym them.same) (none_twice numbers counted)) (tested (codes "switch") refl refl (value.reads (Sign (codes ")") ∷ Sign (codes "{") ∷ them.text.from behind)) refl) refl (them.text.reads behind);
        };
        named = subst (λ l. AllStand o.label l.named) (sym (labels_switch e cases)) them.named;
      })
  switch_by_fine (Some e) None s h one numbers counted all = absurd (cc)
  switch_by_fine None xs s h one numbers counted all = absurd (cc)

  picked_fine : (write : Writer) → WriterFine write → (n : ℕ) (t : Term) (ats : List CaseAt) (later : List Flat) (ss : List CStmt) → are_case_numbers (map (λ (at : CaseAt). at.number) ats) ≡ true
      → switch_for o write n (expr_for o.names t) ats later ≡ Some ss → Knows links o.names t × HasNoField t → ItemsArePlain links o.names later → AreFine ss
  unfolding WriterFine switch_for
  picked_fine write fine n t ats later ss numbers h plain plains =
      before_fine n (switch_by (expr_for o.names t) (cases_for o (suc n) ats later)) (write (suc n + length ats) (drop (length ats) later)) ss h
      (λ s is.
      switch_by_fine (expr_for o.names t) (cases_for o (suc n) ats later) s is (λ a is'. term_is t a is' plain.0 plain.1) (map (λ (at : CaseAt). at.number) ats) numbers
      (λ cases is'. cases_fine (suc n) ats later cases is' numbers))
      (λ rest is. fine (suc n + length ats) (drop (length ats) later) rest is (plain_drop links o.names (length ats) later plains))

  switch_fine : (write : Writer) → WriterFine write → (n : ℕ) (t : Term) (ats : List CaseAt) (otherwise : ℕ) (later : List Flat) (ss : List CStmt)
      → (if nat_eq otherwise (suc n + length ats) && are_case_numbers (map (λ (at : CaseAt). at.number) ats) then switch_for o write n (expr_for o.names t) ats later else None) ≡ Some ss → Knows links o.names t × HasNoField t
      → ItemsArePlain links o.names later → AreFine ss
  switch_fine write fine n t ats otherwise later ss h plain plains = by (nat_eq otherwise (suc n + length ats)) (are_case_numbers (map (λ (at : CaseAt). at.number) ats)) refl h
    where
      by : (there counted : Bool) → are_case_numbers (map (λ (at : CaseAt). at.number) ats) ≡ counted → (if there && counted then switch_for o write n (expr_for o.names t) ats later else None) ≡ Some ss → AreFine ss
      by true true numbers g = picked_fine write fine n t ats later ss numbers g plain plains
      by true false numbers g = absurd (cc)
      by false counted numbers g = absurd (cc)

  single_fine : (write : Writer) → WriterFine write → (n : ℕ) (item : Flat) (later : List Flat) (ss : List CStmt) → before (option_map (with_label (o.label n)) (statement_of o item)) (write (suc n) later) ≡ Some ss
      → ItemIsPlain links o.names item → ItemsArePlain links o.names later → AreFine ss
  unfolding WriterFine
  single_fine write fine n item later ss h plain plains = before_fine n (statement_of o item) (write (suc n) later) ss h (λ s is. statement_fine item s is plain) (λ rest is. fine (suc n) later rest is plains)

  item_fine : (write : Writer) → WriterFine write → (n : ℕ) (item : Flat) (later : List Flat) (ss : List CStmt) → item_for o write n item later ≡ Some ss → ItemIsPlain links o.names item → ItemsArePlain links o.names later → AreFine ss
  unfolding item_for
  item_fine write fine n (Branch t on off) later ss h plain plains = by (nat_eq on (suc n) && (nat_le (suc n) off && nat_le (off - suc n) (length later))) h
    where
      by : (b : Bool) → (if b then branch_for o write n (expr_for o.names t) (off - suc n) later else None) ≡ Some ss → AreFine ss
      by true g = branch_fine write fine n (off - suc n) t later ss g plain plains
      by false g = absurd (cc)
  item_fine write fine n (Assign t u) later ss h plain plains = single_fine write fine n (Assign t u) later ss h plain plains
  item_fine write fine n (Select t ats otherwise) later ss h plain plains = switch_fine write fine n t ats otherwise later ss h plain plains
  item_fine write fine n (Jump position) later ss h plain plains = single_fine write fine n (Jump position) later ss h plain plains
  item_fine write fine n (Invoke how callee arguments) later ss h plain plains = single_fine write fine n (Invoke how callee arguments) later ss h plain plains
  item_fine write fine n (Return value) later ss h plain plains = single_fine write fine n (Return value) later ss h plain plains
  item_fine write fine n ReturnAnswer later ss h plain plains = single_fine write fine n ReturnAnswer later ss h plain plains
  item_fine write fine n Nothing later ss h plain plains = single_fine write fine n Nothing later ss h plain plains
  item_fine write fine n Lost later ss h plain plains = single_fine write fine n Lost later ss h plain plains

  -- ## Loops

  up_spelled : (x : Option CExpr) (nx : CNext) → option_map next.Up x ≡ Some nx → ((a : CExpr) → x ≡ Some a → IsSpelled (ReadsExpr scope 0 a)) → IsSpelled (ReadsNext scope nx)
  up_spelled (Some a) nx h one =
      let target = anywhere scope 7 a (one a refl) in
      subst (λ y. IsSpelled (ReadsNext scope y)) (some_same (next.Up a) nx h) (record { from = λ behind. Sign (codes "++") ∷ target.from behind; reads = λ behind. up refl (target.reads behind) })
  up_spelled None nx h one = absurd (cc)

  added_spelled : (x y : Option CExpr) (nx : CNext) → added_by x y ≡ Some nx → ((a : CExpr) → x ≡ Some a → IsSpelled (ReadsExpr scope 0 a)) → ((b : CExpr) → y ≡ Some b → IsSpelled (ReadsExpr scope 0 b)) → IsSpelled (ReadsNext scope nx)
  unfolding added_by
  added_spelled (Some a) (Some b) nx h one other =
      let target = anywhere scope 7 a (one a refl) in
      let amount = other b refl in
      subst (λ y. IsSpelled (ReadsNext scope y)) (some_same (next.Add a b) nx h)
      (record { from = λ behind. target.from (Sign (codes "+=") ∷ amount.from behind); reads = λ behind. added (target.reads (Sign (codes "+=") ∷ amount.from behind)) refl (amount.reads behind) })
  added_spelled (Some a) None nx h one other = absurd (cc)
  added_spelled None y nx h one other = absurd (cc)

  next_is : (v amount : Term) (nx : CNext) → next_by o.names v amount ≡ Some nx → Knows links o.names v × HasNoField v → Knows links o.names amount × HasNoField amount → IsSpelled (ReadsNext scope nx)
  unfolding next_by
  next_is v (Constant (pos (suc zero))) nx h plain plain' = up_spelled (expr_for o.names v) nx h (λ a is. term_is v a is plain.0 plain.1)
  next_is v amount nx h plain plain' = added_spelled (expr_for o.names v) (expr_for o.names amount) nx h (λ a is. term_is v a is plain.0 plain.1) (λ b is. term_is amount b is plain'.0 plain'.1)

  next_fine : (v : Term) (found : Option Flat) (nx : CNext) → next_for o.names v found ≡ Some nx → Knows links o.names v × HasNoField v → ((item : Flat) → found ≡ Some item → ItemIsPlain links o.names item) → IsSpelled (ReadsNext scope nx)
  unfolding next_for
  next_fine v (Some (Assign t (Between op.Add u amount))) nx h plain plains = by (same_place v t && same_place v u) h
    where
      by : (b : Bool) → (if b then next_by o.names v amount else None) ≡ Some nx → IsSpelled (ReadsNext scope nx)
      by true g = let item = plains (Assign t (Between op.Add u amount)) refl in next_is v amount nx g plain (item.0.1.1, item.1.1.1)
      by false g = absurd (cc)
  next_fine v found nx h plain plains = absurd (cc)

  for_fine : (x y z : Option CExpr) (m : Option CNext) (xs : Option (List CStmt)) (s : CStmt) → for_by x y z m xs ≡ Some s → ((a : CExpr) → x ≡ Some a → IsSpelled (ReadsExpr scope 0 a)) → ((b : CExpr) → y ≡ Some b → IsSpelled (ReadsExpr scope 0 b))
      → ((d : CExpr) → z ≡ Some d → IsSpelled (ReadsExpr scope 0 d)) → ((nx : CNext) → m ≡ Some nx → IsSpelled (ReadsNext scope nx)) → ((turn : List CStmt) → xs ≡ Some turn → AreFine turn) → IsFine s
  unfolding for_by
  for_fine (Some a) (Some b) (Some d) (Some nx) (Some turn) s h one other third fourth inner =
      let target = anywhere scope 7 a (one a refl) in
      let first = other b refl in
      let test = third d refl in
      let ahead = fourth nx refl in
      let arm = inner turn refl in
      let fifth : List Token → List Token = λ behind. Sign (codes ")") ∷ Sign (codes "{") ∷ arm.text.from behind in
      let last : List Token → List Token = λ behind. Sign (codes ";") ∷ ahead.from (fifth behind) in
      let middle : List Token → List Token = λ behind. Sign (codes ";") ∷ test.from (last behind) in
      let start : List Token → List Token = λ behind. Sign (codes "=") ∷ first.from (middle behind) in
      subst IsFine (some_same (stmt.For a b d nx turn) s h) (record {
        text = record {
          from = λ behind. Word (codes "for") ∷ Sign (codes "(") ∷ target.from (start behind);
          reads = λ behind.
              repeated_for (for_head refl refl (target.reads (start behind)) refl (first.reads (middle behind)) refl (test.reads (last behind)) refl (ahead.reads (fifth behind)) refl) refl (arm.text.reads behind);
        };
        named = subst (λ l. AllStand o.label l.named) (sym (labels_for a b d nx turn)) arm.named;
      })
  for_fine x y z m xs s h one other third fourth inner = absurd (cc)

  head_fine : (write : Writer) → WriterFine write → (n size : ℕ) (v first : Term) (later : List Flat) (ss : List CStmt) → head_for o write n size v first later ≡ Some ss → ItemIsPlain links o.names (Assign v first)
      → ItemsArePlain links o.names later → AreFine ss
  unfolding WriterFine head_for
  head_fine write fine n size v first (Branch test on off ∷ later) ss h plain plains = by (is_loop o n size on off later) h
    where
      by : (b : Bool)
          → (if b then
          before (option_map (with_label (o.label n)) (for_by (expr_for o.names v) (expr_for o.names first) (expr_for o.names test) (next_for o.names v (slice_get later size)) (write (suc (suc n)) (take size later))))
          (write (suc (suc n) + suc (suc size)) (drop (suc (suc size)) later))
          else None) ≡ Some ss → AreFine ss
      by true g =
          before_fine n (for_by (expr_for o.names v) (expr_for o.names first) (expr_for o.names test) (next_for o.names v (slice_get later size)) (write (suc (suc n)) (take size later)))
          (write (suc (suc n) + suc (suc size)) (drop (suc (suc size)) later)) ss g
          (λ s is. for_fine (expr_for o.names v) (expr_for o.names first) (expr_for o.names test) (next_for o.names v (slice_get later size)) (write (suc (suc n)) (take size later)) s is
          (λ a is'. term_is v a is' plain.0.0 plain.1.0) (λ b is'. term_is first b is' plain.0.1 plain.1.1) (λ d is'. term_is test d is' plains.0.0 plains.0.1)
          (λ nx is'. next_fine v (slice_get later size) nx is' (plain.0.0, plain.1.0) (λ item at. plain_at links o.names size later item plains.1 at))
          (λ turn is'. fine (suc (suc n)) (take size later) turn is' (plain_take links o.names size later plains.1)))
          (λ rest is. fine (suc (suc n) + suc (suc size)) (drop (suc (suc size)) later) rest is (plain_drop links o.names (suc (suc size)) later plains.1))
      by false g = absurd (cc)
  head_fine write fine n size v first later ss h plain plains = absurd (cc)

  tested_is : (found : Option Flat) (d : CExpr) → test_in o.names found ≡ Some d → ((item : Flat) → found ≡ Some item → ItemIsPlain links o.names item) → IsSpelled (ReadsExpr scope 0 d)
  unfolding test_in
  tested_is (Some (Branch test on off)) d h plains = let plain = plains (Branch test on off) refl in term_is test d h plain.0 plain.1
  tested_is found d h plains = absurd (cc)

  repeated_fine : (turn : List CStmt) (d : CExpr) → IsSpelled (ReadsExpr scope 0 d) → AreFine turn → IsFine (stmt.DoWhile turn d)
  repeated_fine turn d test arm =
      let last : List Token → List Token = λ behind. Sign (codes ")") ∷ Sign (codes ";") ∷ behind in
      let middle : List Token → List Token = λ behind. Word (codes "while") ∷ Sign (codes "(") ∷ test.from (last behind) in
      record {
        text = record {
          from = λ behind. Word (codes "do") ∷ Sign (codes "{") ∷ arm.text.from (middle behind);
          reads = λ behind. repeated_do refl refl (arm.text.reads (middle behind)) (tested (codes "while") refl refl (test.reads (last behind)) refl) refl;
        };
        named = subst (λ l. AllStand o.label l.named) (sym (labels_do turn d)) arm.named;
      }

  block_fine : (ss : List CStmt) → AreFine ss → IsFine (stmt.Block ss)
  block_fine ss inner = record {
    text = record { from = λ behind. Sign (codes "{") ∷ inner.text.from behind; reads = λ behind. a_block refl (inner.text.reads behind) };
    named = subst (λ l. AllStand o.label l.named) (sym (labels_block ss)) inner.named;
  }

  both_set : (a b : CExpr) → set_by (Some a) (Some b) ≡ Some (stmt.Set a b)
  unfolding set_by
  both_set a b = refl

  do_by_fine : (x y : Option CExpr) (xs : Option (List CStmt)) (z : Option CExpr) (s : CStmt) → do_by x y xs z ≡ Some s → ((a : CExpr) → x ≡ Some a → IsSpelled (ReadsExpr scope 0 a)) → ((b : CExpr) → y ≡ Some b → IsSpelled (ReadsExpr scope 0 b))
      → ((turn : List CStmt) → xs ≡ Some turn → AreFine turn) → ((d : CExpr) → z ≡ Some d → IsSpelled (ReadsExpr scope 0 d)) → IsFine s
  unfolding do_by
  do_by_fine (Some a) (Some b) (Some turn) (Some d) s h one other inner last =
      let repeated = stmt.DoWhile turn d in
      let set = set_fine (Some a) (Some b) (stmt.Set a b) (both_set a b) one other in
      subst IsFine (some_same (stmt.Block (stmt.Set a b ∷ repeated ∷ [])) s h)
      (block_fine (stmt.Set a b ∷ repeated ∷ []) (more_fine (stmt.Set a b) (repeated ∷ []) set (more_fine repeated [] (repeated_fine turn d (last d refl) (inner turn refl)) nothing_fine)))
  do_by_fine x y xs z s h one other inner last = absurd (cc)

  do_fine : (write : Writer) → WriterFine write → (n size : ℕ) (v first : Term) (later : List Flat) (ss : List CStmt) → do_for o write n size v first later ≡ Some ss → ItemIsPlain links o.names (Assign v first)
      → ItemsArePlain links o.names later → AreFine ss
  unfolding WriterFine do_for
  do_fine write fine n size v first later ss h plain plains =
      before_fine n (do_by (expr_for o.names v) (expr_for o.names first) (write (suc n) (take size later)) (test_in o.names (slice_get later size))) (write (suc (suc n + size)) (drop (suc size) later)) ss h
      (λ s is. do_by_fine (expr_for o.names v) (expr_for o.names first) (write (suc n) (take size later)) (test_in o.names (slice_get later size)) s is
      (λ a is'. term_is v a is' plain.0.0 plain.1.0) (λ b is'. term_is first b is' plain.0.1 plain.1.1)
      (λ turn is'. fine (suc n) (take size later) turn is' (plain_take links o.names size later plains))
      (λ d is'. tested_is (slice_get later size) d is' (λ item at. plain_at links o.names size later item plains at)))
      (λ rest is. fine (suc (suc n + size)) (drop (suc size) later) rest is (plain_drop links o.names (suc size) later plains))

  loop_fine : (write : Writer) → WriterFine write → (n size : ℕ) (item : Flat) (later : List Flat) (ss : List CStmt) → loop_for o write n size item later ≡ Some ss → ItemIsPlain links o.names item → ItemsArePlain links o.names later → AreFine ss
  unfolding loop_for
  loop_fine write fine n size (Assign v first) later ss h plain plains = by (tests_turn o n size (slice_get later size)) h
    where
      by : (b : Bool) → (if b then do_for o write n size v first later else head_for o write n size v first later) ≡ Some ss → AreFine ss
      by true g = do_fine write fine n size v first later ss g plain plains
      by false g = head_fine write fine n size v first later ss g plain plains
  loop_fine write fine n size item later ss h plain plains = absurd (cc)

  part_fine : (write : Writer) → WriterFine write → (found : Option ℕ) (n : ℕ) (item : Flat) (later : List Flat) (ss : List CStmt) → part_for o write found n item later ≡ Some ss → ItemIsPlain links o.names item
      → ItemsArePlain links o.names later → AreFine ss
  unfolding part_for
  part_fine write fine None n item later ss h plain plains = item_fine write fine n item later ss h plain plains
  part_fine write fine (Some size) n item later ss h plain plains = loop_fine write fine n size item later ss h plain plains

  all_fine : (turns n : ℕ) (items : List Flat) (ss : List CStmt) → statements_for o turns n items ≡ Some ss → ItemsArePlain links o.names items → AreFine ss
  unfolding statements_for WriterFine
  all_fine turns n [] ss h plains = subst AreFine (some_same [] ss h) nothing_fine
  all_fine zero n (item ∷ later) ss h plains = absurd (cc)
  all_fine (suc turns) n (item ∷ later) ss h plains = part_fine (statements_for o turns) (λ m items rest is are. all_fine turns m items rest is are) (o.loop n) n item later ss h plains.0 plains.1

  spelled : (turns n : ℕ) (items : List Flat) (ss : List CStmt) → statements_for o turns n items ≡ Some ss → ItemsArePlain links o.names items → AreSpelled o scope ss
  spelled turns n items ss h plains = let fine = all_fine turns n items ss h plains in record { text = fine.text; named = fine.named }

pub statements_are_spelled : StatementsAreSpelled
statements_are_spelled o links scope turns n items ss agrees words h knows none = spelled o scope links agrees words turns n items ss h (plain_items links o.names items knows none)
