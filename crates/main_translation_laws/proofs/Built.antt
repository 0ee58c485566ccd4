-- The statements that are made for a text are built as the laws of main files ask: labels stand once, and each step that calls the library is listed.
use Rattle.std.specs.Prelude.{◌≡◌, ◌≢◌, ℕ, suc, ◌+◌, ◌<◌, ◌≤◌, ◌^◌, nat_eq, nat_lt, ℤ, Bool, true, false, ◌&&◌, List, [], ◌∷◌, ◌++◌, length, position, Option, Some, None, is_none, option_and_then, slice_get, codes, decimal, if◌then◌else◌}
use Rattle.std.specs.Str.Parse.{AllDigits}
use Rattle.std.proofs.Common.{refl, sym, ap, ◌∙◌, subst, arith}
use Rattle.std.proofs.lemmas.Bool.{ltb-true, eqb-true}
use Rattle.std.proofs.lemmas.List.{append_cancel_left}
use Rattle.std.proofs.lemmas.Fmt.{decimal_injective, decimal_is_IsNumeral}
use Rattle.std.proofs.lemmas.Str.Parse.{digit_from_value}
use Rattle.main_programs.specs.f_tree.Facts.{Direction, Input, Output, Layout, Listed, Labelled, Computed, Unformatted, Controls, ProgramUnit}
use Rattle.main_programs.specs.f_tree.Setting.{IsIn, first_in, later_in}
use Rattle.main_programs.specs.f_tree.CNames.{made_name, StatementLabel, MadeLabel}
use Rattle.main_programs.specs.f_tree.Values.{IsInt}
use Rattle.main_programs.specs.f_tree.Terms.{Function}
use Rattle.main_programs.specs.l_core.Pures.{Constant, Pures, NoPure, AndPure}
use Rattle.main_programs.specs.l_core.Steps.{Starts, Takes, Finishes, Step, Compute, Halt, Acts, Marked, Text}
use Rattle.main_programs.specs.c_tree.declared.statement.CStmt as stmt
use Rattle.main_programs.specs.c_tree.declared.statement.CStmt.{CStmt}
use Rattle.main_programs.specs.c_tree.declared.file.CFunction.{CFunction}
use Rattle.main_programs.specs.c_tree.Flat.{Flat}
use Rattle.main_programs.specs.c_tree.FlatForm.{is_return, ends}
use Rattle.main_programs.specs.c_tree.Meaning.{wrapped_by}
use Rattle.main_programs.specs.c_emit.Numbers.{Writing}
use Rattle.main_programs.specs.c_emit.LibraryFunctions.{LibraryFunction, library_function}
use Rattle.main_programs.specs.c_emit.Calls.{start_item, unit_of}
use Rattle.main_programs.specs.c_emit.Flats.{flat_of}
use Rattle.main_programs.specs.c_structure.Expressions.{Names}
use Rattle.main_programs.specs.c_structure.Statements.{Outline, statements_for}
use Rattle.main_programs.specs.linking_laws.Linked.{IsBuilt}
use Rattle.main_programs.proofs.linking_laws.Places.{some_same, within}
use Rattle.main_programs.specs.main_file.MainFile.{Inventory, Bases, main_function, names_of}
use Rattle.main_programs.specs.main_file.MainItems.{item_before, flats_from}
use Rattle.main_programs.specs.main_file_laws.BuiltMain.{FunctionIsCalled, IsListed, AreListed}
use Rattle.main_programs.proofs.main_file_laws.Known.{position_finds}
use Rattle.main_programs.specs.main_translation.Flow.{are_on}
use Rattle.main_programs.specs.main_translation.Contents.{begins_output, takes_item, ends_output, stops_run, inventory_of, first_objects}
use Rattle.main_programs.specs.main_translation.Outlined.{labels_in, stands_at, label_before, opens_while, whiles_in, name_by, label_at, passes_arms, loop_at, outline_of, returns, returns_last, if_returned, items_of, body_of}
use Rattle.main_translation_laws.specs.PlainMains.{IsPlainText}
use Rattle.main_translation_laws.proofs.Contents.{listed_at, starts_called, item_called, ends_called, stop_called, function_is_called}

-- ## Statements that end in a return

returned_is : (s : CStmt) → returns s ≡ true → is_return s ≡ true
unfolding returns
returned_is (stmt.Return value) h = refl
returned_is (stmt.Label' name shape (stmt.more_of-CStmt s stmt.end_of-CStmt)) h = returned_is s h
returned_is s h = absurd (cc)

pub ends_last : (ss : List CStmt) → returns_last ss ≡ true → ends ss ≡ true
unfolding returns_last
ends_last [] h = absurd (cc)
ends_last (s ∷ []) h = returned_is s h
ends_last (s ∷ t ∷ later) h = ends_last (t ∷ later) h

unwrapped : (s : CStmt) → returns s ≡ true → wrapped_by (s ∷ []) ≡ None
unfolding returns
unwrapped (stmt.Return value) h = refl
unwrapped (stmt.Label' name shape (stmt.more_of-CStmt s stmt.end_of-CStmt)) h = refl
unwrapped s h = absurd (cc)

more_unwrapped : (s t : CStmt) (later : List CStmt) → wrapped_by (s ∷ t ∷ later) ≡ None
more_unwrapped (stmt.Set to e) t later = refl
more_unwrapped (stmt.SetCall to call) t later = refl
more_unwrapped (stmt.Call call) t later = refl
more_unwrapped stmt.Empty t later = refl
more_unwrapped (stmt.Block' shape row) t later = refl
more_unwrapped (stmt.Label' name shape row) t later = refl
more_unwrapped (stmt.Goto label) t later = refl
more_unwrapped (stmt.Return value) t later = refl
more_unwrapped (stmt.ReturnCall call) t later = refl
more_unwrapped (stmt.If' test shape first other) t later = refl
more_unwrapped (stmt.Switch value cases) t later = refl
more_unwrapped (stmt.For' to first test turn shape row) t later = refl
more_unwrapped (stmt.DoWhile' shape row test) t later = refl

pub no_wrapper : (ss : List CStmt) → returns_last ss ≡ true → wrapped_by ss ≡ None
unfolding returns_last
no_wrapper [] h = absurd (cc)
no_wrapper (s ∷ []) h = unwrapped s h
no_wrapper (s ∷ t ∷ later) h = more_unwrapped s t later

-- ## What a body was made by

pub record HasBody (unit : ProgramUnit) (u : Text) (body : List CStmt) : Type 0 where
  pub on : are_on u 0 u.steps ≡ true
  pub items : List Flat
  pub emitted : items_of unit u ≡ Some items
  pub statements : statements_for (outline_of (inventory_of unit u) (first_objects (inventory_of unit u)) u) (length items) 0 items ≡ Some body
  pub returned : returns_last body ≡ true

pub returned_by : (ss body : List CStmt) → if_returned ss ≡ Some body → (returns_last ss ≡ true) × (ss ≡ body)
unfolding if_returned
returned_by ss body h = by (returns_last ss) refl h
  where
    by : (b : Bool) → returns_last ss ≡ b → (if b then Some ss else None) ≡ Some body → (returns_last ss ≡ true) × (ss ≡ body)
    by true is g = (is, some_same ss body g)
    by false is g = absurd (cc)

pub has_body : (unit : ProgramUnit) (u : Text) (body : List CStmt) → body_of unit u ≡ Some body → HasBody unit u body
unfolding body_of
has_body unit u body h = by (are_on u 0 u.steps) refl h
  where
    built : List Flat → Option (List CStmt)
    built items = statements_for (outline_of (inventory_of unit u) (first_objects (inventory_of unit u)) u) (length items) 0 items

    with_statements : (items : List Flat) (found : Option (List CStmt)) → are_on u 0 u.steps ≡ true → items_of unit u ≡ Some items
        → statements_for (outline_of (inventory_of unit u) (first_objects (inventory_of unit u)) u) (length items) 0 items ≡ found → option_and_then if_returned found ≡ Some body → HasBody unit u body
    with_statements items (Some ss) on is are g =
        let last = returned_by ss body g in
        record { on = on; items = items; emitted = is; statements = are ∙ ap Some last.1; returned = ap returns_last (sym last.1) ∙ last.0 }
    with_statements items None on is are g = absurd (cc)

    with_items : (found : Option (List Flat)) → are_on u 0 u.steps ≡ true → items_of unit u ≡ found
        → option_and_then if_returned (option_and_then (λ items. statements_for (outline_of (inventory_of unit u) (first_objects (inventory_of unit u)) u) (length items) 0 items) found) ≡ Some body → HasBody unit u body
    with_items (Some items) on is g = with_statements items (statements_for (outline_of (inventory_of unit u) (first_objects (inventory_of unit u)) u) (length items) 0 items) on is refl g
    with_items None on is g = absurd (cc)

    by : (b : Bool) → are_on u 0 u.steps ≡ b
        → (if b then option_and_then if_returned (option_and_then (λ items. statements_for (outline_of (inventory_of unit u) (first_objects (inventory_of unit u)) u) (length items) 0 items) (items_of unit u)) else None) ≡ Some body
        → HasBody unit u body
    by true on g = with_items (items_of unit u) on refl g
    by false on g = absurd (cc)

-- ## Items, one for each step

pub record AreSplit (x : Option Flat) (xs : Option (List Flat)) (items : List Flat) : Type 0 where
  pub item : Flat
  pub later : List Flat
  pub item_is : x ≡ Some item
  pub later_is : xs ≡ Some later
  pub is : item ∷ later ≡ items

pub split : (x : Option Flat) (xs : Option (List Flat)) (items : List Flat) → item_before x xs ≡ Some items → AreSplit x xs items
unfolding item_before
split (Some item) (Some later) items h = record { item = item; later = later; item_is = refl; later_is = refl; is = cc }
split (Some item) None items h = absurd (cc)
split None xs items h = absurd (cc)

pub items_count : (w : Writing) (label : ℕ → Option ℕ) (n : ℕ) (steps : List Step) (items : List Flat) → flats_from w label n steps ≡ Some items → length items ≡ length steps
unfolding flats_from
items_count w label n [] items h = ap length (sym (some_same [] items h))
items_count w label n (st ∷ later) items h =
    let s = split (flat_of w (λ m. m) label n st) (flats_from w label (suc n) later) items h in
    ap length (sym s.is) ∙ ap suc (items_count w label (suc n) later s.later s.later_is)

-- ## Labels

-- labels that have 64 bits
pub record HasFewLabels (u : Text) : Type 0 where
  pub marks : 1 + length u.marks ≤ 2 ^ 64
  pub labels : (label : ℕ) → IsIn label (labels_in u.steps) → label < 2 ^ 64

data IsNamedBy (u : Text) (n : ℕ) (name : List ℕ) : Type 0 where
  by_label : (label : ℕ) → u.position label ≡ Some n → IsIn label (labels_in u.steps) → name ≡ made_name (StatementLabel label) → IsNamedBy u n name
  by_loop : (k : ℕ) → slice_get (whiles_in u.marks) k ≡ Some n → name ≡ made_name (MadeLabel (suc k)) → IsNamedBy u n name

record IsBefore (place : ℕ → Option ℕ) (n : ℕ) (labels : List ℕ) (label : ℕ) : Type 0 where
  among : IsIn label labels
  stands : place label ≡ Some n

stands_there : (found : Option ℕ) (n : ℕ) → stands_at found n ≡ true → found ≡ Some n
unfolding stands_at
stands_there (Some m) n h = ap Some (eqb-true m n h)
stands_there None n h = absurd (cc)

before_by : (place : ℕ → Option ℕ) (n : ℕ) (labels : List ℕ) (label : ℕ) → label_before place n labels ≡ Some label → IsBefore place n labels label
unfolding label_before
before_by place n [] label h = absurd (cc)
before_by place n (l ∷ labels) label h = by (stands_at (place l) n) refl h (before_by place n labels label)
  where
    by : (b : Bool) → stands_at (place l) n ≡ b → (if b then Some l else label_before place n labels) ≡ Some label → (label_before place n labels ≡ Some label → IsBefore place n labels label) → IsBefore place n (l ∷ labels) label
    by true is g later =
        let same : l ≡ label = some_same l label g in
        record { among = subst (λ x. IsIn x (l ∷ labels)) same first_in; stands = ap place (sym same) ∙ stands_there (place l) n is }
    by false is g later = let rest = later g in record { among = later_in rest.among; stands = rest.stands }

named_by : (u : Text) (n : ℕ) (name : List ℕ) (label : Option ℕ) (loop : Option ℕ) → label_before u.position n (labels_in u.steps) ≡ label → position (nat_eq n) (whiles_in u.marks) ≡ loop → name_by label loop ≡ Some name → IsNamedBy u n name
unfolding name_by
named_by u n name (Some label) loop one other h =
    let b = before_by u.position n (labels_in u.steps) label one in by_label label b.stands b.among (sym (some_same (made_name (StatementLabel label)) name h))
named_by u n name None (Some k) one other h =
    let f = position_finds (nat_eq n) (whiles_in u.marks) k other in
    by_loop k (f.at ∙ ap Some (sym (eqb-true n f.one f.passes))) (sym (some_same (made_name (MadeLabel (suc k))) name h))
named_by u n name None None one other h = absurd (cc)

record IsLabelled (u : Text) (n : ℕ) (name : List ℕ) : Type 0 where
  inside : n < length u.steps
  named : IsNamedBy u n name

labelled : (u : Text) (n : ℕ) (name : List ℕ) → label_at u n ≡ Some name → IsLabelled u n name
unfolding label_at
labelled u n name h = by (nat_lt n (length u.steps)) refl h
  where
    by : (b : Bool) → nat_lt n (length u.steps) ≡ b → (if b then name_by (label_before u.position n (labels_in u.steps)) (position (nat_eq n) (whiles_in u.marks)) else None) ≡ Some name → IsLabelled u n name
    by true is g = record { inside = ltb-true n (length u.steps) is; named = named_by u n name (label_before u.position n (labels_in u.steps)) (position (nat_eq n) (whiles_in u.marks)) refl refl g }
    by false is g = absurd (cc)

-- labels of the two sorts, and of one sort, are told apart
statement_label : (l : ℕ) → made_name (StatementLabel l) ≡ codes "L" ++ decimal l
unfolding made_name
statement_label l = refl

made_label : (k : ℕ) → made_name (MadeLabel k) ≡ codes "L" ++ (95 ∷ 95 ∷ decimal k)
unfolding made_name
made_label k = refl

no_digit : (l : ℕ) (rest : List ℕ) → l < 2 ^ 64 → decimal l ≢ 95 ∷ rest
no_digit l rest small e = omega (arith, digit_from_value 95 (subst (AllDigits 10) e (decimal_is_IsNumeral l small).0.1).0)

sorts_apart : (l k : ℕ) → l < 2 ^ 64 → made_name (StatementLabel l) ≡ made_name (MadeLabel k) → ⊥
sorts_apart l k small e = no_digit l (95 ∷ decimal k) small (append_cancel_left (codes "L") (decimal l) (95 ∷ 95 ∷ decimal k) (sym (statement_label l) ∙ e ∙ made_label k))

statement_labels_told : (l k : ℕ) → l < 2 ^ 64 → k < 2 ^ 64 → made_name (StatementLabel l) ≡ made_name (StatementLabel k) → l ≡ k
statement_labels_told l k p q e = decimal_injective l k p q (append_cancel_left (codes "L") (decimal l) (decimal k) (sym (statement_label l) ∙ e ∙ statement_label k))

made_labels_told : (j k : ℕ) → j < 2 ^ 64 → k < 2 ^ 64 → made_name (MadeLabel j) ≡ made_name (MadeLabel k) → j ≡ k
made_labels_told j k p q e = decimal_injective j k p q (append_cancel_left (codes "L__") (decimal j) (decimal k) (sym (made_label j) ∙ e ∙ made_label k))

whiles_count : (marks : List Marked) → length (whiles_in marks) ≤ length marks
unfolding whiles_in
whiles_count [] = omega arith
whiles_count (one ∷ marks) = by (opens_while one.mark) (whiles_count marks)
  where
    by : (b : Bool) → length (whiles_in marks) ≤ length marks → length (if b then one.at ∷ whiles_in marks else whiles_in marks) ≤ suc (length marks)
    by true rest = omega (arith, rest)
    by false rest = omega (arith, rest)

made_small : (u : Text) (k n : ℕ) → HasFewLabels u → slice_get (whiles_in u.marks) k ≡ Some n → suc k < 2 ^ 64
made_small u k n plain at =
    let less = within (whiles_in u.marks) k n at in
    let few = whiles_count u.marks in
    let fits = plain.marks in omega (arith, less, few, fits)

told : (u : Text) → HasFewLabels u → (m n : ℕ) (name : List ℕ) → IsNamedBy u m name → IsNamedBy u n name → m ≡ n
told u plain m n name (by_label l at among e) (by_label k at' among' f) =
    let same = statement_labels_told l k (plain.labels l among) (plain.labels k among') (sym e ∙ f) in
    some_same m n (sym at ∙ ap u.position same ∙ at')
told u plain m n name (by_label l at among e) (by_loop k at' f) = absurd (sorts_apart l (suc k) (plain.labels l among) (sym e ∙ f))
told u plain m n name (by_loop k at f) (by_label l at' among e) = absurd (sorts_apart l (suc k) (plain.labels l among) (sym e ∙ f))
told u plain m n name (by_loop j at e) (by_loop k at' f) =
    let same : suc j ≡ suc k = made_labels_told (suc j) (suc k) (made_small u j m plain at) (made_small u k n plain at') (sym e ∙ f) in
    let equal : j ≡ k = omega (arith, same) in
    some_same m n (sym at ∙ ap (slice_get (whiles_in u.marks)) equal ∙ at')

bare : (a : Bool) (found : Option (List ℕ)) → a && is_none found ≡ true → found ≡ None
bare true None h = refl
bare true (Some name) h = absurd (cc)
bare false found h = absurd (cc)

-- what the statements of a text are built from, given the names
abbrev pub outline_by : Names → Text → Outline
outline_by names u = record { names = names; label = label_at u; ends_arm = λ n. passes_arms (slice_get u.steps n) && is_none (label_at u n); loop = loop_at u }

pub built_by : (names : Names) (u : Text) (items : List Flat) (function : CFunction) → HasFewLabels u → length items ≡ length u.steps → statements_for (outline_by names u) (length items) 0 items ≡ Some function.body → returns_last function.body ≡ true
    → IsBuilt (outline_by names u) items function
built_by names u items function few counted statements returned = record {
  turns = length items;
  statements = statements;
  ended = ends_last function.body returned;
  inside = λ n name at. let within = (labelled u n name at).inside in omega (arith, within, counted);
  alone = λ m n name at at'. told u few m n name (labelled u m name at).named (labelled u n name at').named;
  none = λ n arm. bare (passes_arms (slice_get u.steps n)) (label_at u n) arm;
}

pub is_built : (v : Inventory) (b : Bases) (u : Text) (items : List Flat) (body : List CStmt) → IsPlainText u → length items ≡ length u.steps
    → statements_for (outline_of v b u) (length items) 0 items ≡ Some body → returns_last body ≡ true → IsBuilt (outline_of v b u) items (main_function v body)
is_built v b u items body plain counted statements returned = built_by (names_of v b) u items (main_function v body) (record { marks = plain.marks; labels = plain.labels }) counted statements returned

-- ## What steps call is listed

pub unit_there : (w : Writing) (n : ℕ) (controls : Controls) (ps : Pures) (item : Flat) → start_item w n controls ps ≡ Some item → (unit : ℤ) × (unit_of ps ≡ Some unit)
unfolding start_item unit_of
unit_there w n controls (AndPure (Constant (IsInt unit)) NoPure) item h = (unit, refl)
unit_there w n controls ps item h = absurd (cc)

pub started : (w : Writing) (label : ℕ → Option ℕ) (n : ℕ) (way : Direction) (layout : Layout) (controls : Controls) (ps : Pures) (m : ℕ) (item : Flat) → flat_of w (λ k. k) label n (Acts (Starts way layout controls) ps m) ≡ Some item
    → (unit : ℤ) × (unit_of ps ≡ Some unit)
unfolding flat_of
started w label n Output Listed controls ps m item h = unit_there w n controls ps item h
started w label n Output (Labelled l) controls ps m item h = absurd (cc)
started w label n Output Computed controls ps m item h = absurd (cc)
started w label n Output Unformatted controls ps m item h = absurd (cc)
started w label n Input layout controls ps m item h = absurd (cc)

module _ (unit : ProgramUnit) (u : Text) (w : Writing) where
  function_listed : (n k : ℕ) (f : Function) (ps : Pures) → slice_get u.steps n ≡ Some (Compute k f ps) → (found : Option LibraryFunction) → library_function f ≡ found → FunctionIsCalled (inventory_of unit u) found
  function_listed n k f ps at (Some one) is = let called = function_is_called u.steps n k f ps one at is in (called.index, called.at)
  function_listed n k f ps at None is = tt

  step_listed : (n : ℕ) (st : Step) (item : Flat) → slice_get u.steps n ≡ Some st → flat_of w (λ k. k) u.position n st ≡ Some item → IsListed (inventory_of unit u) n st
  step_listed n (Acts (Starts way layout controls) ps m) item at h =
      let its = started w u.position n way layout controls ps m item h in
      let called = starts_called u.steps n (Acts (Starts way layout controls) ps m) at (unfold begins_output in refl) in
      let list = listed_at 0 u.steps n n way layout controls ps m its.0 (omega arith) at its.1 in
      ((called.index, called.at), (list.index, list.place))
  step_listed n (Acts Takes ps m) item at h = let called = item_called u.steps n (Acts Takes ps m) at (unfold takes_item in refl) in (called.index, called.at)
  step_listed n (Acts Finishes ps m) item at h = let called = ends_called u.steps n (Acts Finishes ps m) at (unfold ends_output in refl) in (called.index, called.at)
  step_listed n (Halt text) item at h = let called = stop_called u.steps n (Halt text) at (unfold stops_run in refl) in (called.index, called.at)
  step_listed n (Compute k f ps) item at h = function_listed n k f ps at (library_function f) refl
  step_listed n st item at h = tt

  pub all_listed : (n : ℕ) (steps : List Step) (items : List Flat) → ((i k : ℕ) (st : Step) → k ≡ n + i → slice_get steps i ≡ Some st → slice_get u.steps k ≡ Some st) → flats_from w u.position n steps ≡ Some items
      → AreListed (inventory_of unit u) n steps
  unfolding flats_from
  all_listed n [] items every h = tt
  all_listed n (st ∷ later) items every h =
      let s = split (flat_of w (λ m. m) u.position n st) (flats_from w u.position (suc n) later) items h in (
        step_listed n st s.item (every 0 n st (omega arith) refl) s.item_is,
        all_listed (suc n) later s.later (λ i k st' at stands. every (suc i) k st' (omega (arith, at)) stands) s.later_is,
      )
