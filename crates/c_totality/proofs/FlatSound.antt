-- Expressions and statements that are read where their names are declared: their terms are known, and their items stand
-- in the code that they are part of.
use Rattle.std.specs.Prelude.{◌≡◌, ℕ, suc, ◌+◌, ◌<◌, ◌≤◌, true, List, [], ◌∷◌, ◌++◌, map, length, codes, Option, Some, None}
use Rattle.std.proofs.Common.{refl, sym, subst, ap, ◌∙◌}
use Rattle.std.proofs.lemmas.List.{length-append, map-append, append-nil}
use native.Mathlib.Omega.{arith}
use Rattle.c_laws.specs.c_tree.declared.expression.CExpr.{CExpr}
use Rattle.c_laws.specs.c_tree.declared.expression.CCall.{CCall}
use Rattle.c_laws.specs.c_tree.declared.statement.CCase.{CCase}
use Rattle.c_laws.specs.c_tree.declared.statement.CNext.{CNext}
use Rattle.c_laws.specs.c_tree.declared.statement.CStmt.{CStmt}
use Rattle.c_laws.specs.c_tree.declared.statement.CStmt.TheVariants as stmt
use Rattle.c_laws.specs.c_tree.Tokens.{Token}
use Rattle.c_laws.specs.c_tree.CWords.{is_among, Separated, last_item, one_item}
use Rattle.c_laws.specs.c_tree.CExpressionText as text
use Rattle.c_laws.specs.c_tree.CStatementText as statement
use Rattle.c_laws.specs.c_tree.CLabels.{LabelsOf, no_label, both, standing, labels_of, labels_of_all}
use Rattle.c_laws.specs.c_tree.Terms.{Term, Routine}
use Rattle.c_laws.specs.c_tree.Flat.{Flat, Assign, Branch, Jump, ReturnAnswer, Nothing, Ignored, Returned}
use Rattle.c_laws.specs.c_tree.Drafts.{Scope, Draft, bare, drafted, joined}
use Rattle.c_laws.specs.c_tree.LinkedExpressions.{linked, linked_all, linked_call, direct, Calling}
use Rattle.c_laws.specs.c_tree.FlatForm.{LabelAt, Labels, Body, one, sequence, empty, jump_to, jump, marked, invoked, set_call, return_call, returned, if_only, if_else, cases_from, case_jumps, switch, next_item, for_loop, do_while, body, body_of_all, is_return}
use Rattle.c_laws.specs.c_tree.Opened.{trees_opened}
use Rattle.c_laws.proofs.TreeEquations.{body-Block, body-Label, body-If, body-IfElse, body-For, body-DoWhile}
use Rattle.c_totality.specs.Sound.{Each, IsKnown}
use Rattle.c_totality.specs.Standing.{IsKnownCallee, IsCaseIn, Stands, AllStand}
use Rattle.c_totality.proofs.ListLaws.{each-left, each-right, each-both}

-- a function
pub data IsRoutine : Term → Type 0 where
  a_routine : (number : ℕ) → IsRoutine (Routine number)

-- the names of a text's scope are known where it is linked, those that are mentioned
pub record NamesKnown (of : text.Scope) (scope : Scope) (Mentioned : List ℕ → Type 0) : Type 0 where
  pub objects : (name : List ℕ) → is_among name of.objects ≡ true → Mentioned name → IsKnown (scope name)
  pub functions : (name : List ℕ) → is_among name of.functions ≡ true → Mentioned name → IsRoutine (scope name)
  pub pointers : (name : List ℕ) → is_among name of.pointers ≡ true → Mentioned name → IsKnown (scope name)
  pub truths : (name : List ℕ) → is_among name (codes "TRUE_" ∷ codes "FALSE_" ∷ []) ≡ true → Mentioned name → IsKnown (scope name)

pub routine-known : (term : Term) → IsRoutine term → IsKnown term
routine-known term (a_routine number) = tt

-- ## Expressions

name-known : {of : text.Scope} {scope : Scope} {M : List ℕ → Type 0} {name : List ℕ} → NamesKnown of scope M → text.IsKnown of name → M name → IsKnown (scope name)
name-known {name = name} names (text.declared_before (text.an_object among)) mentioned = names.objects name among mentioned
name-known {scope = scope} {name = name} names (text.declared_before (text.a_function among)) mentioned = routine-known (scope name) (names.functions name among mentioned)
name-known {name = name} names (text.a_truth among) mentioned = names.truths name among mentioned

-- an expression whose mentioned names are known is a known term
abbrev pub KnownDraft : Scope → (List ℕ → Type 0) → CExpr → Type 0
KnownDraft scope M e = (first : ℕ) → Each M (linked e).names → IsKnown ((linked e).drawn scope first)

pub expression-known : {of : text.Scope} {scope : Scope} {M : List ℕ → Type 0} {place : ℕ} {e : CExpr} {p q : List Token} → NamesKnown of scope M → text.ReadsExpr of place e p q → KnownDraft scope M e
unfolding trees_opened
expression-known names (text.a_number place n h x) first each = tt
expression-known names (text.a_string place bytes x) first each = tt
expression-known names (text.a_name place name known x) first each = name-known names known each.0
expression-known names (text.parenthesised place x d y) first each = expression-known names d first each
expression-known names (text.prefixed place o h x d) first each = expression-known names d first each
expression-known names (text.casted place to h x y z d) first each = expression-known names d first each
expression-known names (text.between place o {a = a} {b = b} h d x d') first each = (
  expression-known names d first (each-left _ (linked a).names (linked b).names each),
  expression-known names d' (first + length (linked a).strings) (each-right _ (linked a).names (linked b).names each),
)
expression-known names (text.chosen place {e = e} {a = a} {b = b} h d x d' y d'') first each =
    let front = each-left _ ((linked e).names ++ (linked a).names) (linked b).names each in (
      expression-known names d first (each-left _ (linked e).names (linked a).names front),
      (
        expression-known names d' (first + length (linked e).strings) (each-right _ (linked e).names (linked a).names front),
        expression-known names d'' (first + length ((linked e).strings ++ (linked a).strings)) (each-right _ ((linked e).names ++ (linked a).names) (linked b).names each),
      ),
    )
expression-known names (text.indexed place {e = e} {i = i} h d x d' y) first each = (
  expression-known names d first (each-left _ (linked e).names (linked i).names each),
  expression-known names d' (first + length (linked e).strings) (each-right _ (linked e).names (linked i).names each),
)
expression-known names (text.a_field place name h h' d x y) first each = expression-known names d first each
expression-known names (text.size place x y z w) first each = tt
expression-known names (text.extreme_of place which {a = a} {b = b} x y d z d' w) first each = (
  expression-known names d first (each-left _ (linked a).names (linked b).names each),
  expression-known names d' (first + length (linked a).strings) (each-right _ (linked a).names (linked b).names each),
)
expression-known names (text.magnitude place x y d z) first each = expression-known names d first each

-- ## Calls

separated-known : {of : text.Scope} {scope : Scope} {M : List ℕ → Type 0} {closing : List ℕ} {arguments : List CExpr} {p q : List Token} → NamesKnown of scope M →
    Separated (text.ReadsExpr of 0) closing arguments p q → (first : ℕ) → Each M (linked_all arguments).names → Each IsKnown ((linked_all arguments).drawn scope first)
separated-known names (last_item {one = e} d x) first each = (expression-known names d first (each-left _ (linked e).names [] each), tt)
separated-known names (one_item {one = e} {later = later} d x more) first each = (
  expression-known names d first (each-left _ (linked e).names (linked_all later).names each),
  separated-known names more (first + length (linked e).strings) (each-right _ (linked e).names (linked_all later).names each),
)

arguments-known : {of : text.Scope} {scope : Scope} {M : List ℕ → Type 0} {arguments : List CExpr} {p q : List Token} → NamesKnown of scope M →
    text.ReadsArguments of arguments p q → (first : ℕ) → Each M (linked_all arguments).names → Each IsKnown ((linked_all arguments).drawn scope first)
arguments-known names (text.no_argument x) first each = tt
arguments-known names (text.some_arguments all) first each = separated-known names all first each

direct-known : (term : Term) → IsRoutine term → IsKnownCallee (direct term)
direct-known term (a_routine number) = tt

abbrev pub IsKnownCalling : Calling → Type 0
IsKnownCalling calling = IsKnownCallee calling.callee × Each IsKnown calling.arguments

abbrev pub KnownCall : Scope → (List ℕ → Type 0) → CCall → Type 0
KnownCall scope M call = (first : ℕ) → Each M (linked_call call).names → IsKnownCalling ((linked_call call).drawn scope first)

pub call-known : {of : text.Scope} {scope : Scope} {M : List ℕ → Type 0} {call : CCall} {p q : List Token} → NamesKnown of scope M → text.ReadsCall of call p q → KnownCall scope M call
call-known {scope = scope} names (text.by_name name among x y all) first each =
    (direct-known (scope name) (names.functions name among each.0), arguments-known names all (first + 0) each.1)
call-known names (text.through_a_parameter name among x y z w v all) first each =
    (names.pointers name among each.0, arguments-known names all (first + 0) each.1)

-- ## Items

pub all-append : (count position : ℕ) (xs ys : List Flat) → AllStand count position xs → AllStand count (position + length xs) ys → AllStand count position (xs ++ ys)
all-append count position [] ys one two = subst (λ n. AllStand count n ys) (let e : position + 0 ≡ position = omega arith in e) two
all-append count position (x ∷ xs) ys one two =
    (one.0, all-append count (position + 1) xs ys one.1 (subst (λ n. AllStand count n ys) (let e : position + suc (length xs) ≡ position + 1 + length xs = omega arith in e) two))

pub all-behind : (count position size : ℕ) (xs ys : List Flat) → length xs ≡ size → AllStand count position xs → AllStand count (position + size) ys → AllStand count position (xs ++ ys)
all-behind count position size xs ys long one two = all-append count position xs ys one (subst (λ n. AllStand count (position + n) ys) (sym long) two)

-- a label that is named stands, and there is an item at it
pub record IsPlaced (at : Labels) (count : ℕ) (name : List ℕ) : Type 0 where
  pub place : ℕ
  pub is : at name ≡ Some place
  pub within : place < count

abbrev pub IsLabelIn : ℕ → LabelAt → Type 0
IsLabelIn count label = label.position < count

-- statements that stand in code with so much behind them
pub record Sits (slack : ℕ) (scope : Scope) (M : List ℕ → Type 0) (it : Body) (labels : LabelsOf) : Type 0 where
  pub some : 1 ≤ it.size + slack
  pub long : (first : ℕ) (at : Labels) (position : ℕ) → length (it.items.drawn scope first at position) ≡ it.size
  pub names : (position : ℕ) → map (λ (label : LabelAt). label.name) (it.labels position) ≡ labels.stand
  pub within : (position count : ℕ) → position + it.size + slack ≤ count → Each (IsLabelIn count) (it.labels position)
  pub stands : (first : ℕ) (at : Labels) (position count : ℕ) → Each M it.items.names → Each (IsPlaced at count) labels.named → position + it.size + slack ≤ count →
      AllStand count position (it.items.drawn scope first at position)

-- an item
abbrev pub StandsDraft : ℕ → Scope → (List ℕ → Type 0) → Draft Flat → Type 0
StandsDraft slack scope M item = (first position count : ℕ) → Each M item.names → position + 1 + slack ≤ count → Stands count position (item.drawn scope first)

pub sits-one : {slack : ℕ} {scope : Scope} {M : List ℕ → Type 0} (item : Draft Flat) → StandsDraft slack scope M item → Sits slack scope M (one item) no_label
sits-one item each =
    record {
      some = omega arith;
      long = λ first at position. refl;
      names = λ position. refl;
      within = λ position count fits. tt;
      stands = λ first at position count mentioned placed fits. (each first position count mentioned fits, tt);
    }

pub sits-loose : {scope : Scope} {M : List ℕ → Type 0} {it : Body} {labels : LabelsOf} → Sits 0 scope M it labels → Sits 1 scope M it labels
sits-loose {it = it} s =
    record {
      some = omega arith;
      long = s.long;
      names = s.names;
      within = λ position count fits. s.within position count (omega (arith, fits));
      stands = λ first at position count mentioned placed fits. s.stands first at position count mentioned placed (omega (arith, fits));
    }

pub sits-empty : {scope : Scope} {M : List ℕ → Type 0} → Sits 1 scope M empty no_label
sits-empty =
    record {
      some = omega arith;
      long = λ first at position. refl;
      names = λ position. refl;
      within = λ position count fits. tt;
      stands = λ first at position count mentioned placed fits. tt;
    }

pub sits-sequence : {slack : ℕ} {scope : Scope} {M : List ℕ → Type 0} {a b : Body} {la lb : LabelsOf} → Sits 1 scope M a la → Sits slack scope M b lb → Sits slack scope M (sequence a b) (both la lb)
sits-sequence {slack = slack} {scope = scope} {a = a} {b = b} {la = la} {lb = lb} s t =
    let some = t.some in
    record {
      some = omega (arith, some);
      long = λ first at position.
          let x = s.long first at position in
          let y = t.long (first + length a.items.strings) at (position + a.size) in
          let z = length-append (a.items.drawn scope first at position) (b.items.drawn scope (first + length a.items.strings) at (position + a.size)) in
          omega (arith, x, y, z);
      names = λ position. map-append _ (a.labels position) (b.labels (position + a.size)) ∙ ap (λ l. l ++ map (λ (label : LabelAt). label.name) (b.labels (position + a.size))) (s.names position) ∙ ap (λ l. la.stand ++ l) (t.names (position + a.size));
      within = λ position count fits.
          each-both _ (a.labels position) (b.labels (position + a.size)) (s.within position count (omega (arith, some, fits))) (t.within (position + a.size) count (omega (arith, fits)));
      stands = λ first at position count mentioned placed fits.
          all-behind count position a.size (a.items.drawn scope first at position) (b.items.drawn scope (first + length a.items.strings) at (position + a.size))
          (s.long first at position)
          (s.stands first at position count (each-left _ a.items.names b.items.names mentioned) (each-left _ la.named lb.named placed) (omega (arith, some, fits)))
          (t.stands (first + length a.items.strings) at (position + a.size) count (each-right _ a.items.names b.items.names mentioned) (each-right _ la.named lb.named placed) (omega (arith, fits)));
    }

jump-stands : (count position : ℕ) (to : Option ℕ) (place : ℕ) → to ≡ Some place → place < count → Stands count position (jump_to to)
jump-stands count position to place is within = subst (λ o. Stands count position (jump_to o)) (sym is) within

pub sits-jump : {scope : Scope} {M : List ℕ → Type 0} (label : List ℕ) → Sits 1 scope M (jump label) (record { stand = []; named = label ∷ [] })
sits-jump label =
    record {
      some = omega arith;
      long = λ first at position. refl;
      names = λ position. refl;
      within = λ position count fits. tt;
      stands = λ first at position count mentioned placed fits. (jump-stands count position (at label) placed.0.place placed.0.is placed.0.within, tt);
    }

pub sits-marked : {slack : ℕ} {scope : Scope} {M : List ℕ → Type 0} {it : Body} {labels : LabelsOf} (name : List ℕ) → Sits slack scope M it labels → Sits slack scope M (marked name it) (standing name labels)
sits-marked {it = it} name s =
    let some = s.some in
    record {
      some = some;
      long = s.long;
      names = λ position. ap (λ l. name ∷ l) (s.names position);
      within = λ position count fits. (omega (arith, some, fits), s.within position count fits);
      stands = s.stands;
    }

pub sits-if_only : {scope : Scope} {M : List ℕ → Type 0} {it : Body} {labels : LabelsOf} (test : CExpr) → KnownDraft scope M test → Sits 1 scope M it labels → Sits 1 scope M (if_only test it) (both labels no_label)
sits-if_only {scope = scope} {it = it} {labels = labels} test known s =
    record {
      some = omega arith;
      long = λ first at position. let x = s.long (first + length (linked test).strings) at (position + 1) in omega (arith, x);
      names = λ position. s.names (position + 1) ∙ sym (append-nil labels.stand);
      within = λ position count fits. s.within (position + 1) count (omega (arith, fits));
      stands = λ first at position count mentioned placed fits. (
        (known first (each-left _ (linked test).names it.items.names mentioned), (omega (arith, fits), omega (arith, fits))),
        s.stands (first + length (linked test).strings) at (position + 1) count (each-right _ (linked test).names it.items.names mentioned) (each-left _ labels.named [] placed) (omega (arith, fits)),
      );
    }

pub sits-if_else : {scope : Scope} {M : List ℕ → Type 0} {a b : Body} {la lb : LabelsOf} (test : CExpr) → KnownDraft scope M test → Sits 1 scope M a la → Sits 1 scope M b lb → Sits 1 scope M (if_else test a b) (both la lb)
sits-if_else {scope = scope} {a = a} {b = b} {la = la} {lb = lb} test known s t =
    record {
      some = omega arith;
      long = λ first at position.
          let x = s.long (first + length (linked test).strings) at (position + 1) in
          let y = t.long (first + length ((linked test).strings ++ a.items.strings)) at (position + 2 + a.size) in
          let z = length-append (a.items.drawn scope (first + length (linked test).strings) at (position + 1))
          (Jump (position + 2 + a.size + b.size) ∷ b.items.drawn scope (first + length ((linked test).strings ++ a.items.strings)) at (position + 2 + a.size)) in
          omega (arith, x, y, z);
      names = λ position. map-append _ (a.labels (position + 1)) (b.labels (position + 2 + a.size)) ∙ ap (λ l. l ++ map (λ (label : LabelAt). label.name) (b.labels (position + 2 + a.size))) (s.names (position + 1)) ∙ ap (λ l. la.stand ++ l) (t.names (position + 2 + a.size));
      within = λ position count fits.
          each-both _ (a.labels (position + 1)) (b.labels (position + 2 + a.size)) (s.within (position + 1) count (omega (arith, fits))) (t.within (position + 2 + a.size) count (omega (arith, fits)));
      stands = λ first at position count mentioned placed fits.
          let front = each-left _ ((linked test).names ++ a.items.names) b.items.names mentioned in
          let other = b.items.drawn scope (first + length ((linked test).strings ++ a.items.strings)) at (position + 2 + a.size) in (
            (known first (each-left _ (linked test).names a.items.names front), (omega (arith, fits), omega (arith, fits))),
            all-behind count (position + 1) a.size (a.items.drawn scope (first + length (linked test).strings) at (position + 1)) (Jump (position + 2 + a.size + b.size) ∷ other)
                (s.long (first + length (linked test).strings) at (position + 1))
                (s.stands (first + length (linked test).strings) at (position + 1) count (each-right _ (linked test).names a.items.names front) (each-left _ la.named lb.named placed) (omega (arith, fits))) (
                  omega (arith, fits),
                  subst (λ n. AllStand count n other) (let e : position + 2 + a.size ≡ position + 1 + a.size + 1 = omega arith in e)
                      (t.stands (first + length ((linked test).strings ++ a.items.strings)) at (position + 2 + a.size) count (each-right _ ((linked test).names ++ a.items.names) b.items.names mentioned) (each-right _ la.named lb.named placed) (omega (arith, fits))),
                ),
          );
    }

cases-in : (count position : ℕ) (cases : List CCase) → position + length cases ≤ count → Each (IsCaseIn count) (cases_from position cases)
cases-in count position [] fits = tt
cases-in count position (case ∷ later) fits = (omega (arith, fits), cases-in count (position + 1) later (omega (arith, fits)))

jumps-stand : (count position : ℕ) (cases : List CCase) (at : Labels) → Each (IsPlaced at count) (map (λ (case : CCase). case.label) cases) → AllStand count position (case_jumps cases at)
jumps-stand count position [] at placed = tt
jumps-stand count position (case ∷ later) at placed =
    (jump-stands count position (at case.label) placed.0.place placed.0.is placed.0.within, jumps-stand count (position + 1) later at placed.1)

jumps-long : (cases : List CCase) (at : Labels) → length (case_jumps cases at) ≡ length cases
jumps-long [] at = refl
jumps-long (case ∷ later) at = ap suc (jumps-long later at)

pub sits-switch : {scope : Scope} {M : List ℕ → Type 0} (value : CExpr) (cases : List CCase) → KnownDraft scope M value →
    Sits 1 scope M (switch value cases) (record { stand = []; named = map (λ (case : CCase). case.label) cases })
sits-switch value cases known =
    record {
      some = omega arith;
      long = λ first at position. let x = jumps-long cases at in omega (arith, x);
      names = λ position. refl;
      within = λ position count fits. tt;
      stands = λ first at position count mentioned placed fits.
          ((known first mentioned, (cases-in count (position + 1) cases (omega (arith, fits)), omega (arith, fits))), jumps-stand count (position + 1) cases at placed);
    }

pub sits-for : {scope : Scope} {M : List ℕ → Type 0} {it : Body} {labels : LabelsOf} (variable start test : CExpr) (turn : CNext) → KnownDraft scope M variable → KnownDraft scope M start → KnownDraft scope M test →
    StandsDraft 1 scope M (next_item turn) → Sits 1 scope M it labels → Sits 1 scope M (for_loop variable start test turn it) labels
sits-for {scope = scope} {it = it} {labels = labels} variable start test turn known known' known'' next s =
    record {
      some = omega arith;
      long = λ first at position.
          let n = first + length ((linked variable).strings ++ (linked start).strings) in
          let m = n + length ((linked test).strings ++ it.items.strings) in
          let x = s.long (n + length (linked test).strings) at (position + 1 + 1) in
          let z = length-append (it.items.drawn scope (n + length (linked test).strings) at (position + 1 + 1)) ((next_item turn).drawn scope m ∷ Jump (position + 1) ∷ []) in
          omega (arith, x, z);
      names = λ position. s.names (position + 2);
      within = λ position count fits. s.within (position + 2) count (omega (arith, fits));
      stands = λ first at position count mentioned placed fits.
          let n = first + length ((linked variable).strings ++ (linked start).strings) in
          let m = n + length ((linked test).strings ++ it.items.strings) in
          let front = each-left _ ((linked variable).names ++ (linked start).names) (((linked test).names ++ it.items.names) ++ (next_item turn).names) mentioned in
          let rest = each-right _ ((linked variable).names ++ (linked start).names) (((linked test).names ++ it.items.names) ++ (next_item turn).names) mentioned in
          let middle = each-left _ ((linked test).names ++ it.items.names) (next_item turn).names rest in (
            (known first (each-left _ (linked variable).names (linked start).names front), (known' (first + length (linked variable).strings) (each-right _ (linked variable).names (linked start).names front), omega (arith, fits))),
            (
              (known'' n (each-left _ (linked test).names it.items.names middle), (omega (arith, fits), omega (arith, fits))),
              all-behind count (position + 1 + 1) it.size (it.items.drawn scope (n + length (linked test).strings) at (position + 1 + 1)) ((next_item turn).drawn scope m ∷ Jump (position + 1) ∷ [])
                  (s.long (n + length (linked test).strings) at (position + 1 + 1))
                  (s.stands (n + length (linked test).strings) at (position + 1 + 1) count (each-right _ (linked test).names it.items.names middle) placed (omega (arith, fits)))
                  (next m (position + 1 + 1 + it.size) count (each-right _ ((linked test).names ++ it.items.names) (next_item turn).names rest) (omega (arith, fits)), (omega (arith, fits), tt)),
            ),
          );
    }

pub sits-do_while : {scope : Scope} {M : List ℕ → Type 0} {it : Body} {labels : LabelsOf} (test : CExpr) → KnownDraft scope M test → Sits 1 scope M it labels → Sits 1 scope M (do_while it test) labels
sits-do_while {scope = scope} {it = it} test known s =
    record {
      some = omega arith;
      long = λ first at position.
          let x = s.long first at position in
          let z = length-append (it.items.drawn scope first at position) (Branch ((linked test).drawn scope (first + length it.items.strings)) position (position + it.size + 1) ∷ []) in
          omega (arith, x, z);
      names = s.names;
      within = λ position count fits. s.within position count (omega (arith, fits));
      stands = λ first at position count mentioned placed fits.
          all-behind count position it.size (it.items.drawn scope first at position) (Branch ((linked test).drawn scope (first + length it.items.strings)) position (position + it.size + 1) ∷ [])
          (s.long first at position)
          (s.stands first at position count (each-left _ it.items.names (linked test).names mentioned) placed (omega (arith, fits)))
          ((known (first + length it.items.strings) (each-right _ it.items.names (linked test).names mentioned), (omega (arith, fits), omega (arith, fits))), tt);
    }

-- ## Statements

pub sits-at : {slack : ℕ} {scope : Scope} {M : List ℕ → Type 0} {a b : Body} {la lb : LabelsOf} → a ≡ b → la ≡ lb → Sits slack scope M b lb → Sits slack scope M a la
sits-at {slack = slack} {scope = scope} {M = M} {a = a} {lb = lb} same same' s =
    subst (λ l. Sits slack scope M a l) (sym same') (subst (λ x. Sits slack scope M x lb) (sym same) s)

labels-Block : (statements : List CStmt) → labels_of (stmt.Block statements) ≡ labels_of_all statements
unfolding trees_opened
labels-Block [] = refl
labels-Block (first ∷ later) = ap (both (labels_of first)) (labels-Block later)

labels-Label : (name : List ℕ) (statement : CStmt) → labels_of (stmt.Label name statement) ≡ standing name (labels_of statement)
unfolding trees_opened
labels-Label name statement = refl

labels-If : (test : CExpr) (first : List CStmt) → labels_of (stmt.If test first None) ≡ both (labels_of_all first) no_label
unfolding trees_opened
labels-If test first = ap (λ l. both l no_label) (labels-Block first)

labels-IfElse : (test : CExpr) (first second : List CStmt) → labels_of (stmt.If test first (Some second)) ≡ both (labels_of_all first) (labels_of_all second)
unfolding trees_opened
labels-IfElse test first second = ap (λ l. both l (labels_of (stmt.Block second))) (labels-Block first) ∙ ap (both (labels_of_all first)) (labels-Block second)

labels-For : (variable first test : CExpr) (next : CNext) (turn : List CStmt) → labels_of (stmt.For variable first test next turn) ≡ labels_of_all turn
unfolding trees_opened
labels-For variable first test next turn = labels-Block turn

labels-DoWhile : (turn : List CStmt) (test : CExpr) → labels_of (stmt.DoWhile turn test) ≡ labels_of_all turn
unfolding trees_opened
labels-DoWhile turn test = labels-Block turn

tested-known : {of : text.Scope} {scope : Scope} {M : List ℕ → Type 0} {word : List ℕ} {e : CExpr} {p q : List Token} → NamesKnown of scope M → statement.ReadsTested of word e p q → KnownDraft scope M e
tested-known names (statement.tested word x y d z) = expression-known names d

next-stands : {of : text.Scope} {scope : Scope} {M : List ℕ → Type 0} {turn : CNext} {p q : List Token} → NamesKnown of scope M → statement.ReadsNext of turn p q → StandsDraft 1 scope M (next_item turn)
next-stands names (statement.up x d) first position count mentioned fits =
    let known = expression-known names d first mentioned in (known, ((known, tt), omega (arith, fits)))
next-stands names (statement.down x d) first position count mentioned fits =
    let known = expression-known names d first mentioned in (known, ((known, tt), omega (arith, fits)))
next-stands names (statement.added {target = target} {e = e} d x d') first position count mentioned fits =
    let known = expression-known names d first (each-left _ (linked target).names (linked e).names mentioned) in
    (known, ((known, expression-known names d' (first + length (linked target).strings) (each-right _ (linked target).names (linked e).names mentioned)), omega (arith, fits)))

-- the head of a `for`
record ForKnown (scope : Scope) (M : List ℕ → Type 0) (target first test : CExpr) (turn : CNext) : Type 0 where
  pub target_known : KnownDraft scope M target
  pub first_known : KnownDraft scope M first
  pub test_known : KnownDraft scope M test
  pub turn_stands : StandsDraft 1 scope M (next_item turn)

for-known : {of : text.Scope} {scope : Scope} {M : List ℕ → Type 0} {target first test : CExpr} {turn : CNext} {p q : List Token} → NamesKnown of scope M →
    statement.ReadsFor of target first test turn p q → ForKnown scope M target first test turn
for-known names (statement.for_head x y d z d' w d'' v n u) =
    record { target_known = expression-known names d; first_known = expression-known names d'; test_known = expression-known names d''; turn_stands = next-stands names n }

return_call-sits : {scope : Scope} {M : List ℕ → Type 0} (call : CCall) → KnownCall scope M call → Sits 0 scope M (return_call call) no_label
return_call-sits {scope = scope} {M = M} call known =
    sits-sequence {la = no_label} {lb = no_label}
    (sits-one (drafted (invoked Returned) (linked_call call)) (λ first position count mentioned fits. let k = known first mentioned in (tt, (k.0, (k.1, omega (arith, fits))))))
    (sits-one {slack = 0} {scope = scope} {M = M} (bare ReturnAnswer) (λ first position count mentioned fits. tt))

pub return-sits : {scope : Scope} {M : List ℕ → Type 0} → Sits 0 scope M (one (returned None)) no_label
return-sits {scope = scope} {M = M} = sits-one {slack = 0} {scope = scope} {M = M} (returned None) (λ first position count mentioned fits. tt)

return_value-sits : {scope : Scope} {M : List ℕ → Type 0} (e : CExpr) → KnownDraft scope M e → Sits 0 scope M (one (returned (Some e))) no_label
return_value-sits e known = sits-one (returned (Some e)) (λ first position count mentioned fits. known first mentioned)

mutual
  pub statement-sits : {of : text.Scope} {scope : Scope} {M : List ℕ → Type 0} {s : CStmt} {p q : List Token} → NamesKnown of scope M → statement.ReadsStmt of s p q → Sits 1 scope M (body s) (labels_of s)
  statement-sits {scope = scope} {M = M} names (statement.assigned {target = target} {e = e} d x d' y) =
      sits-one (joined Assign (linked target) (linked e)) (λ first position count mentioned fits. (
        expression-known names d first (each-left _ (linked target).names (linked e).names mentioned),
        (expression-known names d' (first + length (linked target).strings) (each-right _ (linked target).names (linked e).names mentioned), omega (arith, fits)),
      ))
  statement-sits names (statement.assigned_call {target = target} {call = call} d x c y) =
      sits-one (set_call target call) (λ first position count mentioned fits.
      let k = call-known names c (first + length (linked target).strings) (each-right _ (linked target).names (linked_call call).names mentioned) in
      (expression-known names d first (each-left _ (linked target).names (linked_call call).names mentioned), (k.0, (k.1, omega (arith, fits)))))
  statement-sits names (statement.called {call = call} c x) =
      sits-one (drafted (invoked Ignored) (linked_call call)) (λ first position count mentioned fits. let k = call-known names c first mentioned in (tt, (k.0, (k.1, omega (arith, fits)))))
  statement-sits names (statement.empty x) = sits-one (bare Nothing) (λ first position count mentioned fits. omega (arith, fits))
  statement-sits names (statement.a_block {inner = inner} x all) = sits-at (body-Block inner) (labels-Block inner) (statements-sit names all)
  statement-sits names (statement.labelled label {inner = inner} h x y d) = sits-at (body-Label label inner) (labels-Label label inner) (sits-marked label (statement-sits names d))
  statement-sits names (statement.jump label x y z) = sits-jump label
  statement-sits names (statement.returned x y) = sits-loose return-sits
  statement-sits names (statement.returned_value {e = e} x d y) = sits-loose (return_value-sits e (expression-known names d))
  statement-sits names (statement.returned_call {call = call} x c y) = sits-loose (return_call-sits call (call-known names c))
  statement-sits names (statement.if_only {e = e} {first = first} t x all) = sits-at (body-If e first) (labels-If e first) (sits-if_only e (tested-known names t) (statements-sit names all))
  statement-sits names (statement.if_else {e = e} {first = first} {second = second} t x all y z all') =
      sits-at (body-IfElse e first second) (labels-IfElse e first second) (sits-if_else e (tested-known names t) (statements-sit names all) (statements-sit names all'))
  statement-sits names (statement.switched {e = e} {cases = cases} h t x c) = sits-switch e cases (tested-known names t)
  statement-sits names (statement.repeated_for {target = target} {first = first} {test = test} {turn = turn} {inner = inner} f x all) =
      let known = for-known names f in
      sits-at (body-For target first test turn inner) (labels-For target first test turn inner)
      (sits-for target first test turn known.target_known known.first_known known.test_known known.turn_stands (statements-sit names all))
  statement-sits names (statement.repeated_do {inner = inner} {e = e} x y all t z) =
      sits-at (body-DoWhile inner e) (labels-DoWhile inner e) (sits-do_while e (tested-known names t) (statements-sit names all))

  pub statements-sit : {of : text.Scope} {scope : Scope} {M : List ℕ → Type 0} {ss : List CStmt} {p q : List Token} → NamesKnown of scope M → statement.ReadsStmts of ss p q → Sits 1 scope M (body_of_all ss) (labels_of_all ss)
  statements-sit names (statement.closed x) = sits-empty
  statements-sit names (statement.one_more d more) = sits-sequence (statement-sits names d) (statements-sit names more)

-- ## The last statement of a function, where it is a return

pub last-sits : {of : text.Scope} {scope : Scope} {M : List ℕ → Type 0} {s : CStmt} {p q : List Token} → NamesKnown of scope M → is_return s ≡ true → statement.ReadsStmt of s p q → Sits 0 scope M (body s) (labels_of s)
unfolding trees_opened
last-sits names is (statement.labelled label {inner = inner} h x y d) = sits-marked label (last-sits names is d)
last-sits names is (statement.returned x y) = return-sits
last-sits names is (statement.returned_value {e = e} x d y) = return_value-sits e (expression-known names d)
last-sits names is (statement.returned_call {call = call} x c y) = return_call-sits call (call-known names c)
last-sits names is (statement.assigned d x d' y) = absurd (cc)
last-sits names is (statement.assigned_call d x c y) = absurd (cc)
last-sits names is (statement.called c x) = absurd (cc)
last-sits names is (statement.empty x) = absurd (cc)
last-sits names is (statement.a_block x all) = absurd (cc)
last-sits names is (statement.jump label x y z) = absurd (cc)
last-sits names is (statement.if_only t x all) = absurd (cc)
last-sits names is (statement.if_else t x all y z all') = absurd (cc)
last-sits names is (statement.switched h t x c) = absurd (cc)
last-sits names is (statement.repeated_for f x all) = absurd (cc)
last-sits names is (statement.repeated_do x y all t z) = absurd (cc)
