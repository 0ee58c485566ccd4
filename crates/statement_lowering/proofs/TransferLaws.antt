-- The steps of a transfer.
use Rattle.std.specs.Prelude.{◌≡◌, ℕ, zero, suc, ◌<◌, ◌≤◌, Bool, true, false, List, [], ◌∷◌, ◌++◌, length, reverse, Option, Some, None, Result, Ok, Err, OnOk}
use Rattle.std.specs.declared.alloc.AllocError.{AllocError}
use Rattle.std.proofs.Common.{refl, ap, sym, subst, ◌∙◌, drop, get_or, drop-cons, arith}
use Rattle.std.proofs.lemmas.List.{drop_all, length-map, length-reverse}
use Rattle.f_tree.specs.declared.names.Class.{Class}
use Rattle.f_tree.specs.declared.names.Class.TheVariants as class
use Rattle.f_tree.specs.declared.expressions.BinaryOp.{BinaryOp}
use Rattle.f_tree.specs.declared.expressions.BinaryOp.TheVariants as op
use Rattle.f_tree.specs.declared.expressions.Expr.{Expr, Int, Logical, Text, Name, Apply', Part', Minus', Plus', Not', Paren', Binary', AltReturn, Bind', Bound, more_of-Expr}
use Rattle.f_tree.specs.declared.statements.Control.{Control}
use Rattle.f_tree.specs.declared.statements.Direction.{Direction}
use Rattle.f_tree.specs.declared.statements.Direction.TheVariants as ways
use Rattle.f_tree.specs.declared.statements.ListItem.{ListItem}
use Rattle.f_tree.specs.declared.statements.ListItem as items
use Rattle.f_tree.specs.Folds.{fold_expr, fold_exprs, fold_held}
use Rattle.f_tree.specs.Values.{Bytes, Datum}
use Rattle.f_tree.specs.Facts as fact
use Rattle.f_tree.specs.Facts.{Attribute}
use Rattle.f_tree.specs.Terms.{Function, Term, NoMore, More, terms}
use Rattle.f_tree.specs.Reading.{Read, read, valued_only, placed, function_named, function_read, intrinsic_read, expanded_read, joined_read, name_read, applied_read, binary_read, layer_read}
use Rattle.f_tree.specs.Lines.{Naming, value_of, place_of, settled, item_of, job_of, jobs_of, controls_of, controls_written, layout_written, way_of, transfer_form}
use Rattle.lowered_tree.specs.l_core.Pures as core
use Rattle.lowered_tree.specs.l_core.Steps as act
use Rattle.lowering.specs.Expressions as low
use Rattle.lowering.specs.Statements.{item_purpose, item_code, work_code, begin_code, with_operands, form_code, head_code}
use Rattle.lowered_tree.specs.declared.pures.Pure.{Pure}
use Rattle.lowered_tree.specs.declared.steps.Step.{Step}
use Rattle.lowered_tree.specs.Shapes.{pure_of, pures_of, step_of, steps_of}
use Rattle.name_facts.specs.declared.table.NameFacts.{NameFacts}
use Rattle.name_facts.specs.GivenFacts.{fact_in}
use Rattle.expression_lowering.specs.declared.answers.Lowered.{Lowered}
use Rattle.expression_lowering.specs.TableNames.{attribute_of, attribute_in, reading, AreFactsOf, is_lowered_value, all_lower}
use Rattle.expression_lowering.specs.Outcomes.{IsLowered}
use Rattle.expression_lowering.proofs.Agreement.{read-agrees}
use Rattle.expression_lowering.proofs.CoveredForms.{and-left, and-right}
use Rattle.statement_lowering.specs.declared.around.Around.{Around}
use Rattle.statement_lowering.specs.declared.controls.Taken.{Taken}
use Rattle.statement_lowering.specs.declared.controls.Taken.TheVariants as taken
use Rattle.statement_lowering.specs.StatementOutcomes.{AreAdded, IsLoweredForm}
use Rattle.statement_lowering.specs.TransferForms.{transferring, taking, taking_or, is_listed, operands_in}
use Rattle.statement_lowering.specs.LoweredTransfers.{is_variable, is_element, layer_fetched, is_fetched, controls_lower, item_lowers, items_lower, transfer_lowers, IsLoweredTerm, AreLoweredOperands, AreLoweredTerms}
use Rattle.statement_lowering.proofs.Additions.{AreOperands, operands-closed, operand-one}
use Rattle.statement_lowering.proofs.TransferItems.{job-Item}

-- WHAT IS TAKEN OF AN ITEM
pub item-received : (names : Naming) (layout : fact.Layout) (e : Expr) → taking_or taken.Alone e names ≡ item_of fact.Input layout names e
unfolding taking_or taking item_of place_of
item-received names layout e = refl

pub item-listed : (names : Naming) (layout : fact.Layout) (e : Expr) → is_listed layout ≡ true → taking_or taken.Value e names ≡ item_of fact.Output layout names e
unfolding taking_or taking item_of value_of is_listed
item-listed names fact.Listed e h = refl
item-listed names (fact.Labelled l) e h = absurd (cc)
item-listed names fact.Computed e h = absurd (cc)
item-listed names fact.Unformatted e h = absurd (cc)

pub item-settled : (names : Naming) (layout : fact.Layout) (e : Expr) → is_listed layout ≡ false → settled names (read names e) ≡ item_of fact.Output layout names e
unfolding item_of is_listed
item-settled names fact.Listed e h = absurd (cc)
item-settled names (fact.Labelled l) e h = refl
item-settled names fact.Computed e h = refl
item-settled names fact.Unformatted e h = refl

pub item-read : (names : Naming) (way : Direction) (layout : fact.Layout) (e : Expr) → way ≡ ways.Read → item_of fact.Input layout names e ≡ item_of (way_of way) layout names e
unfolding way_of
item-read names way layout e is = sym (ap (λ w. item_of (way_of w) layout names e) is)

pub item-written : (names : Naming) (way : Direction) (layout : fact.Layout) (e : Expr) → way ≡ ways.Write → item_of fact.Output layout names e ≡ item_of (way_of way) layout names e
unfolding way_of
item-written names way layout e is = sym (ap (λ w. item_of (way_of w) layout names e) is)

-- WHAT ITS VALUE IS FOR
unfoldable purposed : Bool → low.Purpose
purposed true = low.ForUse
purposed false = low.ForCall

purposed-variable : (x : Bytes) (a : Attribute) (c : Class) (d : Option Datum) →
    item_purpose (name_read x (record a { class = c; constant = d; expansion = None })).value ≡ purposed (is_variable c)
unfolding purposed item_purpose name_read is_variable valued_only placed
purposed-variable x a class.Constant None = refl
purposed-variable x a class.Constant (Some d) = refl
purposed-variable x a class.StatementFunction d = refl
purposed-variable x a class.Stored d = refl
purposed-variable x a class.Dummy d = refl
purposed-variable x a class.Result d = refl
purposed-variable x a class.Procedure d = refl
purposed-variable x a class.DummyProcedure d = refl
purposed-variable x a class.Intrinsic d = refl
purposed-variable x a class.Unit d = refl

purposed-intrinsic : (x : Bytes) (a : Attribute) (rs : List Read) (f : Option Function) → item_purpose (intrinsic_read x a rs f).value ≡ low.ForCall
unfolding item_purpose intrinsic_read function_read valued_only
purposed-intrinsic x a rs None = refl
purposed-intrinsic x a rs (Some f) = refl

purposed-expanded : (x : Bytes) (a : Attribute) (rs : List Read) (o : Option Term) → item_purpose (expanded_read x a rs o).value ≡ low.ForCall
unfolding item_purpose expanded_read function_read valued_only
purposed-expanded x a rs None = refl
purposed-expanded x a rs (Some t) = refl

purposed-element : (x : Bytes) (a : Attribute) (rs : List Read) (c : Class) → item_purpose (applied_read x (record a { class = c }) rs).value ≡ purposed (is_element c)
unfolding purposed item_purpose applied_read is_element function_read valued_only placed
purposed-element x a rs class.Intrinsic = purposed-intrinsic x (record a { class = class.Intrinsic }) rs (function_named x)
purposed-element x a rs class.StatementFunction = purposed-expanded x (record a { class = class.StatementFunction }) rs a.expansion
purposed-element x a rs class.Constant = refl
purposed-element x a rs class.Stored = refl
purposed-element x a rs class.Dummy = refl
purposed-element x a rs class.Result = refl
purposed-element x a rs class.Procedure = refl
purposed-element x a rs class.DummyProcedure = refl
purposed-element x a rs class.Unit = refl

purposed-binary : (o : BinaryOp) (r s : Read) → item_purpose (binary_read o r s).value ≡ low.ForCall
unfolding item_purpose binary_read valued_only joined_read
purposed-binary op.Power r s = refl
purposed-binary op.Times r s = refl
purposed-binary op.Divide r s = refl
purposed-binary op.Plus r s = refl
purposed-binary op.Minus r s = refl
purposed-binary op.Concatenate r s = refl
purposed-binary op.Less r s = refl
purposed-binary op.LessOrEqual r s = refl
purposed-binary op.Equal r s = refl
purposed-binary op.NotEqual r s = refl
purposed-binary op.Greater r s = refl
purposed-binary op.GreaterOrEqual r s = refl
purposed-binary op.And r s = refl
purposed-binary op.Or r s = refl
purposed-binary op.Equivalent r s = refl
purposed-binary op.NotEquivalent r s = refl

purposed-tree : (table : NameFacts) (e : Expr) → item_purpose (fold_expr (layer_read (attribute_in table)) e).value ≡ purposed (fold_expr (layer_fetched table) e)
unfolding purposed item_purpose fold_expr layer_read layer_fetched attribute_in attribute_of valued_only placed
purposed-tree table (Int z) = refl
purposed-tree table (Logical b) = refl
purposed-tree table (Text cs) = refl
purposed-tree table (Name x) = purposed-variable x (attribute_in table x) (fact_in table x).class (attribute_in table x).constant
purposed-tree table (Apply' x s row) = purposed-element x (attribute_in table x) (fold_exprs (layer_read (attribute_in table)) row) (fact_in table x).class
purposed-tree table (Part' s (more_of-Expr e r) from to) = refl
purposed-tree table (Minus' s (more_of-Expr e r)) = refl
purposed-tree table (Plus' s (more_of-Expr e r)) = purposed-tree table e
purposed-tree table (Not' s (more_of-Expr e r)) = refl
purposed-tree table (Paren' s (more_of-Expr e r)) = purposed-tree table e
purposed-tree table (Binary' o s (more_of-Expr a r) t (more_of-Expr b q)) =
    purposed-binary o (fold_expr (layer_read (attribute_in table)) a) (fold_expr (layer_read (attribute_in table)) b)
purposed-tree table (AltReturn l) = refl
purposed-tree table (Bind' s row t (more_of-Expr e q)) = refl
purposed-tree table (Bound k) = refl

purposed-agrees : (names : Naming) (table : NameFacts) → AreFactsOf names table → (e : Expr) → is_lowered_value table e ≡ true →
    item_purpose (taking taken.Value e names) ≡ purposed (is_fetched table e)
unfolding is_fetched reading read taking
purposed-agrees names table told e h = ap (λ (r : Read). item_purpose r.value) (read-agrees names table told e h) ∙ purposed-tree table e

pub fetched-purpose : (names : Naming) (table : NameFacts) → AreFactsOf names table → (e : Expr) → is_lowered_value table e ≡ true → is_fetched table e ≡ true →
    low.ForUse ≡ item_purpose (taking taken.Value e names)
unfolding purposed
fetched-purpose names table told e h fetched = sym (purposed-agrees names table told e h ∙ ap purposed fetched)

pub valued-purpose : (names : Naming) (table : NameFacts) → AreFactsOf names table → (e : Expr) → is_lowered_value table e ≡ true → is_fetched table e ≡ false →
    low.ForCall ≡ item_purpose (taking taken.Value e names)
unfolding purposed
valued-purpose names table told e h fetched = sym (purposed-agrees names table told e h ∙ ap purposed fetched)

pub alone-purpose : (names : Naming) (e : Expr) → low.ForCall ≡ item_purpose (taking taken.Alone e names)
unfolding item_purpose taking
alone-purpose names e = refl

pub whole-purpose : (names : Naming) (e : Expr) → low.ForCall ≡ item_purpose (taking taken.Whole e names)
unfolding item_purpose taking
whole-purpose names e = refl

-- THE STEPS OF AN ITEM
item-coded : (k : ℕ) (t : Term) (none one : List Step) (p : core.Pure) (more : List act.Step) (n : ℕ) → none ≡ [] → length more ≡ n →
    AreOperands (low.lower_all core.NoPure (item_purpose t) k (More t NoMore)) none one (core.AndPure p core.NoPure) →
    item_code k t (Some more) ≡ Some (steps_of one ++ act.Acts act.Takes (core.AndPure p core.NoPure) n ∷ more)
unfolding item_code
item-coded k t none one p more n empty many are =
    ap Some
    (ap (λ ss. ss ++ act.Acts act.Takes (low.lower_all core.NoPure (item_purpose t) k (More t NoMore)).value (length more) ∷ more) (sym (are.steps ∙ ap (λ (ns : List Step). steps_of ns ++ (low.lower_all core.NoPure (item_purpose t) k (More t NoMore)).steps) empty))
    ∙ ap (λ ps. steps_of one ++ act.Acts act.Takes ps (length more) ∷ more) (sym are.values) ∙ ap (λ m. steps_of one ++ act.Acts act.Takes (core.AndPure p core.NoPure) m ∷ more) many)

item-lowered : (names : Naming) (table : NameFacts) (way : fact.Direction) (layout : fact.Layout) (e : Expr) (t : Taken) (q : low.Purpose) (k : ℕ) (none one behind after : List Step) (l : Lowered) →
    AreFactsOf names table → taking t e names ≡ item_of way layout names e → q ≡ item_purpose (taking t e names) → none ≡ [] → IsLoweredTerm table (taking t e) q k none one l →
    steps_of (reverse after) ≡ steps_of one ++ act.Acts act.Takes (core.AndPure (pure_of l.value) core.NoPure) (length behind) ∷ steps_of (reverse behind) →
    item_code k (item_of way layout names e) (Some (steps_of (reverse behind))) ≡ Some (steps_of (reverse after))
item-lowered names table way layout e t q k none one behind after l told same purpose empty is put =
    ap (λ t. item_code k t (Some (steps_of (reverse behind)))) (sym same)
    ∙ item-coded k (taking t e names) none one (pure_of l.value) (steps_of (reverse behind)) (length behind) empty (length-map (reverse behind) step_of ∙ length-reverse behind)
    (operand-one (item_purpose (taking t e names)) k (taking t e names) none one l
    (subst (λ (q : low.Purpose). IsLowered (low.lower core.NoPure q k (taking t e names)) none one l) purpose (is.is names told)))
    ∙ ap Some (sym put)

job-lowered : (names : Naming) (way : fact.Direction) (layout : fact.Layout) (i : ListItem) (e : Expr) (k : ℕ) (rest : fact.Work) (more all : List act.Step) → i ≡ items.Item e →
    work_code k rest ≡ Some more → item_code k (item_of way layout names e) (Some more) ≡ Some all → work_code k (fact.Before (job_of way layout names i) rest) ≡ Some all
unfolding work_code
job-lowered names way layout i e k rest more all is behind one =
    ap (λ i. work_code k (fact.Before (job_of way layout names i) rest)) is ∙ ap (λ j. work_code k (fact.Before j rest)) (job-Item way layout names e)
    ∙ ap (item_code k (item_of way layout names e)) behind ∙ one

pub expression-done : (table : NameFacts) (way : fact.Direction) (layout : fact.Layout) (e : Expr) (t : Taken) (q : low.Purpose) (k : ℕ) (none one behind after : List Step) (l : Lowered)
    (r : Result (Unit {0}) AllocError) → ((names : Naming) → AreFactsOf names table → taking t e names ≡ item_of way layout names e) →
    ((names : Naming) → AreFactsOf names table → q ≡ item_purpose (taking t e names)) → none ≡ [] → IsLoweredTerm table (taking t e) q k none one l →
    OnOk r (steps_of (reverse after) ≡ steps_of one ++ act.Acts act.Takes (core.AndPure (pure_of l.value) core.NoPure) (length behind) ∷ steps_of (reverse behind)) →
    OnOk r ((names : Naming) → AreFactsOf names table → item_code k (item_of way layout names e) (Some (steps_of (reverse behind))) ≡ Some (steps_of (reverse after)))
expression-done table way layout e t q k none one behind after l (Err x) same purpose empty is put = put
expression-done table way layout e t q k none one behind after l (Ok u) same purpose empty is put =
    λ names told. item-lowered names table way layout e t q k none one behind after l told (same names told) (purpose names told) empty is put

pub item-done : (table : NameFacts) (way : fact.Direction) (layout : fact.Layout) (i : ListItem) (e : Expr) (k : ℕ) (behind after : List Step) (r : Result (Unit {0}) AllocError) → i ≡ items.Item e →
    OnOk r ((names : Naming) → AreFactsOf names table → item_code k (item_of way layout names e) (Some (steps_of (reverse behind))) ≡ Some (steps_of (reverse after))) →
    OnOk r ((names : Naming) (rest : fact.Work) → AreFactsOf names table → work_code k rest ≡ Some (steps_of (reverse behind)) →
    work_code k (fact.Before (job_of way layout names i) rest) ≡ Some (steps_of (reverse after)))
item-done table way layout i e k behind after (Err x) is one = one
item-done table way layout i e k behind after (Ok u) is one =
    λ names rest told more. job-lowered names way layout i e k rest (steps_of (reverse behind)) (steps_of (reverse after)) is more (one names told)

-- ALL ITEMS
pub work-ended : (names : Naming) (way : fact.Direction) (layout : fact.Layout) (k : ℕ) (is : List ListItem) (i : ℕ) → length is ≤ i →
    work_code k (jobs_of way layout names (drop i is)) ≡ Some (act.Acts act.Finishes core.NoPure 0 ∷ [])
unfolding work_code jobs_of
work-ended names way layout k is i h = ap (λ is. work_code k (jobs_of way layout names is)) (drop_all i is h)

items-split : (is : List ListItem) (i : ℕ) (item : ListItem) → i < length is → item ≡ get_or is i item → drop i is ≡ item ∷ drop (suc i) is
items-split is i item h found = drop-cons is i item h ∙ ap (λ y. y ∷ drop (suc i) is) (sym found)

pub work-more : (names : Naming) (way : fact.Direction) (layout : fact.Layout) (k : ℕ) (is : List ListItem) (i at : ℕ) (item : ListItem) (steps : List act.Step) → suc i ≡ at → i < length is →
    item ≡ get_or is i item → work_code k (fact.Before (job_of way layout names item) (jobs_of way layout names (drop at is))) ≡ Some steps →
    work_code k (jobs_of way layout names (drop i is)) ≡ Some steps
unfolding jobs_of
work-more names way layout k is i at item steps next h found coded =
    ap (λ is. work_code k (jobs_of way layout names is)) (items-split is i item h found)
    ∙ ap (λ n. work_code k (fact.Before (job_of way layout names item) (jobs_of way layout names (drop n is)))) next ∙ coded

pub work-whole : (names : Naming) (way : fact.Direction) (layout : fact.Layout) (k : ℕ) (is : List ListItem) (at : ℕ) (o : Option (List act.Step)) → at ≡ 0 →
    work_code k (jobs_of way layout names (drop at is)) ≡ o → work_code k (jobs_of way layout names is) ≡ o
work-whole names way layout k is at o none h = sym (ap (λ n. work_code k (jobs_of way layout names (drop n is))) none) ∙ h

pub finished : (none all : List Step) (s : Step) → none ≡ [] → all ≡ none ++ s ∷ [] → step_of s ≡ act.Acts act.Finishes core.NoPure 0 →
    steps_of (reverse all) ≡ act.Acts act.Finishes core.NoPure 0 ∷ []
finished none all s empty added is =
    ap (λ (ss : List Step). steps_of (reverse ss)) (added ∙ ap (λ (ss : List Step). ss ++ s ∷ []) empty) ∙ ap (λ c. c ∷ []) is

pub covered-at : (table : NameFacts) (is : List ListItem) (i : ℕ) (d : ListItem) → i < length is → items_lower table is ≡ true → item_lowers table (get_or is i d) ≡ true
unfolding items_lower all_lower
covered-at table [] i d h covered = absurd (omega arith)
covered-at table (x ∷ is) zero d h covered = and-left (item_lowers table x) (items_lower table is) covered
covered-at table (x ∷ is) (suc i) d h covered = covered-at table is i d (omega arith) (and-right (item_lowers table x) (items_lower table is) covered)

-- THE WHOLE TRANSFER
code-transferring : (once : Bool) (k n : ℕ) (way : Direction) (controls : List Control) (is : List ListItem) (names : Naming) (layout : fact.Layout) →
    layout ≡ layout_written (controls_written (way_of way) names controls).layout →
    form_code once k n (transferring way controls is names)
    ≡ with_operands (low.lower_all core.NoPure low.ForUse k (terms (operands_in (way_of way) controls names)))
    (begin_code (way_of way) layout (controls_of (controls_written (way_of way) names controls)) (work_code k (jobs_of (way_of way) layout names is)))
unfolding form_code head_code transferring transfer_form operands_in
code-transferring once k n way controls is names layout same =
    ap (λ layout. with_operands (low.lower_all core.NoPure low.ForUse k (terms (controls_written (way_of way) names controls).operands))
    (begin_code (way_of way) layout (controls_of (controls_written (way_of way) names controls)) (work_code k (jobs_of (way_of way) layout names is)))) (sym same)

closes-begin : (way : fact.Direction) (layout : fact.Layout) (controls : fact.Controls) (o : Option (List act.Step)) (steps : List act.Step) (ps : core.Pures) → o ≡ Some steps →
    begin_code way layout controls o ps ≡ Some (act.Acts (act.Starts way layout controls) ps (length steps) ∷ steps)
unfolding begin_code
closes-begin way layout controls o steps ps is = ap (λ o. begin_code way layout controls o ps) is

transfer-lowered : (table : NameFacts) (around : Around) (way : Direction) (controls : List Control) (is : List ListItem) (before mid after listed : List Step) (vs : List Pure)
    (start : act.Acting) (layout : fact.Layout) (written : fact.Controls) → transfer_lowers table way controls is ≡ true → start ≡ act.Starts (way_of way) layout written →
    ((w : fact.Direction) (names : Naming) → layout ≡ layout_written (controls_written w names controls).layout) →
    ((w : fact.Direction) (names : Naming) → written ≡ controls_of (controls_written w names controls)) →
    AreLoweredTerms table (operands_in (way_of way) controls) low.ForUse around.free before mid vs →
    ((names : Naming) → AreFactsOf names table → work_code around.free (jobs_of (way_of way) layout names is) ≡ Some (steps_of listed)) →
    steps_of after ≡ steps_of mid ++ act.Acts start (pures_of vs) (length listed) ∷ steps_of listed →
    IsLoweredForm table around (transfer_lowers table way controls is) (transferring way controls is) before after
transfer-lowered table around way controls is before mid after listed vs start layout written lowers starts laid_out words operands worked appended = record {
  built = lowers;
  meant = λ names told.
      let w = controls_of (controls_written (way_of way) names controls) in
      let are = operands.are names told in
      let as_written = starts ∙ ap (act.Starts (way_of way) layout) (words (way_of way) names) in
      subst (λ (c : Option (List act.Step)). AreAdded c before after)
      (sym (code-transferring around.once around.free around.room way controls is names layout (laid_out (way_of way) names)))
      (operands-closed (low.lower_all core.NoPure low.ForUse around.free (terms (operands_in (way_of way) controls names)))
      (begin_code (way_of way) layout w (work_code around.free (jobs_of (way_of way) layout names is)))
      (act.Acts (act.Starts (way_of way) layout w) (pures_of vs) (length (steps_of listed)) ∷ steps_of listed) before mid after (pures_of vs)
      (record { steps = are.steps; values = are.values })
      (closes-begin (way_of way) layout w (work_code around.free (jobs_of (way_of way) layout names is)) (steps_of listed) (pures_of vs) (worked names told))
      (appended ∙ ap (λ s. steps_of mid ++ act.Acts s (pures_of vs) (length listed) ∷ steps_of listed) as_written
      ∙ ap (λ n. steps_of mid ++ act.Acts (act.Starts (way_of way) layout w) (pures_of vs) n ∷ steps_of listed) (sym (length-map listed step_of))));
}

pub transfer-done : (table : NameFacts) (around : Around) (way : Direction) (controls : List Control) (is : List ListItem) (before mid after listed : List Step) (vs : List Pure)
    (start : act.Acting) (layout : fact.Layout) (written : fact.Controls) (r : Result (Unit {0}) AllocError) → transfer_lowers table way controls is ≡ true →
    start ≡ act.Starts (way_of way) layout written →
    ((w : fact.Direction) (names : Naming) → layout ≡ layout_written (controls_written w names controls).layout) →
    ((w : fact.Direction) (names : Naming) → written ≡ controls_of (controls_written w names controls)) →
    AreLoweredTerms table (operands_in (way_of way) controls) low.ForUse around.free before mid vs →
    ((names : Naming) → AreFactsOf names table → work_code around.free (jobs_of (way_of way) layout names is) ≡ Some (steps_of listed)) →
    OnOk r (steps_of after ≡ steps_of mid ++ act.Acts start (pures_of vs) (length listed) ∷ steps_of listed) →
    OnOk r (IsLoweredForm table around (transfer_lowers table way controls is) (transferring way controls is) before after)
transfer-done table around way controls is before mid after listed vs start layout written (Err e) lowers starts laid_out words operands worked appended = appended
transfer-done table around way controls is before mid after listed vs start layout written (Ok u) lowers starts laid_out words operands worked appended =
    transfer-lowered table around way controls is before mid after listed vs start layout written lowers starts laid_out words operands worked appended

-- its control words and its items are lowered
pub controls-covered : (table : NameFacts) (way : Direction) (controls : List Control) (is : List ListItem) → transfer_lowers table way controls is ≡ true → controls_lower table controls ≡ true
unfolding transfer_lowers
controls-covered table way controls is h = and-left (controls_lower table controls) (items_lower table is) h

pub items-covered : (table : NameFacts) (way : Direction) (controls : List Control) (is : List ListItem) → transfer_lowers table way controls is ≡ true → items_lower table is ≡ true
unfolding transfer_lowers
items-covered table way controls is h = and-right (controls_lower table controls) (items_lower table is) h
