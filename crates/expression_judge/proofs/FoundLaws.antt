-- What is found of an expression is what it is judged to be, with the least of its rows: step by step, and of the whole tree.
use Rattle.std.specs.Prelude.{◌≡◌, ℕ, zero, suc, max, nat_eq, Bool, true, false, List, [], ◌∷◌, ◌++◌, length, map, replicate, Option, Some, None, option_map, bytes_eq, IsTrue, if◌then◌else◌}
use Rattle.std.proofs.Common.{refl, sym, ap, ◌∙◌, subst, arith, append_assoc}
use Rattle.std.proofs.lemmas.Bool.{eqb-true, eq-eqb}
use Rattle.std.proofs.lemmas.List.{length-map, length-replicate}
use Rattle.std.proofs.lemmas.Bool.Decides.{nat_tests}
use Rattle.f_tree.specs.declared.names.Basic.{Basic}
use Rattle.f_tree.specs.declared.names.Basic.TheVariants.{Integer, Logical, Character, Untyped}
use Rattle.f_tree.specs.declared.names.Class.{Class}
use Rattle.f_tree.specs.declared.names.Class.TheVariants as class
use Rattle.f_tree.specs.declared.refusals.Kind.{Kind}
use Rattle.f_tree.specs.declared.refusals.Kind.TheVariants.{SyntaxError, ConflictingAttributes, OperandTypes, NumberOfSubscripts, BadStatementFunction}
use Rattle.f_tree.specs.declared.expressions.BinaryOp.{BinaryOp}
use Rattle.f_tree.specs.declared.expressions.BinaryOp.TheVariants as op
use Rattle.f_tree.specs.declared.expressions.Expr.{Expr, Int, Logical as TruthValue, Text, Name, Apply', Part', Minus', Plus', Not', Paren', Binary', AltReturn, Bind', Bound as BoundValue, Row_of-Expr, end_of-Expr, more_of-Expr, None', Some', Held-Expr-Part-1}
use Rattle.f_tree.specs.Folds.{fold_expr, fold_exprs, fold_held}
use Rattle.f_tree.specs.Values.{Bytes}
use Rattle.f_tree.specs.Facts.{Attribute, Dimension}
use Rattle.f_tree.specs.Terms.{Function, Power, Truncation, Magnitude, Remainder, SignTransfer, PositiveDifference, Largest, Smallest, CharacterCode, CharacterOfCode, TextLength, IndexOf, LexicallyGreaterOrEqual, LexicallyGreater, LexicallyLessOrEqual, LexicallyLess, Front, Fitted, InclusiveOr, LogicalProduct, ExclusiveOr, BitComplement, BitShift, BitTest, BitSet, BitClear}
use Rattle.f_tree.specs.Association.{same_basic}
use Rattle.f_tree.specs.Reading.{Intrinsic as NamedFunction, function_in as named_function_in, function_named, intrinsics}
use Rattle.f_tree.specs.WellTyped.{has_size}
use Rattle.declaration_rows.specs.Judgement.{What, AValue, APlace, AnArray, AProcedureName, AFunctionName, AnExit, NoOperand, Judged, Known, a_value, a_place, no_operand, wants_one, unless, wants, are_comparable, passed, all_faults, all_passed, all_wanted, variable_judged, function_name, bound_judged, name_judged, wanted_by, given_by, intrinsic_judged, expanded_judged, defined_judged, reference_judged, element_judged, applied_judged, wants_place, end_faults, part_judged, both_wanted, compared, binary_judged, layer_judged, judge}
use Rattle.refusal_order.specs.Earliest.{less, least as lesser, least_of as least}
use Rattle.kind_order.specs.Unless.{unless_least}
use Rattle.kind_order.proofs.LeastLemmas.{lesser-none, none-lesser, lesser-commuted, lesser-joined, least-append, least-unless, two-least, three-least}
use Rattle.expression_judge.specs.declared.operand.Operand.TheVariants as is
use Rattle.expression_judge.specs.declared.operand.Found.{Found}
use Rattle.expression_judge.specs.declared.names.Fact.{Fact}
use Rattle.expression_judge.specs.declared.names.Names.{Names}
use Rattle.expression_judge.specs.Operands.{operand_of, found}
use Rattle.expression_judge.specs.SeenNames.{fact_in, function_in, is_bound_in, AreSeen, has_place}
use Rattle.expression_judge.specs.Intrinsics.{takes, takes_two_or_more, intrinsic_of, operands_wanted, intrinsic_in, intrinsic_named}
use Rattle.expression_judge.specs.FoundSteps.{value_found, place_found, nothing_found, one_wanted, wanted_found, passed_found, with_wanted, plain_onward, plain_found, passing_onward, passing_found, unwanted_found, each_onward, same_found, paired_onward, listed_found, variable_found, procedure_found, function_found, bound_found, name_found, name_judged_by, intrinsic_found, expanded_found, defined_found, reference_found, element_found, applied_found, place_wanted, end_found, part_found, sign_found, paren_found, both_found, compared_found, binary_found, exit_found, layer_found, judged_by}

-- SMALL STEPS
pub value-found : (basic : Basic) (faults : List Kind) → found (a_value basic faults) ≡ value_found basic (least faults)
unfolding found a_value value_found operand_of
value-found basic faults = refl

pub place-found : (basic : Basic) (faults : List Kind) → found (a_place basic faults) ≡ place_found basic (least faults)
unfolding found a_place place_found operand_of
place-found basic faults = refl

pub nothing-found : (kind : Kind) (faults : List Kind) → found (no_operand kind faults) ≡ nothing_found kind (least faults)
unfolding found no_operand nothing_found operand_of least less lesser
nothing-found kind faults = refl

pub one-wanted : (w : What) → least (wants_one w) ≡ one_wanted (operand_of w)
unfolding wants_one one_wanted operand_of least lesser less
one-wanted AValue = refl
one-wanted APlace = refl
one-wanted (AnArray sized) = refl
one-wanted AProcedureName = refl
one-wanted AFunctionName = refl
one-wanted (AnExit label) = refl
one-wanted NoOperand = refl

pub place-wanted : (w : What) → least (wants_place w) ≡ place_wanted (operand_of w)
unfolding wants_place place_wanted operand_of least lesser less
place-wanted AValue = refl
place-wanted APlace = refl
place-wanted (AnArray sized) = refl
place-wanted AProcedureName = refl
place-wanted AFunctionName = refl
place-wanted (AnExit label) = refl
place-wanted NoOperand = refl

pub passed-found : (w : What) → least (passed w) ≡ passed_found (operand_of w)
unfolding passed passed_found operand_of least lesser less
passed-found AValue = refl
passed-found APlace = refl
passed-found (AnArray sized) = refl
passed-found AProcedureName = refl
passed-found AFunctionName = refl
passed-found (AnExit label) = refl
passed-found NoOperand = refl

pub wanted-found : (basic : Basic) (j : Judged) → least (wants basic j) ≡ wanted_found basic (found j)
unfolding wants wanted_found found
wanted-found basic j =
    least-append (wants_one j.what) (unless (same_basic j.basic basic) OperandTypes)
    ∙ ap (λ a. lesser a (least (unless (same_basic j.basic basic) OperandTypes))) (one-wanted j.what)
    ∙ ap (lesser (one_wanted (operand_of j.what))) (least-unless (same_basic j.basic basic) OperandTypes)

pub fault-found : (j : Judged) → least j.faults ≡ (found j).fault
unfolding found
fault-found j = refl

place-of : (j : Judged) → least (wants_place j.what) ≡ place_wanted (found j).what
unfolding found
place-of j = place-wanted j.what

type-of : (j : Judged) → least (unless (same_basic j.basic Character) OperandTypes) ≡ unless_least (same_basic (found j).basic Character) OperandTypes
unfolding found
type-of j = least-unless (same_basic j.basic Character) OperandTypes

basic-of : (j : Judged) → j.basic ≡ (found j).basic
unfolding found
basic-of j = refl

compare-of : (a b : Judged) → least (unless (are_comparable a.basic b.basic) OperandTypes)
    ≡ unless_least (are_comparable (found a).basic (found b).basic) OperandTypes
unfolding found
compare-of a b = least-unless (are_comparable a.basic b.basic) OperandTypes

pub with-wanted : (basic : Basic) (j : Judged) → least (j.faults ++ wants basic j) ≡ with_wanted basic (found j)
unfolding with_wanted
with-wanted basic j = two-least j.faults (wants basic j) (found j).fault (wanted_found basic (found j)) (fault-found j) (wanted-found basic j)

-- LISTS, from an accumulator
pub plain-onward : (js : List Judged) (a : Option Kind) → plain_onward a (map found js) ≡ lesser a (least (all_faults js))
unfolding plain_onward all_faults found least less
plain-onward [] a = sym (lesser-none a)
plain-onward (j ∷ js) a =
    plain-onward js (lesser a (least j.faults)) ∙ lesser-joined a (least j.faults) (least (all_faults js)) ∙ ap (lesser a) (sym (least-append j.faults (all_faults js)))

pub plain-found : (js : List Judged) → plain_found (map found js) ≡ least (all_faults js)
unfolding plain_found
plain-found js = plain-onward js None ∙ none-lesser (least (all_faults js))

what-passed : (j : Judged) → passed_found (found j).what ≡ least (passed j.what)
unfolding found
what-passed j = sym (passed-found j.what)

-- four rows, in another order
interchanged : (f p fs ps : Option Kind) → lesser (lesser f p) (lesser fs ps) ≡ lesser (lesser f fs) (lesser p ps)
interchanged f p fs ps =
    lesser-joined f p (lesser fs ps) ∙ ap (lesser f) (sym (lesser-joined p fs ps) ∙ ap (λ o. lesser o ps) (lesser-commuted p fs) ∙ lesser-joined fs p ps)
    ∙ sym (lesser-joined f fs (lesser p ps))

-- one more of a list, whose rows stand in two lists
one_more : (a : Option Kind) (fs ps gs qs : List Kind) →
    lesser (lesser a (lesser (least fs) (least ps))) (least (gs ++ qs)) ≡ lesser a (least ((fs ++ gs) ++ (ps ++ qs)))
one_more a fs ps gs qs =
    lesser-joined a (lesser (least fs) (least ps)) (least (gs ++ qs))
    ∙ ap (lesser a) (ap (lesser (lesser (least fs) (least ps))) (least-append gs qs) ∙ interchanged (least fs) (least ps) (least gs) (least qs)
    ∙ sym (two-least (fs ++ gs) (ps ++ qs) (lesser (least fs) (least gs)) (lesser (least ps) (least qs)) (least-append fs gs) (least-append ps qs)))

pub passing-onward : (js : List Judged) (a : Option Kind) → passing_onward a (map found js) ≡ lesser a (least (all_faults js ++ all_passed js))
unfolding passing_onward all_faults all_passed least less
passing-onward [] a = sym (lesser-none a)
passing-onward (j ∷ js) a =
    passing-onward js (lesser a (lesser (found j).fault (passed_found (found j).what)))
    ∙ ap (λ o. lesser (lesser a o) (least (all_faults js ++ all_passed js)))
    (ap (λ o. lesser o (passed_found (found j).what)) (sym (fault-found j)) ∙ ap (lesser (least j.faults)) (what-passed j))
    ∙ one_more a j.faults (passed j.what) (all_faults js) (all_passed js)

pub passing-found : (js : List Judged) → passing_found (map found js) ≡ least (all_faults js ++ all_passed js)
unfolding passing_found
passing-found js = passing-onward js None ∙ none-lesser (least (all_faults js ++ all_passed js))

-- types and operands, as many of the one as of the other
pub paired-onward : (basics : List Basic) (js : List Judged) (a : Option Kind) → length js ≡ length basics →
    paired_onward a basics (map found js) ≡ lesser a (least (all_faults js ++ all_wanted basics js))
unfolding paired_onward all_faults all_wanted least less
paired-onward [] [] a same = sym (lesser-none a)
paired-onward [] (j ∷ js) a same = absurd (omega arith)
paired-onward (b ∷ bs) [] a same = absurd (omega arith)
paired-onward (b ∷ bs) (j ∷ js) a same =
    paired-onward bs js (lesser a (with_wanted b (found j))) (omega arith)
    ∙ ap (λ o. lesser (lesser a o) (least (all_faults js ++ all_wanted bs js))) (sym (with-wanted b j) ∙ least-append j.faults (wants b j))
    ∙ one_more a j.faults (wants b j) (all_faults js) (all_wanted bs js)

-- an operand out of place has no lesser row than that
out_of_place : (w : What) (same : Bool) → lesser (least (wants_one w ++ unless same OperandTypes)) (Some OperandTypes) ≡ Some OperandTypes
unfolding wants_one unless least lesser less
out_of_place AValue true = refl
out_of_place APlace true = refl
out_of_place (AnArray sized) true = refl
out_of_place AProcedureName true = refl
out_of_place AFunctionName true = refl
out_of_place (AnExit label) true = refl
out_of_place NoOperand true = refl
out_of_place AValue false = refl
out_of_place APlace false = refl
out_of_place (AnArray sized) false = refl
out_of_place AProcedureName false = refl
out_of_place AFunctionName false = refl
out_of_place (AnExit label) false = refl
out_of_place NoOperand false = refl

wanted_or_worse : (basic : Basic) (j : Judged) → lesser (least (wants basic j)) (Some OperandTypes) ≡ Some OperandTypes
unfolding wants
wanted_or_worse basic j = out_of_place j.what (same_basic j.basic basic)

-- too many or too few
pub unwanted : (basics : List Basic) (js : List Judged) → (length js ≡ length basics → ⊥) → least (all_wanted basics js) ≡ Some OperandTypes
unfolding all_wanted least lesser less
unwanted [] [] differ = absurd (differ refl)
unwanted [] (j ∷ js) differ = refl
unwanted (b ∷ bs) [] differ = refl
unwanted (b ∷ bs) (j ∷ js) differ =
    least-append (wants b j) (all_wanted bs js) ∙ ap (lesser (least (wants b j))) (unwanted bs js (λ same. differ (ap suc same))) ∙ wanted_or_worse b j

differs : (m n : ℕ) → m ≡ n → nat_eq m n ≡ false → ⊥
differs m n same is = grind (arith, nat_tests)

by_test : {A : Type 0} (m n : ℕ) (r a b : A) → (m ≡ n → r ≡ a) → ((m ≡ n → ⊥) → r ≡ b) → (t : Bool) → nat_eq m n ≡ t → r ≡ (if t then a else b)
by_test m n r a b same differ true is = same (eqb-true m n is)
by_test m n r a b same differ false is = differ (λ e. differs m n e is)

-- what is chosen by two numbers
pub chosen : {A : Type 0} (m n : ℕ) (r a b : A) → (m ≡ n → r ≡ a) → ((m ≡ n → ⊥) → r ≡ b) → r ≡ (if nat_eq m n then a else b)
chosen m n r a b same differ = by_test m n r a b same differ (nat_eq m n) refl

-- and what stands there where they are the same, or are not
when-same : {A : Type 0} (m n : ℕ) (a b : A) → m ≡ n → (if nat_eq m n then a else b) ≡ a
when-same m n a b same = ap (λ t. if t then a else b) (eq-eqb m n same)

when-different : {A : Type 0} (m n : ℕ) (a b : A) → (m ≡ n → ⊥) → (if nat_eq m n then a else b) ≡ b
when-different m n a b differ = sym (chosen m n b a b (λ same. absurd (differ same)) (λ d. refl))

-- LISTS WITH TYPES
pub listed-found : (basics : List Basic) (js : List Judged) → least (all_faults js ++ all_wanted basics js) ≡ listed_found basics (map found js)
unfolding listed_found unwanted_found
listed-found basics js =
    chosen (length (map found js)) (length basics) (least (all_faults js ++ all_wanted basics js)) (paired_onward None basics (map found js)) (lesser (Some OperandTypes) (plain_found (map found js)))
    (λ same. sym (paired-onward basics js None (sym (length-map js found) ∙ same) ∙ none-lesser (least (all_faults js ++ all_wanted basics js))))
    (λ differ. least-append (all_faults js) (all_wanted basics js) ∙ ap (lesser (least (all_faults js))) (unwanted basics js (λ same. differ (length-map js found ∙ same)))
    ∙ lesser-commuted (least (all_faults js)) (Some OperandTypes) ∙ ap (lesser (Some OperandTypes)) (sym (plain-found js)))

each-paired : (basic : Basic) (fs : List Found) (a : Option Kind) → each_onward basic a fs ≡ paired_onward a (replicate (length fs) basic) fs
unfolding each_onward paired_onward
each-paired basic [] a = refl
each-paired basic (f ∷ fs) a = each-paired basic fs (lesser a (with_wanted basic f))

same-listed : (basic : Basic) (count : ℕ) (fs : List Found) → listed_found (replicate count basic) fs ≡ same_found basic count fs
unfolding listed_found same_found
same-listed basic count fs =
    chosen (length fs) count (listed_found (replicate count basic) fs) (each_onward basic None fs) (unwanted_found fs)
    (λ same. ap (λ n. if nat_eq (length fs) n then paired_onward None (replicate count basic) fs else unwanted_found fs) (length-replicate count basic)
    ∙ when-same (length fs) count (paired_onward None (replicate count basic) fs) (unwanted_found fs) same
    ∙ subst (λ n. paired_onward None (replicate n basic) fs ≡ each_onward basic None fs) same (sym (each-paired basic fs None)))
    (λ differ. ap (λ n. if nat_eq (length fs) n then paired_onward None (replicate count basic) fs else unwanted_found fs) (length-replicate count basic)
    ∙ when-different (length fs) count (paired_onward None (replicate count basic) fs) (unwanted_found fs) differ)

pub same-found : (basic : Basic) (count : ℕ) (js : List Judged) → least (all_faults js ++ all_wanted (replicate count basic) js) ≡ same_found basic count (map found js)
same-found basic count js = listed-found (replicate count basic) js ∙ same-listed basic count (map found js)

-- NAMES ALONE
function-found : (a : Attribute) (fact : Fact) → fact.basic ≡ a.basic → found (function_name a) ≡ function_found fact
unfolding found function_name function_found operand_of least less
function-found a fact same = ap (λ b. record { what = is.FunctionName; basic = b; fault = None }) (sym same)

variable-found : (a : Attribute) (ds : List Dimension) (fact : Fact) → fact.basic ≡ a.basic → fact.rank ≡ length ds → fact.sized ≡ has_size ds →
    found (variable_judged a ds) ≡ variable_found fact
unfolding found variable_judged variable_found place_found a_place operand_of least less
variable-found a [] fact same rank sized =
    ap (λ b. record { what = is.Place; basic = b; fault = None }) (sym same) ∙ sym (when-same fact.rank 0 (place_found fact.basic None) _ rank)
variable-found a (d ∷ ds) fact same rank sized =
    ap (λ b. record { what = is.Array (has_size (d ∷ ds)); basic = b; fault = None }) (sym same)
    ∙ ap (λ s. record { what = is.Array s; basic = fact.basic; fault = None }) (sym sized)
    ∙ sym (when-different fact.rank 0 (place_found fact.basic None) _ (λ none. let h : suc (length ds) ≡ 0 = sym rank ∙ none in omega arith))

value_of : (basic : Basic) (fact : Fact) → fact.basic ≡ basic → value_found basic (least []) ≡ value_found fact.basic None
unfolding least less
value_of basic fact same = ap (λ b. value_found b None) (sym same)

bound-found : (a : Attribute) (b : Bool) (fact : Fact) → fact.basic ≡ a.basic → found (bound_judged a b) ≡ bound_found fact b
unfolding bound_judged bound_found
bound-found a true fact same = value-found a.basic [] ∙ value_of a.basic fact same
bound-found a false fact same = function-found a fact same

procedure-found : (a : Attribute) (fact : Fact) → fact.basic ≡ a.basic →
    found (record { what = AProcedureName; basic = a.basic; faults = [] }) ≡ procedure_found fact
unfolding found procedure_found operand_of least less
procedure-found a fact same = ap (λ b. record { what = is.ProcedureName; basic = b; fault = None }) (sym same)

constant-found : (a : Attribute) (fact : Fact) → fact.basic ≡ a.basic → found (a_value a.basic []) ≡ value_found fact.basic None
constant-found a fact same = value-found a.basic [] ∙ value_of a.basic fact same

unit-found : (kind : Kind) → found (no_operand kind []) ≡ nothing_found kind None
unfolding least less
unit-found kind = nothing-found kind []

-- a name by its class
name-by-class : (c : Class) (known : Known) (x : Bytes) (a : Attribute) (fact : Fact) → fact.basic ≡ a.basic →
    (IsTrue (has_place c) → fact.rank ≡ length a.dimensions) → (IsTrue (has_place c) → fact.sized ≡ has_size a.dimensions) →
    found (name_judged known x (record a { class = c })) ≡ name_found (record fact { class = c }) (known.is_bound x)
unfolding name_judged name_found has_place
name-by-class class.Constant known x a fact same rank sized = constant-found a (record fact { class = class.Constant }) same
name-by-class class.Procedure known x a fact same rank sized = procedure-found a (record fact { class = class.Procedure }) same
name-by-class class.DummyProcedure known x a fact same rank sized = procedure-found a (record fact { class = class.DummyProcedure }) same
name-by-class class.Intrinsic known x a fact same rank sized =
    function-found (record a { class = class.Intrinsic }) (record fact { class = class.Intrinsic }) same
name-by-class class.StatementFunction known x a fact same rank sized =
    bound-found (record a { class = class.StatementFunction }) (known.is_bound x) (record fact { class = class.StatementFunction }) same
name-by-class class.Unit known x a fact same rank sized = unit-found ConflictingAttributes
name-by-class class.Stored known x a fact same rank sized =
    variable-found (record a { class = class.Stored }) a.dimensions (record fact { class = class.Stored }) same (rank refl) (sized refl)
name-by-class class.Dummy known x a fact same rank sized =
    variable-found (record a { class = class.Dummy }) a.dimensions (record fact { class = class.Dummy }) same (rank refl) (sized refl)
name-by-class class.Result known x a fact same rank sized =
    variable-found (record a { class = class.Result }) a.dimensions (record fact { class = class.Result }) same (rank refl) (sized refl)

with-class : (fact : Fact) (c : Class) → fact.class ≡ c → record fact { class = c } ≡ fact
with-class fact c same = ap (λ d. record fact { class = d }) (sym same)

pub name-found : (known : Known) (names : Names) → AreSeen known names → (x : Bytes) →
    found (name_judged known x (known.attribute x)) ≡ name_judged_by names x
unfolding name_judged_by
name-found known names agree x =
    let is_fact = agree.facts x in
    name-by-class (known.attribute x).class known x (known.attribute x) (fact_in names x) is_fact.basic is_fact.rank is_fact.sized
    ∙ ap (λ fact. name_found fact (known.is_bound x)) (with-class (fact_in names x) (known.attribute x).class is_fact.class)
    ∙ ap (name_found (fact_in names x)) (sym (agree.bound x))

-- NAMES WITH A LIST
mapped_choice : (b : Bool) (f : Function) (o : Option Function) →
    option_map intrinsic_of (if b then Some f else o) ≡ (if b then Some (intrinsic_of f) else option_map intrinsic_of o)
mapped_choice true f o = refl
mapped_choice false f o = refl

intrinsic-in : (is : List NamedFunction) (x : Bytes) → option_map intrinsic_of (named_function_in is x) ≡ intrinsic_in is x
unfolding named_function_in intrinsic_in
intrinsic-in [] x = refl
intrinsic-in (i ∷ is) x =
    mapped_choice (bytes_eq i.name x) i.function (named_function_in is x)
    ∙ ap (λ o. if bytes_eq i.name x then Some (intrinsic_of i.function) else o) (intrinsic-in is x)

pub intrinsic-named : (x : Bytes) → option_map intrinsic_of (function_named x) ≡ intrinsic_named x
unfolding function_named intrinsic_named
intrinsic-named x = intrinsic-in intrinsics x

given-by : (f : Function) → given_by f ≡ (intrinsic_of f).gives
unfolding given_by intrinsic_of takes takes_two_or_more
given-by Power = refl
given-by Truncation = refl
given-by Magnitude = refl
given-by Remainder = refl
given-by SignTransfer = refl
given-by PositiveDifference = refl
given-by Largest = refl
given-by Smallest = refl
given-by CharacterCode = refl
given-by CharacterOfCode = refl
given-by TextLength = refl
given-by IndexOf = refl
given-by LexicallyGreaterOrEqual = refl
given-by LexicallyGreater = refl
given-by LexicallyLessOrEqual = refl
given-by LexicallyLess = refl
given-by (Front k) = refl
given-by (Fitted k) = refl
given-by InclusiveOr = refl
given-by LogicalProduct = refl
given-by ExclusiveOr = refl
given-by BitComplement = refl
given-by BitShift = refl
given-by BitTest = refl
given-by BitSet = refl
given-by BitClear = refl

two-or-more : (n : ℕ) → replicate (max 2 (suc (suc n))) Integer ≡ Integer ∷ Integer ∷ replicate n Integer
two-or-more n = let e : max 2 (suc (suc n)) ≡ suc (suc n) = omega arith in ap (λ m. replicate m Integer) e

wanted-by : (f : Function) (n : ℕ) → wanted_by f n ≡ replicate (operands_wanted (intrinsic_of f) n) (intrinsic_of f).wants
unfolding wanted_by operands_wanted intrinsic_of takes takes_two_or_more
wanted-by Power n = refl
wanted-by Truncation n = refl
wanted-by Magnitude n = refl
wanted-by Remainder n = refl
wanted-by SignTransfer n = refl
wanted-by PositiveDifference n = refl
wanted-by Largest zero = refl
wanted-by Largest (suc zero) = refl
wanted-by Largest (suc (suc n)) = sym (two-or-more n)
wanted-by Smallest zero = refl
wanted-by Smallest (suc zero) = refl
wanted-by Smallest (suc (suc n)) = sym (two-or-more n)
wanted-by CharacterCode n = refl
wanted-by CharacterOfCode n = refl
wanted-by TextLength n = refl
wanted-by IndexOf n = refl
wanted-by LexicallyGreaterOrEqual n = refl
wanted-by LexicallyGreater n = refl
wanted-by LexicallyLessOrEqual n = refl
wanted-by LexicallyLess n = refl
wanted-by (Front k) n = refl
wanted-by (Fitted k) n = refl
wanted-by InclusiveOr n = refl
wanted-by LogicalProduct n = refl
wanted-by ExclusiveOr n = refl
wanted-by BitComplement n = refl
wanted-by BitShift n = refl
wanted-by BitTest n = refl
wanted-by BitSet n = refl
wanted-by BitClear n = refl

intrinsic-found : (f : Option Function) (js : List Judged) → found (intrinsic_judged f js) ≡ intrinsic_found (option_map intrinsic_of f) (map found js)
unfolding intrinsic_judged intrinsic_found
intrinsic-found None js = nothing-found ConflictingAttributes (all_faults js) ∙ ap (nothing_found ConflictingAttributes) (sym (plain-found js))
intrinsic-found (Some f) js =
    value-found (given_by f) (all_faults js ++ all_wanted (wanted_by f (length js)) js)
    ∙ ap (λ b. value_found b (least (all_faults js ++ all_wanted (wanted_by f (length js)) js))) (given-by f)
    ∙ ap (λ ws. value_found (intrinsic_of f).gives (least (all_faults js ++ all_wanted ws js))) (wanted-by f (length js))
    ∙ ap (value_found (intrinsic_of f).gives) (same-found (intrinsic_of f).wants (operands_wanted (intrinsic_of f) (length js)) js)
    ∙ ap (λ n. value_found (intrinsic_of f).gives (same_found (intrinsic_of f).wants (operands_wanted (intrinsic_of f) n) (map found js))) (sym (length-map js found))

unlisted-found : (kind : Kind) (js : List Judged) → found (no_operand kind (all_faults js)) ≡ nothing_found kind (plain_found (map found js))
unlisted-found kind js = nothing-found kind (all_faults js) ∙ ap (nothing_found kind) (sym (plain-found js))

typed-value : (basic : Basic) (fact : Fact) (faults : List Kind) (o : Option Kind) → fact.basic ≡ basic → least faults ≡ o →
    found (a_value basic faults) ≡ value_found fact.basic o
typed-value basic fact faults o same known = value-found basic faults ∙ ap (λ b. value_found b (least faults)) (sym same) ∙ ap (value_found fact.basic) known

expanded-found : (a : Attribute) (fact : Fact) (basics : Option (List Basic)) (js : List Judged) → fact.basic ≡ a.basic →
    found (expanded_judged a basics js) ≡ expanded_found fact basics (map found js)
unfolding expanded_judged expanded_found
expanded-found a fact None js same = unlisted-found BadStatementFunction js
expanded-found a fact (Some basics) js same =
    typed-value a.basic fact (all_faults js ++ all_wanted basics js) (listed_found basics (map found js)) same (listed-found basics js)

defined-found : (known : Known) (names : Names) (x : Bytes) (a : Attribute) (fact : Fact) (b : Bool) (js : List Judged) → fact.basic ≡ a.basic →
    (b ≡ false → function_in names x ≡ known.dummies x) →
    found (defined_judged known x a b js) ≡ defined_found fact b (function_in names x) (map found js)
unfolding defined_judged defined_found
defined-found known names x a fact true js same functions = unlisted-found ConflictingAttributes js
defined-found known names x a fact false js same functions =
    expanded-found a fact (known.dummies x) js same ∙ ap (λ o. expanded_found fact o (map found js)) (sym (functions refl))

reference-found : (a : Attribute) (fact : Fact) (js : List Judged) → fact.basic ≡ a.basic → found (reference_judged a js) ≡ reference_found fact (map found js)
unfolding reference_judged reference_found
reference-found a fact js same =
    typed-value a.basic fact (all_faults js ++ all_passed js) (passing_found (map found js)) same (sym (passing-found js))

element-found : (a : Attribute) (fact : Fact) (js : List Judged) → fact.basic ≡ a.basic → fact.rank ≡ length a.dimensions →
    found (element_judged a js) ≡ element_found fact (map found js)
unfolding element_judged element_found
element-found a fact js same rank =
    let wanted = all_wanted (replicate (length js) Integer) js in
    let number = unless (nat_eq (length js) (length a.dimensions)) NumberOfSubscripts in
    place-found a.basic (all_faults js ++ (wanted ++ number))
    ∙ ap (λ b. place_found b (least (all_faults js ++ (wanted ++ number)))) (sym same)
    ∙ ap (place_found fact.basic) (
    ap least (sym (append_assoc (all_faults js) wanted number))
    ∙ two-least (all_faults js ++ wanted) number (same_found Integer (length js) (map found js)) (unless_least (nat_eq (length js) (length a.dimensions)) NumberOfSubscripts)
    (same-found Integer (length js) js) (least-unless (nat_eq (length js) (length a.dimensions)) NumberOfSubscripts)
    ∙ ap (λ n. lesser (same_found Integer n (map found js)) (unless_least (nat_eq n (length a.dimensions)) NumberOfSubscripts)) (sym (length-map js found))
    ∙ ap (λ n. lesser (same_found Integer (length (map found js)) (map found js)) (unless_least (nat_eq (length (map found js)) n) NumberOfSubscripts)) (sym rank))

applied-by-class : (c : Class) (known : Known) (names : Names) (x : Bytes) (a : Attribute) (fact : Fact) (js : List Judged) → fact.basic ≡ a.basic →
    (IsTrue (has_place c) → fact.rank ≡ length a.dimensions) →
    (known.is_bound x ≡ false → function_in names x ≡ known.dummies x) → is_bound_in names x ≡ known.is_bound x →
    found (applied_judged known x (record a { class = c }) js) ≡ applied_found names x (record fact { class = c }) (map found js)
unfolding applied_judged applied_found has_place
applied-by-class class.Constant known names x a fact js same rank functions bound = unlisted-found ConflictingAttributes js
applied-by-class class.Unit known names x a fact js same rank functions bound = unlisted-found ConflictingAttributes js
applied-by-class class.Intrinsic known names x a fact js same rank functions bound = intrinsic-found (function_named x) js ∙ ap (λ i. intrinsic_found i (map found js)) (intrinsic-named x)
applied-by-class class.StatementFunction known names x a fact js same rank functions bound =
    defined-found known names x (record a { class = class.StatementFunction }) (record fact { class = class.StatementFunction }) (known.is_bound x) js same functions
    ∙ ap (λ b. defined_found (record fact { class = class.StatementFunction }) b (function_in names x) (map found js)) (sym bound)
applied-by-class class.Procedure known names x a fact js same rank functions bound = reference-found (record a { class = class.Procedure }) (record fact { class = class.Procedure }) js same
applied-by-class class.DummyProcedure known names x a fact js same rank functions bound = reference-found (record a { class = class.DummyProcedure }) (record fact { class = class.DummyProcedure }) js same
applied-by-class class.Result known names x a fact js same rank functions bound = reference-found (record a { class = class.Result }) (record fact { class = class.Result }) js same
applied-by-class class.Stored known names x a fact js same rank functions bound = element-found (record a { class = class.Stored }) (record fact { class = class.Stored }) js same (rank refl)
applied-by-class class.Dummy known names x a fact js same rank functions bound = element-found (record a { class = class.Dummy }) (record fact { class = class.Dummy }) js same (rank refl)

pub applied-found : (known : Known) (names : Names) → AreSeen known names → (x : Bytes) (js : List Judged) →
    found (applied_judged known x (known.attribute x) js) ≡ applied_found names x (fact_in names x) (map found js)
applied-found known names agree x js =
    let is_fact = agree.facts x in
    applied-by-class (known.attribute x).class known names x (known.attribute x) (fact_in names x) js is_fact.basic is_fact.rank (agree.functions x) (agree.bound x)
    ∙ ap (λ fact. applied_found names x fact (map found js)) (with-class (fact_in names x) (known.attribute x).class is_fact.class)

-- SUBSTRINGS
pub end-found : (o : Option Judged) → least (end_faults o) ≡ end_found (option_map found o)
unfolding end_faults end_found least less
end-found None = refl
end-found (Some j) = with-wanted Integer j

pub part-found : (j : Judged) (from to : Option Judged) →
    found (part_judged j from to) ≡ part_found (found j) (end_found (option_map found from)) (end_found (option_map found to))
unfolding part_judged part_found
part-found j from to =
    place-found Character (j.faults ++ (wants_place j.what ++ (unless (same_basic j.basic Character) OperandTypes ++ (end_faults from ++ end_faults to))))
    ∙ ap (place_found Character) (
    three-least j.faults (wants_place j.what) (unless (same_basic j.basic Character) OperandTypes ++ (end_faults from ++ end_faults to))
    (found j).fault (place_wanted (found j).what)
    (lesser (unless_least (same_basic (found j).basic Character) OperandTypes) (lesser (end_found (option_map found from)) (end_found (option_map found to))))
    (fault-found j) (place-of j)
    (three-least (unless (same_basic j.basic Character) OperandTypes) (end_faults from) (end_faults to) (unless_least (same_basic (found j).basic Character) OperandTypes)
    (end_found (option_map found from)) (end_found (option_map found to)) (type-of j) (end-found from) (end-found to)))

-- OPERATORS
pub sign-found : (basic : Basic) (j : Judged) → found (a_value basic (j.faults ++ wants basic j)) ≡ sign_found basic (found j)
unfolding sign_found
sign-found basic j = value-found basic (j.faults ++ wants basic j) ∙ ap (value_found basic) (with-wanted basic j)

one-of : (j : Judged) → least (j.faults ++ wants_one j.what) ≡ lesser (found j).fault (one_wanted (found j).what)
unfolding found
one-of j = two-least j.faults (wants_one j.what) (least j.faults) (one_wanted (operand_of j.what)) refl (one-wanted j.what)

pub paren-found : (j : Judged) → found (a_value j.basic (j.faults ++ wants_one j.what)) ≡ paren_found (found j)
unfolding paren_found
paren-found j =
    value-found j.basic (j.faults ++ wants_one j.what) ∙ ap (value_found j.basic) (one-of j)
    ∙ ap (λ b. value_found b (lesser (found j).fault (one_wanted (found j).what))) (basic-of j)

both-found : (basic : Basic) (a b : Judged) → found (both_wanted basic basic a b) ≡ both_found basic (found a) (found b)
unfolding both_wanted both_found
both-found basic a b =
    value-found basic (a.faults ++ (wants basic a ++ (b.faults ++ wants basic b)))
    ∙ ap (value_found basic) (
    ap least (sym (append_assoc a.faults (wants basic a) (b.faults ++ wants basic b)))
    ∙ two-least (a.faults ++ wants basic a) (b.faults ++ wants basic b) (with_wanted basic (found a)) (with_wanted basic (found b)) (with-wanted basic a) (with-wanted basic b))

compared-found : (a b : Judged) → found (compared a b) ≡ compared_found (found a) (found b)
unfolding compared compared_found
compared-found a b =
    let last = unless (are_comparable a.basic b.basic) OperandTypes in
    value-found Logical (a.faults ++ (wants_one a.what ++ (b.faults ++ (wants_one b.what ++ last))))
    ∙ ap (value_found Logical) (
    ap least (sym (append_assoc a.faults (wants_one a.what) (b.faults ++ (wants_one b.what ++ last)))
    ∙ ap (λ rows. (a.faults ++ wants_one a.what) ++ rows) (sym (append_assoc b.faults (wants_one b.what) last)))
    ∙ three-least (a.faults ++ wants_one a.what) (b.faults ++ wants_one b.what) last
    (lesser (found a).fault (one_wanted (found a).what)) (lesser (found b).fault (one_wanted (found b).what))
    (unless_least (are_comparable (found a).basic (found b).basic) OperandTypes) (one-of a) (one-of b) (compare-of a b))

pub binary-found : (o : BinaryOp) (a b : Judged) → found (binary_judged o a b) ≡ binary_found o (found a) (found b)
unfolding binary_judged binary_found
binary-found op.Power a b = both-found Integer a b
binary-found op.Times a b = both-found Integer a b
binary-found op.Divide a b = both-found Integer a b
binary-found op.Plus a b = both-found Integer a b
binary-found op.Minus a b = both-found Integer a b
binary-found op.Concatenate a b = both-found Character a b
binary-found op.Less a b = compared-found a b
binary-found op.LessOrEqual a b = compared-found a b
binary-found op.Equal a b = compared-found a b
binary-found op.NotEqual a b = compared-found a b
binary-found op.Greater a b = compared-found a b
binary-found op.GreaterOrEqual a b = compared-found a b
binary-found op.And a b = both-found Logical a b
binary-found op.Or a b = both-found Logical a b
binary-found op.Equivalent a b = both-found Logical a b
binary-found op.NotEquivalent a b = both-found Logical a b

exit-found : (label : ℕ) → found (record { what = AnExit label; basic = Untyped; faults = [] }) ≡ exit_found label
unfolding found exit_found operand_of least less
exit-found label = refl

bare-value : (basic : Basic) → found (a_value basic []) ≡ value_found basic None
unfolding least less
bare-value basic = value-found basic []

bind-found : (js : List Judged) (j : Judged) → found (no_operand SyntaxError (all_faults js ++ j.faults)) ≡ nothing_found SyntaxError (lesser (plain_found (map found js)) (found j).fault)
bind-found js j =
    nothing-found SyntaxError (all_faults js ++ j.faults)
    ∙ ap (nothing_found SyntaxError) (two-least (all_faults js) j.faults (plain_found (map found js)) (found j).fault (sym (plain-found js)) (fault-found j))

-- THE WHOLE EXPRESSION
module _ (known : Known) (names : Names) (agree : AreSeen known names) where
  mutual
    unfolding fold_expr fold_exprs fold_held layer_judged layer_found

    pub tree-found : (e : Expr) → found (fold_expr (layer_judged known) e) ≡ fold_expr (layer_found names) e
    tree-found (Int z) = bare-value Integer
    tree-found (TruthValue b) = bare-value Logical
    tree-found (Text cs) = bare-value Character
    tree-found (Name x) = name-found known names agree x
    tree-found (Apply' x s row) =
        applied-found known names agree x (fold_exprs (layer_judged known) row) ∙ ap (applied_found names x (fact_in names x)) (row-found row)
    tree-found (Part' s (more_of-Expr e r) from to) =
        part-found (fold_expr (layer_judged known) e) (fold_held (layer_judged known) from) (fold_held (layer_judged known) to)
        ∙ ap (λ f. part_found f (end_found (option_map found (fold_held (layer_judged known) from))) (end_found (option_map found (fold_held (layer_judged known) to)))) (tree-found e)
        ∙ ap (λ o. part_found (fold_expr (layer_found names) e) (end_found o) (end_found (option_map found (fold_held (layer_judged known) to)))) (held-found from)
        ∙ ap (λ o. part_found (fold_expr (layer_found names) e) (end_found (fold_held (layer_found names) from)) (end_found o)) (held-found to)
    tree-found (Minus' s (more_of-Expr e r)) = sign-found Integer (fold_expr (layer_judged known) e) ∙ ap (sign_found Integer) (tree-found e)
    tree-found (Plus' s (more_of-Expr e r)) = sign-found Integer (fold_expr (layer_judged known) e) ∙ ap (sign_found Integer) (tree-found e)
    tree-found (Not' s (more_of-Expr e r)) = sign-found Logical (fold_expr (layer_judged known) e) ∙ ap (sign_found Logical) (tree-found e)
    tree-found (Paren' s (more_of-Expr e r)) = paren-found (fold_expr (layer_judged known) e) ∙ ap paren_found (tree-found e)
    tree-found (Binary' o s (more_of-Expr a r) t (more_of-Expr b q)) =
        binary-found o (fold_expr (layer_judged known) a) (fold_expr (layer_judged known) b)
        ∙ ap (λ f. binary_found o f (found (fold_expr (layer_judged known) b))) (tree-found a)
        ∙ ap (binary_found o (fold_expr (layer_found names) a)) (tree-found b)
    tree-found (AltReturn l) = exit-found l
    tree-found (Bind' s row t (more_of-Expr e q)) =
        bind-found (fold_exprs (layer_judged known) row) (fold_expr (layer_judged known) e)
        ∙ ap (λ fs. nothing_found SyntaxError (lesser (plain_found fs) (found (fold_expr (layer_judged known) e)).fault)) (row-found row)
        ∙ ap (λ f. nothing_found SyntaxError (lesser (plain_found (fold_exprs (layer_found names) row)) f.fault)) (tree-found e)
    tree-found (BoundValue k) = unit-found SyntaxError

    pub row-found : {m : _} (row : Row_of-Expr m) → map found (fold_exprs (layer_judged known) row) ≡ fold_exprs (layer_found names) row
    row-found end_of-Expr = refl
    row-found (more_of-Expr e row) =
        ap (λ f. f ∷ map found (fold_exprs (layer_judged known) row)) (tree-found e) ∙ ap (λ fs. fold_expr (layer_found names) e ∷ fs) (row-found row)

    pub held-found : (h : Held-Expr-Part-1) → option_map found (fold_held (layer_judged known) h) ≡ fold_held (layer_found names) h
    held-found None' = refl
    held-found (Some' p (more_of-Expr e r)) = ap Some (tree-found e)

-- What is found of an expression is what it is judged to be, with the least of its rows.
pub expression-found : (known : Known) (names : Names) → AreSeen known names → (e : Expr) → found (judge known e) ≡ judged_by names e
unfolding judge judged_by
expression-found known names agree e = tree-found known names agree e
