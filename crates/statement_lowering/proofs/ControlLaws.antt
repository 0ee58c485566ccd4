-- What is taken of an expression, whatever the names are.
use Rattle.std.specs.Prelude.{◌≡◌, ℕ, ◌<◌, ◌≤◌, nat_lt, Bool, true, false, List, [], ◌∷◌, length, Option, Some, None, is_some, if◌then◌else◌}
use Rattle.std.proofs.Common.{refl, ap, sym, ◌∙◌, arith}
use Rattle.std.proofs.lemmas.Bool.{lt-ltb, le-ltb}
use Rattle.f_tree.specs.declared.names.Class.{Class}
use Rattle.f_tree.specs.declared.names.Class.TheVariants as class
use Rattle.f_tree.specs.declared.expressions.BinaryOp.{BinaryOp}
use Rattle.f_tree.specs.declared.expressions.BinaryOp.TheVariants as op
use Rattle.f_tree.specs.declared.expressions.Expr.{Expr, Int, Logical, Text, Name, Apply', Part', Minus', Plus', Not', Paren', Binary', AltReturn, Bind', Bound, more_of-Expr}
use Rattle.f_tree.specs.Folds.{fold_expr, fold_exprs, fold_held}
use Rattle.f_tree.specs.Values.{Bytes, Datum}
use Rattle.f_tree.specs.Terms.{Function, Term, Alone, All, refers}
use Rattle.f_tree.specs.Facts.{Attribute, Dimension}
use Rattle.f_tree.specs.Uses.{heading_of, layer_heading, no_heading}
use Rattle.f_tree.specs.Reading.{Read, read, valued_only, placed, function_named, function_read, intrinsic_read, expanded_read, joined_read, name_read, name_or_none, applied_read, binary_read, layer_read}
use Rattle.f_tree.specs.Lines.{Naming, is_array, array_or, if_placed, settled, is_text}
use Rattle.name_facts.specs.declared.table.NameFacts.{NameFacts}
use Rattle.name_facts.specs.GivenFacts.{datum_of, fact_in}
use Rattle.expression_lowering.specs.TableNames.{attribute_of, attribute_in, reading, name_lowers, layer_lowers, is_lowered_value, AreFactsOf}
use Rattle.expression_lowering.proofs.Agreement.{read-agrees}
use Rattle.statement_lowering.specs.declared.controls.Taken.{Taken}
use Rattle.statement_lowering.specs.declared.controls.Taken.TheVariants as taken
use Rattle.statement_lowering.specs.declared.controls.Manner.{Manner}
use Rattle.statement_lowering.specs.declared.controls.Manner.TheVariants as manner
use Rattle.statement_lowering.specs.LoweredStatements.{is_text_target}
use Rattle.statement_lowering.specs.LoweredTransfers.{is_variable, is_element, layer_placed, is_placed}
use Rattle.statement_lowering.specs.TransferForms.{taking, taking_or, by_manner, taking_by, names_array}
use Rattle.statement_lowering.proofs.TargetForms.{text-agrees, refers-alike}

-- THE NAME THAT STANDS ALONE
named-variable : (x : Bytes) (a : Attribute) (c : Class) (d : Option Datum) → name_lowers c ≡ true → (name_read x (record a { class = c; constant = d })).named ≡ Some x
unfolding name_read name_lowers valued_only placed
named-variable x a class.StatementFunction d h = absurd (cc)
named-variable x a class.Constant None h = refl
named-variable x a class.Constant (Some d) h = refl
named-variable x a class.Stored d h = refl
named-variable x a class.Dummy d h = refl
named-variable x a class.Result d h = refl
named-variable x a class.Procedure d h = refl
named-variable x a class.DummyProcedure d h = refl
named-variable x a class.Intrinsic d h = refl
named-variable x a class.Unit d h = refl

named-intrinsic : (x : Bytes) (a : Attribute) (rs : List Read) (f : Option Function) → (intrinsic_read x a rs f).named ≡ None
unfolding intrinsic_read function_read valued_only
named-intrinsic x a rs None = refl
named-intrinsic x a rs (Some f) = refl

named-expanded : (x : Bytes) (a : Attribute) (rs : List Read) (o : Option Term) → (expanded_read x a rs o).named ≡ None
unfolding expanded_read function_read valued_only
named-expanded x a rs None = refl
named-expanded x a rs (Some t) = refl

named-element : (x : Bytes) (a : Attribute) (rs : List Read) (c : Class) → (applied_read x (record a { class = c }) rs).named ≡ None
unfolding applied_read function_read valued_only placed
named-element x a rs class.Intrinsic = named-intrinsic x (record a { class = class.Intrinsic }) rs (function_named x)
named-element x a rs class.StatementFunction = named-expanded x (record a { class = class.StatementFunction }) rs a.expansion
named-element x a rs class.Constant = refl
named-element x a rs class.Stored = refl
named-element x a rs class.Dummy = refl
named-element x a rs class.Result = refl
named-element x a rs class.Procedure = refl
named-element x a rs class.DummyProcedure = refl
named-element x a rs class.Unit = refl

named-binary : (o : BinaryOp) (r s : Read) → (binary_read o r s).named ≡ None
unfolding binary_read valued_only joined_read
named-binary op.Power r s = refl
named-binary op.Times r s = refl
named-binary op.Divide r s = refl
named-binary op.Plus r s = refl
named-binary op.Minus r s = refl
named-binary op.Concatenate r s = refl
named-binary op.Less r s = refl
named-binary op.LessOrEqual r s = refl
named-binary op.Equal r s = refl
named-binary op.NotEqual r s = refl
named-binary op.Greater r s = refl
named-binary op.GreaterOrEqual r s = refl
named-binary op.And r s = refl
named-binary op.Or r s = refl
named-binary op.Equivalent r s = refl
named-binary op.NotEquivalent r s = refl

named-tree : (table : NameFacts) (e : Expr) → fold_expr (layer_lowers table) e ≡ true → (fold_expr (layer_read (attribute_in table)) e).named ≡ (fold_expr layer_heading e).alone
unfolding fold_expr layer_read layer_heading no_heading layer_lowers attribute_in attribute_of valued_only placed
named-tree table (Int z) h = refl
named-tree table (Logical b) h = refl
named-tree table (Text cs) h = refl
named-tree table (Name x) h = named-variable x (attribute_in table x) (fact_in table x).class (attribute_in table x).constant h
named-tree table (Apply' x s row) h = named-element x (attribute_in table x) (fold_exprs (layer_read (attribute_in table)) row) (fact_in table x).class
named-tree table (Part' s (more_of-Expr e r) from to) h = refl
named-tree table (Minus' s (more_of-Expr e r)) h = refl
named-tree table (Plus' s (more_of-Expr e r)) h = refl
named-tree table (Not' s (more_of-Expr e r)) h = refl
named-tree table (Paren' s (more_of-Expr e r)) h = refl
named-tree table (Binary' o s (more_of-Expr a r) t (more_of-Expr b q)) h =
    named-binary o (fold_expr (layer_read (attribute_in table)) a) (fold_expr (layer_read (attribute_in table)) b)
named-tree table (AltReturn l) h = refl
named-tree table (Bind' s row t (more_of-Expr e q)) h = refl
named-tree table (Bound k) h = refl

pub named-agrees : (names : Naming) (table : NameFacts) → AreFactsOf names table → (e : Expr) → is_lowered_value table e ≡ true → (read names e).named ≡ (heading_of e).alone
unfolding is_lowered_value reading read heading_of
named-agrees names table told e h = ap (λ (r : Read). r.named) (read-agrees names table told e h) ∙ named-tree table e h

-- WHETHER IT IS A PLACE
based-variable : (x : Bytes) (a : Attribute) (c : Class) (d : Option Datum) (o : Option Term) →
    is_some (name_read x (record a { class = c; constant = d; expansion = o })).base ≡ is_variable c
unfolding name_read is_variable valued_only placed
based-variable x a class.Constant None o = refl
based-variable x a class.Constant (Some d) o = refl
based-variable x a class.StatementFunction d None = refl
based-variable x a class.StatementFunction d (Some t) = refl
based-variable x a class.Stored d o = refl
based-variable x a class.Dummy d o = refl
based-variable x a class.Result d o = refl
based-variable x a class.Procedure d o = refl
based-variable x a class.DummyProcedure d o = refl
based-variable x a class.Intrinsic d o = refl
based-variable x a class.Unit d o = refl

based-intrinsic : (x : Bytes) (a : Attribute) (rs : List Read) (f : Option Function) → is_some (intrinsic_read x a rs f).base ≡ false
unfolding intrinsic_read function_read valued_only
based-intrinsic x a rs None = refl
based-intrinsic x a rs (Some f) = refl

based-expanded : (x : Bytes) (a : Attribute) (rs : List Read) (o : Option Term) → is_some (expanded_read x a rs o).base ≡ false
unfolding expanded_read function_read valued_only
based-expanded x a rs None = refl
based-expanded x a rs (Some t) = refl

based-element : (x : Bytes) (a : Attribute) (rs : List Read) (c : Class) → is_some (applied_read x (record a { class = c }) rs).base ≡ is_element c
unfolding applied_read is_element function_read valued_only placed
based-element x a rs class.Intrinsic = based-intrinsic x (record a { class = class.Intrinsic }) rs (function_named x)
based-element x a rs class.StatementFunction = based-expanded x (record a { class = class.StatementFunction }) rs a.expansion
based-element x a rs class.Constant = refl
based-element x a rs class.Stored = refl
based-element x a rs class.Dummy = refl
based-element x a rs class.Result = refl
based-element x a rs class.Procedure = refl
based-element x a rs class.DummyProcedure = refl
based-element x a rs class.Unit = refl

based-binary : (o : BinaryOp) (r s : Read) → is_some (binary_read o r s).base ≡ false
unfolding binary_read valued_only joined_read
based-binary op.Power r s = refl
based-binary op.Times r s = refl
based-binary op.Divide r s = refl
based-binary op.Plus r s = refl
based-binary op.Minus r s = refl
based-binary op.Concatenate r s = refl
based-binary op.Less r s = refl
based-binary op.LessOrEqual r s = refl
based-binary op.Equal r s = refl
based-binary op.NotEqual r s = refl
based-binary op.Greater r s = refl
based-binary op.GreaterOrEqual r s = refl
based-binary op.And r s = refl
based-binary op.Or r s = refl
based-binary op.Equivalent r s = refl
based-binary op.NotEquivalent r s = refl

based-tree : (table : NameFacts) (e : Expr) → is_some (fold_expr (layer_read (attribute_in table)) e).base ≡ fold_expr (layer_placed table) e
unfolding fold_expr layer_read layer_placed attribute_in attribute_of valued_only placed
based-tree table (Int z) = refl
based-tree table (Logical b) = refl
based-tree table (Text cs) = refl
based-tree table (Name x) = based-variable x (attribute_in table x) (fact_in table x).class (attribute_in table x).constant None
based-tree table (Apply' x s row) = based-element x (attribute_in table x) (fold_exprs (layer_read (attribute_in table)) row) (fact_in table x).class
based-tree table (Part' s (more_of-Expr e r) from to) = based-tree table e
based-tree table (Minus' s (more_of-Expr e r)) = refl
based-tree table (Plus' s (more_of-Expr e r)) = refl
based-tree table (Not' s (more_of-Expr e r)) = refl
based-tree table (Paren' s (more_of-Expr e r)) = refl
based-tree table (Binary' o s (more_of-Expr a r) t (more_of-Expr b q)) =
    based-binary o (fold_expr (layer_read (attribute_in table)) a) (fold_expr (layer_read (attribute_in table)) b)
based-tree table (AltReturn l) = refl
based-tree table (Bind' s row t (more_of-Expr e q)) = refl
based-tree table (Bound k) = refl

pub based-agrees : (names : Naming) (table : NameFacts) → AreFactsOf names table → (e : Expr) → is_lowered_value table e ≡ true → is_some (read names e).base ≡ is_placed table e
unfolding is_placed reading read
based-agrees names table told e h = ap (λ (r : Read). is_some r.base) (read-agrees names table told e h) ∙ based-tree table e

-- WHETHER IT NAMES AN ARRAY
dimensioned : (ds : List Dimension) (a : Attribute) (n : ℕ) → n ≡ length ds → nat_lt 0 n ≡ is_array (record a { dimensions = ds })
unfolding is_array
dimensioned [] a n is = let none : n ≤ 0 = omega arith in le-ltb 0 n none
dimensioned (d ∷ ds) a n is = let more : 0 < n = omega arith in lt-ltb 0 n more

-- WHAT IS TAKEN
whole-taken : (names : Naming) (t : Term) (o : Option Bytes) → names_array names o ≡ true → All (name_or_none o) ≡ array_or t names o
unfolding names_array array_or name_or_none
whole-taken names t None h = absurd (cc)
whole-taken names t (Some x) h = sym (ap (λ b. if b then All x else t) h)

other-taken : (names : Naming) (t : Term) (o : Option Bytes) → names_array names o ≡ false → t ≡ array_or t names o
unfolding names_array array_or
other-taken names t None h = refl
other-taken names t (Some x) h = sym (ap (λ b. if b then All x else t) h)

takes-whole : (names : Naming) (table : NameFacts) (e : Expr) (t : Term) → AreFactsOf names table → is_lowered_value table e ≡ true → names_array names (heading_of e).alone ≡ true →
    taking taken.Whole e names ≡ array_or t names (read names e).named
unfolding taking
takes-whole names table e t told h array =
    whole-taken names t (heading_of e).alone array ∙ sym (ap (array_or t names) (named-agrees names table told e h))

takes-other : (names : Naming) (table : NameFacts) (e : Expr) (t : Term) → AreFactsOf names table → is_lowered_value table e ≡ true → names_array names (heading_of e).alone ≡ false →
    t ≡ array_or t names (read names e).named
takes-other names table e t told h array =
    other-taken names t (heading_of e).alone array ∙ sym (ap (array_or t names) (named-agrees names table told e h))

-- an item that is an array, or not
pub or-whole : (names : Naming) (table : NameFacts) (e : Expr) (t : Taken) → AreFactsOf names table → is_lowered_value table e ≡ true → names_array names (heading_of e).alone ≡ true →
    taking taken.Whole e names ≡ taking_or t e names
unfolding taking_or
or-whole names table e t told h array = takes-whole names table e (taking t e names) told h array

pub or-other : (names : Naming) (table : NameFacts) (e : Expr) (t : Taken) → AreFactsOf names table → is_lowered_value table e ≡ true → names_array names (heading_of e).alone ≡ false →
    taking t e names ≡ taking_or t e names
unfolding taking_or
or-other names table e t told h array = takes-other names table e (taking t e names) told h array

placed-alone : (r : Read) (o : Option Bytes) → is_some o ≡ true → Alone r.actual ≡ if_placed r o
unfolding if_placed
placed-alone r None h = absurd (cc)
placed-alone r (Some x) h = refl

placed-value : (r : Read) (o : Option Bytes) → is_some o ≡ false → r.value ≡ if_placed r o
unfolding if_placed
placed-value r None h = refl
placed-value r (Some x) h = absurd (cc)

-- what is settled: an array, a place, or a value
pub settled-whole : (names : Naming) (table : NameFacts) (e : Expr) → AreFactsOf names table → is_lowered_value table e ≡ true → names_array names (heading_of e).alone ≡ true →
    taking taken.Whole e names ≡ settled names (read names e)
unfolding settled
settled-whole names table e told h array = takes-whole names table e (if_placed (read names e) (read names e).base) told h array

pub settled-alone : (names : Naming) (table : NameFacts) (e : Expr) → AreFactsOf names table → is_lowered_value table e ≡ true → names_array names (heading_of e).alone ≡ false →
    is_placed table e ≡ true → taking taken.Alone e names ≡ settled names (read names e)
unfolding settled taking
settled-alone names table e told h array place =
    placed-alone (read names e) (read names e).base (based-agrees names table told e h ∙ place)
    ∙ takes-other names table e (if_placed (read names e) (read names e).base) told h array

pub settled-value : (names : Naming) (table : NameFacts) (e : Expr) → AreFactsOf names table → is_lowered_value table e ≡ true → names_array names (heading_of e).alone ≡ false →
    is_placed table e ≡ false → taking taken.Value e names ≡ settled names (read names e)
unfolding settled taking
settled-value names table e told h array place =
    placed-value (read names e) (read names e).base (based-agrees names table told e h ∙ place)
    ∙ takes-other names table e (if_placed (read names e) (read names e).base) told h array

-- a unit that is a text is settled, another is valued
pub unit-settled : (names : Naming) (table : NameFacts) (e : Expr) → AreFactsOf names table → is_lowered_value table e ≡ true → is_text_target table e ≡ true →
    settled names (read names e) ≡ taking_by manner.Unit e names
unfolding taking_by by_manner
unit-settled names table e told h text = sym (ap (λ b. if b then settled names (read names e) else (read names e).value) (text-agrees names table told e h ∙ text))

pub unit-valued : (names : Naming) (table : NameFacts) (e : Expr) → AreFactsOf names table → is_lowered_value table e ≡ true → is_text_target table e ≡ false →
    taking taken.Value e names ≡ taking_by manner.Unit e names
unfolding taking taking_by by_manner
unit-valued names table e told h text = sym (ap (λ b. if b then settled names (read names e) else (read names e).value) (text-agrees names table told e h ∙ text))

-- an array by its dimensions
pub array-ranked : (names : Naming) (table : NameFacts) (x : Bytes) (o : Option Bytes) (n : ℕ) → AreFactsOf names table → Some x ≡ o → n ≡ (fact_in table x).rank →
    nat_lt 0 n ≡ names_array names o
unfolding names_array
array-ranked names table x o n told is ranked =
    dimensioned (names x).dimensions (names x) n (ranked ∙ (told.facts x).rank) ∙ ap (names_array names) is

pub array-none : (names : Naming) (o : Option Bytes) → None ≡ o → false ≡ names_array names o
unfolding names_array
array-none names o is = ap (names_array names) is

-- A REFERENCE TO A FUNCTION
-- what is a name alone has none
unfoldable HasNone : Option Bytes → Term → Type 0
HasNone None t = Unit {0}
HasNone (Some x) t = refers t ≡ false

none-variable : (x : Bytes) (a : Attribute) (c : Class) (d : Option Datum) (o : Option Term) →
    HasNone (name_read x (record a { class = c; constant = d; expansion = o })).named (name_read x (record a { class = c; constant = d; expansion = o })).value
unfolding HasNone name_read valued_only placed refers
none-variable x a class.Constant None o = refl
none-variable x a class.Constant (Some d) o = refl
none-variable x a class.StatementFunction d None = tt
none-variable x a class.StatementFunction d (Some t) = tt
none-variable x a class.Stored d o = refl
none-variable x a class.Dummy d o = refl
none-variable x a class.Result d o = refl
none-variable x a class.Procedure d o = refl
none-variable x a class.DummyProcedure d o = refl
none-variable x a class.Intrinsic d o = refl
none-variable x a class.Unit d o = refl

none-named : (o : Option Bytes) (t : Term) → o ≡ None → HasNone o t
unfolding HasNone
none-named None t h = tt
none-named (Some x) t h = absurd (cc)

none-tree : (names : Naming) (e : Expr) → HasNone (fold_expr (layer_read names) e).named (fold_expr (layer_read names) e).value
unfolding HasNone fold_expr layer_read valued_only placed
none-tree names (Int z) = tt
none-tree names (Logical b) = tt
none-tree names (Text cs) = tt
none-tree names (Name x) = none-variable x (names x) (names x).class (names x).constant (names x).expansion
none-tree names (Apply' x s row) =
    none-named (applied_read x (names x) (fold_exprs (layer_read names) row)).named (applied_read x (names x) (fold_exprs (layer_read names) row)).value
    (named-element x (names x) (fold_exprs (layer_read names) row) (names x).class)
none-tree names (Part' s (more_of-Expr e r) from to) = tt
none-tree names (Minus' s (more_of-Expr e r)) = tt
none-tree names (Plus' s (more_of-Expr e r)) = tt
none-tree names (Not' s (more_of-Expr e r)) = tt
none-tree names (Paren' s (more_of-Expr e r)) = tt
none-tree names (Binary' o s (more_of-Expr a r) t (more_of-Expr b q)) =
    none-named (binary_read o (fold_expr (layer_read names) a) (fold_expr (layer_read names) b)).named
    (binary_read o (fold_expr (layer_read names) a) (fold_expr (layer_read names) b)).value
    (named-binary o (fold_expr (layer_read names) a) (fold_expr (layer_read names) b))
none-tree names (AltReturn l) = tt
none-tree names (Bind' s row t (more_of-Expr e q)) = tt
none-tree names (Bound k) = tt

refers-chosen : (b : Bool) (x : Bytes) (t u : Term) → refers t ≡ refers u → refers u ≡ false → refers (if b then All x else t) ≡ refers u
unfolding refers
refers-chosen true x t u same none = sym none
refers-chosen false x t u same none = same

refers-array : (names : Naming) (t u : Term) (o : Option Bytes) → refers t ≡ refers u → HasNone o u → refers (array_or t names o) ≡ refers u
unfolding array_or HasNone
refers-array names t u None same none = same
refers-array names t u (Some x) same none = refers-chosen (is_array (names x)) x t u same none

refers-placed : (r : Read) (o : Option Bytes) → refers r.value ≡ refers r.actual → refers (if_placed r o) ≡ refers r.value
unfolding if_placed refers
refers-placed r None same = refl
refers-placed r (Some x) same = sym same

refers-settled : (names : Naming) (e : Expr) → refers (settled names (read names e)) ≡ refers (read names e).value
unfolding settled read
refers-settled names e =
    refers-array names (if_placed (read names e) (read names e).base) (read names e).value (read names e).named
    (refers-placed (read names e) (read names e).base (refers-alike names e)) (none-tree names e)

refers-either : (b : Bool) (t u : Term) → refers t ≡ refers u → refers (if b then t else u) ≡ refers u
refers-either true t u same = same
refers-either false t u same = refl

pub refers-mannered : (m : Manner) (names : Naming) (e : Expr) → refers (taking_by m e names) ≡ refers (read names e).value
unfolding taking_by by_manner
refers-mannered manner.Value names e = refl
refers-mannered manner.Place names e = sym (refers-alike names e)
refers-mannered manner.Settled names e = refers-settled names e
refers-mannered manner.Unit names e = refers-either (is_text names (read names e).base) (settled names (read names e)) (read names e).value (refers-settled names e)
