-- Which forms of an expression are lowered.
use Rattle.std.specs.Prelude.{◌≡◌, ℕ, ℤ, Bool, true, false, ◌&&◌, List, [], ◌∷◌, map, ◌⊎◌, Option, Some, None}
use Rattle.std.proofs.Common.{refl, ap, sym, ◌∙◌, inl, inr}
use Rattle.f_tree.specs.Values.{Bytes}
use Rattle.f_tree.specs.declared.expressions.BinaryOp.{BinaryOp}
use Rattle.f_tree.specs.declared.expressions.Expr.{Expr}
use Rattle.f_tree.specs.declared.expressions.Expr as tree
use Rattle.f_tree.specs.declared.expressions.Expr.TheBlock as block
use Rattle.f_tree.specs.Folds.{fold_exprs, folds_opened}
use Rattle.name_facts.specs.declared.table.NameFacts.{NameFacts}
use Rattle.name_facts.specs.GivenFacts.{fact_in}
use Rattle.expression_lowering.specs.TableNames.{name_lowers, applied_lowers, operator_lowers, all_lower, layer_lowers, is_lowered_value}

pub row-covered : (table : NameFacts) (es : List Expr) → fold_exprs (layer_lowers table) (block.hidden-the_row-Expr-0 es) ≡ map (is_lowered_value table) es
unfolding folds_opened is_lowered_value Rattle.f_tree.specs.declared.expressions.Expr.TheBlock.hidden-the_row-Expr-0
row-covered table [] = refl
row-covered table (e ∷ es) = ap (λ bs. is_lowered_value table e ∷ bs) (row-covered table es)

pub covered-Int : (table : NameFacts) (z : ℤ) → is_lowered_value table (tree.Int z) ≡ true
unfolding folds_opened is_lowered_value layer_lowers
covered-Int table z = refl

pub covered-Logical : (table : NameFacts) (b : Bool) → is_lowered_value table (tree.Logical b) ≡ true
unfolding folds_opened is_lowered_value layer_lowers
covered-Logical table b = refl

pub covered-Text : (table : NameFacts) (cs : Bytes) → is_lowered_value table (tree.Text cs) ≡ true
unfolding folds_opened is_lowered_value layer_lowers
covered-Text table cs = refl

pub covered-AltReturn : (table : NameFacts) (label : ℕ) → is_lowered_value table (tree.AltReturn label) ≡ true
unfolding folds_opened is_lowered_value layer_lowers
covered-AltReturn table label = refl

pub covered-Bound : (table : NameFacts) (k : ℕ) → is_lowered_value table (tree.Bound k) ≡ false
unfolding folds_opened is_lowered_value layer_lowers
covered-Bound table k = refl

pub covered-Name : (table : NameFacts) (x : Bytes) → is_lowered_value table (tree.Name x) ≡ name_lowers (fact_in table x).class
unfolding folds_opened is_lowered_value layer_lowers
covered-Name table x = refl

pub covered-Minus : (table : NameFacts) (e : Expr) → is_lowered_value table (tree.Minus e) ≡ is_lowered_value table e
unfolding folds_opened is_lowered_value layer_lowers
covered-Minus table e = refl

pub covered-Plus : (table : NameFacts) (e : Expr) → is_lowered_value table (tree.Plus e) ≡ is_lowered_value table e
unfolding folds_opened is_lowered_value layer_lowers
covered-Plus table e = refl

pub covered-Not : (table : NameFacts) (e : Expr) → is_lowered_value table (tree.Not e) ≡ is_lowered_value table e
unfolding folds_opened is_lowered_value layer_lowers
covered-Not table e = refl

pub covered-Paren : (table : NameFacts) (e : Expr) → is_lowered_value table (tree.Paren e) ≡ is_lowered_value table e
unfolding folds_opened is_lowered_value layer_lowers
covered-Paren table e = refl

pub covered-Binary : (table : NameFacts) (op : BinaryOp) (a b : Expr) →
    is_lowered_value table (tree.Binary op a b) ≡ operator_lowers op && (is_lowered_value table a && is_lowered_value table b)
unfolding folds_opened is_lowered_value layer_lowers
covered-Binary table op a b = refl

pub covered-Apply : (table : NameFacts) (x : Bytes) (es : List Expr) →
    is_lowered_value table (tree.Apply x es) ≡ applied_lowers x (fact_in table x).class && all_lower (map (is_lowered_value table) es)
unfolding folds_opened is_lowered_value layer_lowers Rattle.f_tree.specs.declared.expressions.Expr.TheBlock.hidden-the_row-Expr-0
covered-Apply table x es = ap (λ bs. applied_lowers x (fact_in table x).class && all_lower bs) (row-covered table es)

pub covered-Bind : (table : NameFacts) (es : List Expr) (e : Expr) → is_lowered_value table (tree.Bind es e) ≡ false
unfolding folds_opened is_lowered_value layer_lowers Rattle.f_tree.specs.declared.expressions.Expr.TheBlock.hidden-the_row-Expr-0
covered-Bind table es e = refl

pub covered-Part : (table : NameFacts) (e : Expr) (from to : Option Expr) → is_lowered_value table (tree.Part e from to) ≡ false
unfolding folds_opened is_lowered_value layer_lowers
covered-Part table e None None = refl
covered-Part table e None (Some b) = refl
covered-Part table e (Some a) None = refl
covered-Part table e (Some a) (Some b) = refl

pub ruleset covered_forms = (covered-Int, covered-Logical, covered-Text, covered-AltReturn, covered-Bound, covered-Name, covered-Minus, covered-Plus, covered-Not, covered-Paren, covered-Binary, covered-Apply, covered-Bind, covered-Part)

pub and-left : (a b : Bool) → a && b ≡ true → a ≡ true
and-left true b h = refl
and-left false b h = h

pub and-right : (a b : Bool) → a && b ≡ true → b ≡ true
and-right true b h = h
and-right false b h = absurd (cc)

-- the parts of a lowered form are lowered
pub part-Minus : (table : NameFacts) (e : Expr) → is_lowered_value table (tree.Minus e) ≡ true → is_lowered_value table e ≡ true
part-Minus table e h = sym (covered-Minus table e) ∙ h

pub list-Apply : (table : NameFacts) (x : Bytes) (es : List Expr) → is_lowered_value table (tree.Apply x es) ≡ true → all_lower (map (is_lowered_value table) es) ≡ true
list-Apply table x es h = and-right (applied_lowers x (fact_in table x).class) (all_lower (map (is_lowered_value table) es)) (sym (covered-Apply table x es) ∙ h)

pub name-Apply : (table : NameFacts) (x : Bytes) (es : List Expr) → is_lowered_value table (tree.Apply x es) ≡ true → applied_lowers x (fact_in table x).class ≡ true
name-Apply table x es h = and-left (applied_lowers x (fact_in table x).class) (all_lower (map (is_lowered_value table) es)) (sym (covered-Apply table x es) ∙ h)

pub operator-Binary : (table : NameFacts) (op : BinaryOp) (a b : Expr) → is_lowered_value table (tree.Binary op a b) ≡ true → operator_lowers op ≡ true
operator-Binary table op a b h =
    and-left (operator_lowers op) (is_lowered_value table a && is_lowered_value table b) (sym (covered-Binary table op a b) ∙ h)

both-Binary : (table : NameFacts) (op : BinaryOp) (a b : Expr) → is_lowered_value table (tree.Binary op a b) ≡ true → is_lowered_value table a && is_lowered_value table b ≡ true
both-Binary table op a b h =
    and-right (operator_lowers op) (is_lowered_value table a && is_lowered_value table b) (sym (covered-Binary table op a b) ∙ h)

pub left-Binary : (table : NameFacts) (op : BinaryOp) (a b : Expr) → is_lowered_value table (tree.Binary op a b) ≡ true → is_lowered_value table a ≡ true
left-Binary table op a b h = and-left (is_lowered_value table a) (is_lowered_value table b) (both-Binary table op a b h)

pub right-Binary : (table : NameFacts) (op : BinaryOp) (a b : Expr) → is_lowered_value table (tree.Binary op a b) ≡ true → is_lowered_value table b ≡ true
right-Binary table op a b h = and-right (is_lowered_value table a) (is_lowered_value table b) (both-Binary table op a b h)

-- the operand of a form that is lowered, as the code meets it
pub operand-one : (table : NameFacts) (f : Expr → Expr) → ((o : Expr) → is_lowered_value table (f o) ≡ is_lowered_value table o) →
    (e o read : Expr) → e ≡ f o → read ≡ o → is_lowered_value table e ≡ true → is_lowered_value table read ≡ true
operand-one table f same e o read is found h = ap (is_lowered_value table) found ∙ sym (same o) ∙ ap (is_lowered_value table) (sym is) ∙ h

pub operand-either : (table : NameFacts) (f g : Expr → Expr) → ((o : Expr) → is_lowered_value table (f o) ≡ is_lowered_value table o) →
    ((o : Expr) → is_lowered_value table (g o) ≡ is_lowered_value table o) →
    (e o read : Expr) → (e ≡ f o) ⊎ (e ≡ g o) → read ≡ o → is_lowered_value table e ≡ true → is_lowered_value table read ≡ true
operand-either table f g one other e o read (inl is) found h = operand-one table f one e o read is found h
operand-either table f g one other e o read (inr is) found h = operand-one table g other e o read is found h

pub operands-read : (table : NameFacts) (e : Expr) (x : Bytes) (es read : List Expr) → e ≡ tree.Apply x es → read ≡ es → is_lowered_value table e ≡ true →
    all_lower (map (is_lowered_value table) read) ≡ true
operands-read table e x es read is found h =
    ap (λ es. all_lower (map (is_lowered_value table) es)) found ∙ list-Apply table x es (ap (is_lowered_value table) (sym is) ∙ h)

pub name-read : (table : NameFacts) (e : Expr) (x read : Bytes) (es : List Expr) → e ≡ tree.Apply x es → read ≡ x → is_lowered_value table e ≡ true →
    applied_lowers read (fact_in table read).class ≡ true
name-read table e x read es is found h =
    ap (λ x. applied_lowers x (fact_in table x).class) found ∙ name-Apply table x es (ap (is_lowered_value table) (sym is) ∙ h)

pub left-read : (table : NameFacts) (e : Expr) (op : BinaryOp) (a b read : Expr) → e ≡ tree.Binary op a b → read ≡ a → is_lowered_value table e ≡ true →
    is_lowered_value table read ≡ true
left-read table e op a b read is found h = ap (is_lowered_value table) found ∙ left-Binary table op a b (ap (is_lowered_value table) (sym is) ∙ h)

pub right-read : (table : NameFacts) (e : Expr) (op : BinaryOp) (a b read : Expr) → e ≡ tree.Binary op a b → read ≡ b → is_lowered_value table e ≡ true →
    is_lowered_value table read ≡ true
right-read table e op a b read is found h = ap (is_lowered_value table) found ∙ right-Binary table op a b (ap (is_lowered_value table) (sym is) ∙ h)

pub ruleset covered_parts = (list-Apply, name-Apply, operator-Binary, left-Binary, right-Binary)
