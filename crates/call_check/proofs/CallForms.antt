-- The calls in each form of an expression and of a statement.
use Rattle.std.specs.Prelude.{◌≡◌, ℕ, ℤ, Bool, List, [], ◌∷◌, ◌++◌, Option, Some, None}
use Rattle.std.proofs.Common.{refl, sym, ap, ◌∙◌, append_assoc}
use Rattle.std.proofs.lemmas.List.{append-nil}
use Rattle.f_tree.specs.Values.{Bytes}
use Rattle.f_tree.specs.declared.expressions.BinaryOp.{BinaryOp}
use Rattle.f_tree.specs.declared.expressions.Expr.{Expr}
use Rattle.f_tree.specs.declared.expressions.Expr as tree
use Rattle.f_tree.specs.declared.expressions.Expr.TheBlock as block
use Rattle.f_tree.specs.declared.statements.Body.{Body, Call, IfOne', more_of-Body, end_of-Body}
use Rattle.f_tree.specs.declared.statements.Body.TheVariants as body
use Rattle.f_tree.specs.Folds.{folds_opened}
use Rattle.call_shapes.specs.declaration_rows.ReferenceRows.{only, layer_parts, parts_of}
use Rattle.call_shapes.specs.declared.shapes.NamedShape.{NamedShape}
use Rattle.call_shapes.specs.CallsMade.{listed, calls_within, calls_in_row, calls_in_held, calls_among, layer_calls, calls_of_body}
use Rattle.call_check.specs.CallsSeen.{calls_in_option}

abbrev Applied : Type 0
Applied = Bytes → List Expr → List NamedShape

row_calls : (applied : Applied) (es : List Expr) → calls_in_row applied (block.hidden-the_row-Expr-0 es) ≡ calls_among applied es
unfolding folds_opened calls_within calls_in_row calls_in_held calls_among Rattle.f_tree.specs.declared.expressions.Expr.TheBlock.hidden-the_row-Expr-0
row_calls applied [] = refl
row_calls applied (e ∷ es) = ap (λ cs. calls_within applied e ++ cs) (row_calls applied es)

row_listed : (es : List Expr) → listed (block.hidden-the_row-Expr-0 es) ≡ es
unfolding folds_opened listed Rattle.f_tree.specs.declared.expressions.Expr.TheBlock.hidden-the_row-Expr-0
row_listed [] = refl
row_listed (e ∷ es) = ap (λ fs. e ∷ fs) (row_listed es)

-- FORMS WITHOUT CALLS
nothing_added : (cs ds : List NamedShape) → ds ≡ [] → cs ≡ cs ++ ds
nothing_added cs ds is = sym (append-nil cs) ∙ ap (λ es. cs ++ es) (sym is)

Int-has-none : (applied : Applied) (z : ℤ) → calls_within applied (tree.Int z) ≡ []
unfolding folds_opened calls_within
Int-has-none applied z = refl

pub none-Int : (cs : List NamedShape) (applied : Applied) (whole : Expr) (z : ℤ) → whole ≡ tree.Int z → cs ≡ cs ++ calls_within applied whole
none-Int cs applied whole z is = nothing_added cs (calls_within applied whole) (ap (calls_within applied) is ∙ Int-has-none applied z)

Logical-has-none : (applied : Applied) (b : Bool) → calls_within applied (tree.Logical b) ≡ []
unfolding folds_opened calls_within
Logical-has-none applied b = refl

pub none-Logical : (cs : List NamedShape) (applied : Applied) (whole : Expr) (b : Bool) → whole ≡ tree.Logical b → cs ≡ cs ++ calls_within applied whole
none-Logical cs applied whole b is = nothing_added cs (calls_within applied whole) (ap (calls_within applied) is ∙ Logical-has-none applied b)

Text-has-none : (applied : Applied) (text : Bytes) → calls_within applied (tree.Text text) ≡ []
unfolding folds_opened calls_within
Text-has-none applied text = refl

pub none-Text : (cs : List NamedShape) (applied : Applied) (whole : Expr) (text : Bytes) → whole ≡ tree.Text text → cs ≡ cs ++ calls_within applied whole
none-Text cs applied whole text is = nothing_added cs (calls_within applied whole) (ap (calls_within applied) is ∙ Text-has-none applied text)

Name-has-none : (applied : Applied) (x : Bytes) → calls_within applied (tree.Name x) ≡ []
unfolding folds_opened calls_within
Name-has-none applied x = refl

pub none-Name : (cs : List NamedShape) (applied : Applied) (whole : Expr) (x : Bytes) → whole ≡ tree.Name x → cs ≡ cs ++ calls_within applied whole
none-Name cs applied whole x is = nothing_added cs (calls_within applied whole) (ap (calls_within applied) is ∙ Name-has-none applied x)

AltReturn-has-none : (applied : Applied) (label : ℕ) → calls_within applied (tree.AltReturn label) ≡ []
unfolding folds_opened calls_within
AltReturn-has-none applied label = refl

pub none-AltReturn : (cs : List NamedShape) (applied : Applied) (whole : Expr) (label : ℕ) → whole ≡ tree.AltReturn label → cs ≡ cs ++ calls_within applied whole
none-AltReturn cs applied whole label is = nothing_added cs (calls_within applied whole) (ap (calls_within applied) is ∙ AltReturn-has-none applied label)

Bound-has-none : (applied : Applied) (k : ℕ) → calls_within applied (tree.Bound k) ≡ []
unfolding folds_opened calls_within
Bound-has-none applied k = refl

pub none-Bound : (cs : List NamedShape) (applied : Applied) (whole : Expr) (k : ℕ) → whole ≡ tree.Bound k → cs ≡ cs ++ calls_within applied whole
none-Bound cs applied whole k is = nothing_added cs (calls_within applied whole) (ap (calls_within applied) is ∙ Bound-has-none applied k)

Bind-has-none : (applied : Applied) (es : List Expr) (e : Expr) → calls_within applied (tree.Bind es e) ≡ []
unfolding folds_opened calls_within
Bind-has-none applied es e = refl

pub none-Bind : (cs : List NamedShape) (applied : Applied) (whole : Expr) (es : List Expr) (e : Expr) → whole ≡ tree.Bind es e → cs ≡ cs ++ calls_within applied whole
none-Bind cs applied whole es e is = nothing_added cs (calls_within applied whole) (ap (calls_within applied) is ∙ Bind-has-none applied es e)

-- FORMS WITH PARTS
pub calls-Minus : (applied : Applied) (e : Expr) → calls_within applied (tree.Minus e) ≡ calls_within applied e
unfolding folds_opened calls_within
calls-Minus applied e = refl

pub calls-Plus : (applied : Applied) (e : Expr) → calls_within applied (tree.Plus e) ≡ calls_within applied e
unfolding folds_opened calls_within
calls-Plus applied e = refl

pub calls-Not : (applied : Applied) (e : Expr) → calls_within applied (tree.Not e) ≡ calls_within applied e
unfolding folds_opened calls_within
calls-Not applied e = refl

pub calls-Paren : (applied : Applied) (e : Expr) → calls_within applied (tree.Paren e) ≡ calls_within applied e
unfolding folds_opened calls_within
calls-Paren applied e = refl

calls-Binary : (applied : Applied) (o : BinaryOp) (a b : Expr) → calls_within applied (tree.Binary o a b) ≡ calls_within applied a ++ calls_within applied b
unfolding folds_opened calls_within
calls-Binary applied o a b = refl

calls-Apply : (applied : Applied) (x : Bytes) (es : List Expr) → calls_within applied (tree.Apply x es) ≡ applied x es ++ calls_among applied es
unfolding folds_opened calls_within calls_in_row calls_in_held Rattle.f_tree.specs.declared.expressions.Expr.TheBlock.hidden-the_row-Expr-0
calls-Apply applied x es = ap (λ fs. applied x fs ++ calls_in_row applied (block.hidden-the_row-Expr-0 es)) (row_listed es) ∙ ap (λ cs. applied x es ++ cs) (row_calls applied es)

calls-Part : (applied : Applied) (e : Expr) (from to : Option Expr)
    → calls_within applied (tree.Part e from to) ≡ calls_within applied e ++ (calls_in_option applied from ++ calls_in_option applied to)
unfolding folds_opened calls_within calls_in_held calls_in_option
calls-Part applied e None None = refl
calls-Part applied e None (Some b) = refl
calls-Part applied e (Some a) None = refl
calls-Part applied e (Some a) (Some b) = refl

pub ruleset call_forms = (none-Int, none-Logical, none-Text, none-Name, none-AltReturn, none-Bound, none-Bind, calls-Minus, calls-Plus, calls-Not, calls-Paren)

-- the calls of an expression are its own and those of its parts
pub whole_apply : (applied : Applied) (x y : Bytes) (es fs gs : List Expr) (e : Expr) → y ≡ x → fs ≡ es → gs ≡ es → e ≡ tree.Apply x es
    → applied y fs ++ calls_among applied gs ≡ calls_within applied e
whole_apply applied x y es fs gs e named one two is =
    ap (λ (z : Bytes). applied z fs ++ calls_among applied gs) named ∙ ap (λ (hs : List Expr). applied x hs ++ calls_among applied gs) one
    ∙ ap (λ (hs : List Expr). applied x es ++ calls_among applied hs) two ∙ sym (ap (calls_within applied) is ∙ calls-Apply applied x es)

pub whole_part : (applied : Applied) (a b : Expr) (from to : Option Expr) (e : Expr) → b ≡ a → e ≡ tree.Part a from to
    → (calls_within applied b ++ calls_in_option applied from) ++ calls_in_option applied to ≡ calls_within applied e
whole_part applied a b from to e same is =
    ap (λ (f : Expr). (calls_within applied f ++ calls_in_option applied from) ++ calls_in_option applied to) same
    ∙ append_assoc (calls_within applied a) (calls_in_option applied from) (calls_in_option applied to) ∙ sym (ap (calls_within applied) is ∙ calls-Part applied a from to)

pub whole_binary : (applied : Applied) (o : BinaryOp) (a b c d e : Expr) → c ≡ a → d ≡ b → e ≡ tree.Binary o a b
    → calls_within applied c ++ calls_within applied d ≡ calls_within applied e
whole_binary applied o a b c d e one two is =
    ap (λ (f : Expr). calls_within applied f ++ calls_within applied d) one ∙ ap (λ (f : Expr). calls_within applied a ++ calls_within applied f) two
    ∙ sym (ap (calls_within applied) is ∙ calls-Binary applied o a b)

pub list_step : (applied : Applied) (e : Expr) (es : List Expr) → calls_among applied (e ∷ es) ≡ calls_within applied e ++ calls_among applied es
unfolding calls_among
list_step applied e es = refl

pub list_end : (applied : Applied) → calls_among applied [] ≡ []
unfolding calls_among
list_end applied = refl

-- STATEMENTS
calls-Call : (called applied : Applied) (x : Bytes) (es : List Expr) → calls_of_body called applied (body.Call x es) ≡ called x es ++ calls_among applied es
unfolding folds_opened calls_of_body layer_calls
calls-Call called applied x es = refl

calls-IfOne : (called applied : Applied) (e : Expr) (b : Body) → calls_of_body called applied (body.IfOne e b) ≡ calls_within applied e ++ calls_of_body called applied b
unfolding folds_opened calls_of_body layer_calls
calls-IfOne called applied e b = refl

pub whole_call : (called applied : Applied) (x y : Bytes) (es fs gs : List Expr) (b : Body) → y ≡ x → fs ≡ es → gs ≡ es → b ≡ body.Call x es
    → called y fs ++ calls_among applied gs ≡ calls_of_body called applied b
whole_call called applied x y es fs gs b named one two is =
    ap (λ (z : Bytes). called z fs ++ calls_among applied gs) named ∙ ap (λ (hs : List Expr). called x hs ++ calls_among applied gs) one
    ∙ ap (λ (hs : List Expr). called x es ++ calls_among applied hs) two ∙ sym (ap (calls_of_body called applied) is ∙ calls-Call called applied x es)

pub whole_if : (called applied : Applied) (e : Expr) (c d b : Body) → d ≡ c → b ≡ body.IfOne e c
    → calls_within applied e ++ calls_of_body called applied d ≡ calls_of_body called applied b
whole_if called applied e c d b same is =
    ap (λ (f : Body). calls_within applied e ++ calls_of_body called applied f) same ∙ sym (ap (calls_of_body called applied) is ∙ calls-IfOne called applied e c)

-- any other statement has the calls in its expressions
pub calls_other : (called applied : Applied) (b : Body) → ((x : Bytes) (es : List Expr) → b ≡ body.Call x es → ⊥) → ((e : Expr) (c : Body) → b ≡ body.IfOne e c → ⊥)
    → calls_among applied (parts_of b).expressions ≡ calls_of_body called applied b
unfolding folds_opened parts_of layer_parts only calls_of_body layer_calls calls_among
calls_other called applied (Call x es) one two = absurd (one x es refl)
calls_other called applied (IfOne' e s (more_of-Body b end_of-Body)) one two = absurd (two e b refl)
calls_other called applied _ one two = refl
