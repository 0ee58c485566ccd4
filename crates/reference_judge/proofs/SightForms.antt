-- What each form of an expression is as an actual argument, and the references in it.
use Rattle.std.specs.Prelude.{◌≡◌, ℕ, ℤ, Bool, true, false, List, [], ◌∷◌, ◌++◌, map, Option, Some, None, option_map}
use Rattle.std.proofs.Common.{refl, sym, ap, ◌∙◌, append_assoc}
use Rattle.std.proofs.lemmas.List.{append-nil, map-append}
use Rattle.f_tree.specs.Values.{Bytes}
use Rattle.f_tree.specs.declared.expressions.BinaryOp.{BinaryOp}
use Rattle.f_tree.specs.declared.expressions.Expr.{Expr}
use Rattle.f_tree.specs.declared.expressions.Expr as tree
use Rattle.f_tree.specs.declared.expressions.Expr.TheBlock as block
use Rattle.f_tree.specs.declared.statements.Stmt.{Stmt}
use Rattle.f_tree.specs.Folds.{fold_exprs, folds_opened}
use Rattle.declaration_rows.specs.ReferenceRows.{Reference}
use Rattle.expression_judge.specs.declared.names.Names.{Names}
use Rattle.expression_judge.specs.FoundSteps.{name_judged_by}
use Rattle.reference_judge.specs.ArgumentsSeen.{kind_in, value_argument, exit_argument, found_argument, list_gives_text, joins_texts, Sight, all_references, option_references, kinds_of, called_references, part_references, layer_argument, layer_references, layer_sight, sight_by}
use Rattle.reference_judge.specs.ReferencesSeen.{Located, at}

row-sight : (names : Names) (es : List Expr) → fold_exprs (layer_sight names) (block.hidden-the_row-Expr-0 es) ≡ map (sight_by names) es
unfolding folds_opened sight_by Rattle.f_tree.specs.declared.expressions.Expr.TheBlock.hidden-the_row-Expr-0
row-sight names [] = refl
row-sight names (e ∷ es) = ap (λ ts. sight_by names e ∷ ts) (row-sight names es)

-- ARGUMENTS
pub argument-Int : (names : Names) (z : ℤ) → (sight_by names (tree.Int z)).argument ≡ value_argument false
unfolding folds_opened sight_by layer_sight layer_argument
argument-Int names z = refl

pub argument-Logical : (names : Names) (b : Bool) → (sight_by names (tree.Logical b)).argument ≡ value_argument false
unfolding folds_opened sight_by layer_sight layer_argument
argument-Logical names b = refl

pub argument-Text : (names : Names) (cs : Bytes) → (sight_by names (tree.Text cs)).argument ≡ value_argument true
unfolding folds_opened sight_by layer_sight layer_argument
argument-Text names cs = refl

pub argument-Name : (names : Names) (x : Bytes) → (sight_by names (tree.Name x)).argument ≡ found_argument (name_judged_by names x)
unfolding folds_opened sight_by layer_sight layer_argument
argument-Name names x = refl

pub argument-AltReturn : (names : Names) (label : ℕ) → (sight_by names (tree.AltReturn label)).argument ≡ exit_argument
unfolding folds_opened sight_by layer_sight layer_argument
argument-AltReturn names label = refl

pub argument-Bound : (names : Names) (k : ℕ) → (sight_by names (tree.Bound k)).argument ≡ value_argument false
unfolding folds_opened sight_by layer_sight layer_argument
argument-Bound names k = refl

pub argument-Bind : (names : Names) (es : List Expr) (e : Expr) → (sight_by names (tree.Bind es e)).argument ≡ value_argument false
unfolding folds_opened sight_by layer_sight layer_argument
argument-Bind names es e = refl

pub argument-Apply : (names : Names) (x : Bytes) (es : List Expr) → (sight_by names (tree.Apply x es)).argument ≡ value_argument (list_gives_text names x)
unfolding folds_opened sight_by layer_sight layer_argument
argument-Apply names x es = refl

pub argument-Minus : (names : Names) (e : Expr) → (sight_by names (tree.Minus e)).argument ≡ value_argument false
unfolding folds_opened sight_by layer_sight layer_argument
argument-Minus names e = refl

pub argument-Plus : (names : Names) (e : Expr) → (sight_by names (tree.Plus e)).argument ≡ value_argument false
unfolding folds_opened sight_by layer_sight layer_argument
argument-Plus names e = refl

pub argument-Not : (names : Names) (e : Expr) → (sight_by names (tree.Not e)).argument ≡ value_argument false
unfolding folds_opened sight_by layer_sight layer_argument
argument-Not names e = refl

pub argument-Paren : (names : Names) (e : Expr) → (sight_by names (tree.Paren e)).argument ≡ value_argument (sight_by names e).argument.is_text
unfolding folds_opened sight_by layer_sight layer_argument
argument-Paren names e = refl

pub argument-Binary : (names : Names) (o : BinaryOp) (a b : Expr) → (sight_by names (tree.Binary o a b)).argument ≡ value_argument (joins_texts o)
unfolding folds_opened sight_by layer_sight layer_argument
argument-Binary names o a b = refl

pub argument-Part : (names : Names) (e : Expr) (from to : Option Expr) → (sight_by names (tree.Part e from to)).argument ≡ value_argument true
unfolding folds_opened sight_by layer_sight layer_argument
argument-Part names e None None = refl
argument-Part names e None (Some b) = refl
argument-Part names e (Some a) None = refl
argument-Part names e (Some a) (Some b) = refl

pub ruleset argument_forms = (argument-Int, argument-Logical, argument-Text, argument-Name, argument-AltReturn, argument-Bound, argument-Bind, argument-Apply, argument-Minus, argument-Plus, argument-Not, argument-Paren, argument-Binary, argument-Part)

-- REFERENCES
pub nothing_at : (ls : List Located) (s : Stmt) (rs : List Reference) → rs ≡ [] → ls ≡ ls ++ at s rs
unfolding at
nothing_at ls s rs is = sym (append-nil ls) ∙ ap (λ (qs : List Reference). ls ++ at s qs) (sym is)

pub at_append : (s : Stmt) (rs qs : List Reference) → at s (rs ++ qs) ≡ at s rs ++ at s qs
unfolding at
at_append s rs qs = map-append (λ (r : Reference). record { statement = s; reference = r }) rs qs

Int-has-none : (names : Names) (z : ℤ) → (sight_by names (tree.Int z)).references ≡ []
unfolding folds_opened sight_by layer_sight layer_references
Int-has-none names z = refl

pub none-Int : (ls : List Located) (s : Stmt) (names : Names) (whole : Expr) (z : ℤ) → whole ≡ tree.Int z → ls ≡ ls ++ at s (sight_by names whole).references
none-Int ls s names whole z is = nothing_at ls s (sight_by names whole).references (ap (λ (f : Expr). (sight_by names f).references) is ∙ Int-has-none names z)

Logical-has-none : (names : Names) (b : Bool) → (sight_by names (tree.Logical b)).references ≡ []
unfolding folds_opened sight_by layer_sight layer_references
Logical-has-none names b = refl

pub none-Logical : (ls : List Located) (s : Stmt) (names : Names) (whole : Expr) (b : Bool) → whole ≡ tree.Logical b → ls ≡ ls ++ at s (sight_by names whole).references
none-Logical ls s names whole b is = nothing_at ls s (sight_by names whole).references (ap (λ (f : Expr). (sight_by names f).references) is ∙ Logical-has-none names b)

Text-has-none : (names : Names) (cs : Bytes) → (sight_by names (tree.Text cs)).references ≡ []
unfolding folds_opened sight_by layer_sight layer_references
Text-has-none names cs = refl

pub none-Text : (ls : List Located) (s : Stmt) (names : Names) (whole : Expr) (cs : Bytes) → whole ≡ tree.Text cs → ls ≡ ls ++ at s (sight_by names whole).references
none-Text ls s names whole cs is = nothing_at ls s (sight_by names whole).references (ap (λ (f : Expr). (sight_by names f).references) is ∙ Text-has-none names cs)

Name-has-none : (names : Names) (x : Bytes) → (sight_by names (tree.Name x)).references ≡ []
unfolding folds_opened sight_by layer_sight layer_references
Name-has-none names x = refl

pub none-Name : (ls : List Located) (s : Stmt) (names : Names) (whole : Expr) (x : Bytes) → whole ≡ tree.Name x → ls ≡ ls ++ at s (sight_by names whole).references
none-Name ls s names whole x is = nothing_at ls s (sight_by names whole).references (ap (λ (f : Expr). (sight_by names f).references) is ∙ Name-has-none names x)

AltReturn-has-none : (names : Names) (label : ℕ) → (sight_by names (tree.AltReturn label)).references ≡ []
unfolding folds_opened sight_by layer_sight layer_references
AltReturn-has-none names label = refl

pub none-AltReturn : (ls : List Located) (s : Stmt) (names : Names) (whole : Expr) (label : ℕ) → whole ≡ tree.AltReturn label → ls ≡ ls ++ at s (sight_by names whole).references
none-AltReturn ls s names whole label is = nothing_at ls s (sight_by names whole).references (ap (λ (f : Expr). (sight_by names f).references) is ∙ AltReturn-has-none names label)

Bound-has-none : (names : Names) (k : ℕ) → (sight_by names (tree.Bound k)).references ≡ []
unfolding folds_opened sight_by layer_sight layer_references
Bound-has-none names k = refl

pub none-Bound : (ls : List Located) (s : Stmt) (names : Names) (whole : Expr) (k : ℕ) → whole ≡ tree.Bound k → ls ≡ ls ++ at s (sight_by names whole).references
none-Bound ls s names whole k is = nothing_at ls s (sight_by names whole).references (ap (λ (f : Expr). (sight_by names f).references) is ∙ Bound-has-none names k)

Bind-has-none : (names : Names) (es : List Expr) (e : Expr) → (sight_by names (tree.Bind es e)).references ≡ []
unfolding folds_opened sight_by layer_sight layer_references
Bind-has-none names es e = refl

pub none-Bind : (ls : List Located) (s : Stmt) (names : Names) (whole : Expr) (es : List Expr) (e : Expr) → whole ≡ tree.Bind es e → ls ≡ ls ++ at s (sight_by names whole).references
none-Bind ls s names whole es e is = nothing_at ls s (sight_by names whole).references (ap (λ (f : Expr). (sight_by names f).references) is ∙ Bind-has-none names es e)

pub references-Minus : (names : Names) (e : Expr) → (sight_by names (tree.Minus e)).references ≡ (sight_by names e).references
unfolding folds_opened sight_by layer_sight layer_references
references-Minus names e = refl

pub references-Plus : (names : Names) (e : Expr) → (sight_by names (tree.Plus e)).references ≡ (sight_by names e).references
unfolding folds_opened sight_by layer_sight layer_references
references-Plus names e = refl

pub references-Not : (names : Names) (e : Expr) → (sight_by names (tree.Not e)).references ≡ (sight_by names e).references
unfolding folds_opened sight_by layer_sight layer_references
references-Not names e = refl

pub references-Paren : (names : Names) (e : Expr) → (sight_by names (tree.Paren e)).references ≡ (sight_by names e).references
unfolding folds_opened sight_by layer_sight layer_references
references-Paren names e = refl

pub references-Binary : (names : Names) (o : BinaryOp) (a b : Expr) → (sight_by names (tree.Binary o a b)).references ≡ (sight_by names a).references ++ (sight_by names b).references
unfolding folds_opened sight_by layer_sight layer_references
references-Binary names o a b = refl

pub references-Apply : (names : Names) (x : Bytes) (es : List Expr)
    → (sight_by names (tree.Apply x es)).references ≡ all_references (map (sight_by names) es) ++ called_references names x (map (sight_by names) es)
unfolding folds_opened sight_by layer_sight layer_references Rattle.f_tree.specs.declared.expressions.Expr.TheBlock.hidden-the_row-Expr-0
references-Apply names x es = ap (λ (ts : List Sight). all_references ts ++ called_references names x ts) (row-sight names es)

pub references-Part : (names : Names) (e : Expr) (from to : Option Expr)
    → (sight_by names (tree.Part e from to)).references ≡ part_references (sight_by names e) (option_map (sight_by names) from) (option_map (sight_by names) to)
unfolding folds_opened sight_by layer_sight layer_references
references-Part names e None None = refl
references-Part names e None (Some b) = refl
references-Part names e (Some a) None = refl
references-Part names e (Some a) (Some b) = refl

pub ruleset reference_forms = (none-Int, none-Logical, none-Text, none-Name, none-AltReturn, none-Bound, none-Bind, references-Minus, references-Plus, references-Not, references-Paren, references-Binary)

-- the references of an expression are those of its parts
pub whole_apply : (names : Names) (s : Stmt) (x y : Bytes) (es fs gs : List Expr) (e : Expr) → y ≡ x → fs ≡ es → gs ≡ es → e ≡ tree.Apply x es
    → at s (all_references (map (sight_by names) fs)) ++ at s (called_references names y (map (sight_by names) gs)) ≡ at s (sight_by names e).references
whole_apply names s x y es fs gs e named one two is =
    ap (λ (hs : List Expr). at s (all_references (map (sight_by names) hs)) ++ at s (called_references names y (map (sight_by names) gs))) one
    ∙ ap (λ (hs : List Expr). at s (all_references (map (sight_by names) es)) ++ at s (called_references names y (map (sight_by names) hs))) two
    ∙ ap (λ (z : Bytes). at s (all_references (map (sight_by names) es)) ++ at s (called_references names z (map (sight_by names) es))) named
    ∙ sym (at_append s (all_references (map (sight_by names) es)) (called_references names x (map (sight_by names) es)))
    ∙ ap (at s) (sym (references-Apply names x es) ∙ ap (λ (f : Expr). (sight_by names f).references) (sym is))

pub whole_part : (names : Names) (s : Stmt) (a b : Expr) (from to : Option Expr) (e : Expr) → b ≡ a → e ≡ tree.Part a from to
    → (at s (sight_by names b).references ++ at s (option_references (option_map (sight_by names) from))) ++ at s (option_references (option_map (sight_by names) to)) ≡ at s (sight_by names e).references
unfolding part_references
whole_part names s a b from to e same is =
    let one = option_references (option_map (sight_by names) from) in
    let other = option_references (option_map (sight_by names) to) in
    ap (λ (f : Expr). (at s (sight_by names f).references ++ at s one) ++ at s other) same
    ∙ append_assoc (at s (sight_by names a).references) (at s one) (at s other)
    ∙ ap (λ (ls : List Located). at s (sight_by names a).references ++ ls) (sym (at_append s one other))
    ∙ sym (at_append s (sight_by names a).references (one ++ other))
    ∙ ap (at s) (sym (references-Part names a from to) ∙ ap (λ (f : Expr). (sight_by names f).references) (sym is))

pub whole_binary : (names : Names) (s : Stmt) (o : BinaryOp) (a b c d e : Expr) → c ≡ a → d ≡ b → e ≡ tree.Binary o a b
    → at s (sight_by names c).references ++ at s (sight_by names d).references ≡ at s (sight_by names e).references
whole_binary names s o a b c d e one two is =
    ap (λ (f : Expr). at s (sight_by names f).references ++ at s (sight_by names d).references) one
    ∙ ap (λ (f : Expr). at s (sight_by names a).references ++ at s (sight_by names f).references) two
    ∙ sym (at_append s (sight_by names a).references (sight_by names b).references)
    ∙ ap (at s) (sym (references-Binary names o a b) ∙ ap (λ (f : Expr). (sight_by names f).references) (sym is))

pub list_step : (names : Names) (s : Stmt) (e : Expr) (es : List Expr)
    → at s (all_references (map (sight_by names) (e ∷ es))) ≡ at s (sight_by names e).references ++ at s (all_references (map (sight_by names) es))
unfolding all_references
list_step names s e es = at_append s (sight_by names e).references (all_references (map (sight_by names) es))

pub list_end : (names : Names) (s : Stmt) → at s (all_references (map (sight_by names) [])) ≡ []
unfolding all_references at
list_end names s = refl

pub kinds_step : (names : Names) (e : Expr) (es : List Expr) → kinds_of (map (sight_by names) (e ∷ es)) ≡ (kind_in (sight_by names e).argument.kind ∷ []) ++ kinds_of (map (sight_by names) es)
unfolding kinds_of
kinds_step names e es = refl

pub kinds_end : (names : Names) → kinds_of (map (sight_by names) []) ≡ []
unfolding kinds_of
kinds_end names = refl
