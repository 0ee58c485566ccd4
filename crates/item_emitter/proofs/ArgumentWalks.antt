-- Actual arguments one after the other, of which labels are passed as nothing.
use Rattle.std.proofs.Common.{◌≡◌, ℕ, suc, ◌+◌, ◌≤◌, ◌<◌, true, false, List, [], ◌∷◌, ◌++◌, drop, drop-cons, get_or, length, Option, Some, None, ap, sym, ◌∙◌, arith}
use Rattle.std.proofs.lemmas.List.{drop_all}
use Rattle.c_tree.specs.declared.expression.CExpr.{CExpr}
use Rattle.c_structure.specs.Expressions.{one_more}
use Rattle.lowered_tree.specs.declared.pures.Pure.{Pure}
use Rattle.lowered_tree.specs.Shapes.{pure_of, pures_of}
use Rattle.item_emission.specs.NamedEmission.{Knowledge, argument_expr, argument_exprs}
use Rattle.item_emitter.specs.Operands.{is_label}
use Rattle.item_emitter.proofs.ArgumentForms.{arguments-none, arguments-label, arguments-more}
use Rattle.item_emitter.proofs.ValueWalks.{behind, behind-more, behind-none, behind-nothing, behind-all}

-- the expressions of the arguments from one on
abbrev pub arguments_left : Knowledge → List Pure → ℕ → Option (List CExpr)
arguments_left known ps i = argument_exprs known (pures_of (drop i ps))

left-is : (ps : List Pure) (i : ℕ) (p d : Pure) → i < length ps → p ≡ get_or ps i d → drop i ps ≡ p ∷ drop (i + 1) ps
left-is ps i p d within is =
    drop-cons ps i d within ∙ ap (λ y. y ∷ drop (suc i) ps) (sym is) ∙ ap (λ n. p ∷ drop n ps) (let next : suc i ≡ i + 1 = omega arith in next)

left-label : (known : Knowledge) (ps : List Pure) (i : ℕ) (p d : Pure) → i < length ps → p ≡ get_or ps i d → is_label (pure_of p) ≡ true → arguments_left known ps i ≡ arguments_left known ps (i + 1)
left-label known ps i p d within is label = ap (λ rest. argument_exprs known (pures_of rest)) (left-is ps i p d within is) ∙ arguments-label known p (drop (i + 1) ps) label

left-other : (known : Knowledge) (ps : List Pure) (i : ℕ) (p d : Pure) (o : Option CExpr) → i < length ps → p ≡ get_or ps i d → is_label (pure_of p) ≡ false → o ≡ argument_expr known (pure_of p)
    → arguments_left known ps i ≡ one_more o (arguments_left known ps (i + 1))
left-other known ps i p d o within is other value =
    ap (λ rest. argument_exprs known (pures_of rest)) (left-is ps i p d within is) ∙ arguments-more known p (drop (i + 1) ps) other
    ∙ ap (λ v. one_more v (arguments_left known ps (i + 1))) (sym value)

pub arguments-begin : (known : Knowledge) (ps : List Pure) (row : List CExpr) → row ≡ [] → argument_exprs known (pures_of ps) ≡ behind row (arguments_left known ps 0)
arguments-begin known ps row none = behind-nothing (argument_exprs known (pures_of ps)) ∙ ap (λ es. behind es (argument_exprs known (pures_of ps))) (sym none)

pub arguments-past-label : (known : Knowledge) (ps : List Pure) (i : ℕ) (p d : Pure) (whole : Option (List CExpr)) (row : List CExpr) → i < length ps → p ≡ get_or ps i d → is_label (pure_of p) ≡ true
    → whole ≡ behind row (arguments_left known ps i) → whole ≡ behind row (arguments_left known ps (i + 1))
arguments-past-label known ps i p d whole row within is label so_far = so_far ∙ ap (behind row) (left-label known ps i p d within is label)

pub arguments-next : (known : Knowledge) (ps : List Pure) (i : ℕ) (p d : Pure) (whole : Option (List CExpr)) (before after : List CExpr) (e : CExpr) → i < length ps → p ≡ get_or ps i d
    → is_label (pure_of p) ≡ false → Some e ≡ argument_expr known (pure_of p) → after ≡ before ++ e ∷ [] → whole ≡ behind before (arguments_left known ps i) → whole ≡ behind after (arguments_left known ps (i + 1))
arguments-next known ps i p d whole before after e within is other value pushed so_far =
    so_far ∙ ap (behind before) (left-other known ps i p d (Some e) within is other value) ∙ behind-more before e (arguments_left known ps (i + 1))
    ∙ ap (λ es. behind es (arguments_left known ps (i + 1))) (sym pushed)

pub arguments-stop : (known : Knowledge) (ps : List Pure) (i : ℕ) (p d : Pure) (whole : Option (List CExpr)) (row : List CExpr) → i < length ps → p ≡ get_or ps i d → is_label (pure_of p) ≡ false
    → None ≡ argument_expr known (pure_of p) → whole ≡ behind row (arguments_left known ps i) → None ≡ whole
arguments-stop known ps i p d whole row within is other value so_far =
    sym (so_far ∙ ap (behind row) (left-other known ps i p d None within is other value) ∙ behind-none row (arguments_left known ps (i + 1)))

pub arguments-end : (known : Knowledge) (ps : List Pure) (i : ℕ) (whole : Option (List CExpr)) (row : List CExpr) → length ps ≤ i → whole ≡ behind row (arguments_left known ps i) → Some row ≡ whole
arguments-end known ps i whole row past so_far =
    sym (so_far ∙ ap (λ rest. behind row (argument_exprs known (pures_of rest))) (drop_all i ps past) ∙ ap (behind row) (arguments-none known) ∙ behind-all row)
