-- What an expression has depends on what is known of the names that it uses.
use Rattle.std.proofs.Common.{◌≡◌, ◌&&◌, ◌||◌, List, [], ◌∷◌, ◌++◌, length, refl, ap, ◌∙◌}
use Rattle.f_tree.specs.declared.expressions.Expr.{Expr, Int, Logical, Text, Name, Apply', Part', Minus', Plus', Not', Paren', Binary', AltReturn, Bind', Bound, Row_of-Expr, end_of-Expr, more_of-Expr, None', Some', Held-Expr-Part-1}
use Rattle.f_tree.specs.Folds.{fold_expr, fold_exprs, fold_held}
use Rattle.f_tree.specs.Setting.{IsIn, first_in, later_in}
use Rattle.f_tree.specs.Values.{Bytes}
use Rattle.f_tree.specs.Uses.{Use, used, uses_of, layer_uses, joined_uses, optional_uses}
use Rattle.direct_lines.specs.References.{Known, any, if_written, is_reference, has_arguments, layer_refers, has_reference}

-- two tell the same of a name
pub record IsSame (k l : Known) (x : Bytes) : Type 0 where
  pub class : k.class x ≡ l.class x
  pub stands : k.stands x ≡ l.stands x

-- a fact of each name that is used
pub data EachUsed (P : Bytes → Type 0) : List Use → Type 0 where
  none_used : EachUsed P []
  one_used : {u : Use} {us : List Use} → P u.name → EachUsed P us → EachUsed P (u ∷ us)

pub each-used : (P : Bytes → Type 0) (us : List Use) → ((u : Use) → IsIn u us → P u.name) → EachUsed P us
each-used P [] all = none_used
each-used P (u ∷ us) all = one_used (all u first_in) (each-used P us (λ v o. all v (later_in o)))

used-left : (P : Bytes → Type 0) (us vs : List Use) → EachUsed P (us ++ vs) → EachUsed P us
used-left P [] vs all = none_used
used-left P (u ∷ us) vs (one_used one all) = one_used one (used-left P us vs all)

used-right : (P : Bytes → Type 0) (us vs : List Use) → EachUsed P (us ++ vs) → EachUsed P vs
used-right P [] vs all = all
used-right P (u ∷ us) vs (one_used one all) = used-right P us vs all

first-used : (P : Bytes → Type 0) (u : Use) (us : List Use) → EachUsed P (u ∷ us) → P u.name
first-used P u us (one_used one all) = one

module _ (k l : Known) where
  mutual
    unfolding fold_expr fold_exprs fold_held layer_uses layer_refers used joined_uses optional_uses if_written

    same-tree : (e : Expr) → EachUsed (IsSame k l) (fold_expr layer_uses e) → fold_expr (layer_refers k) e ≡ fold_expr (layer_refers l) e
    same-tree (Int z) all = refl
    same-tree (Logical b) all = refl
    same-tree (Text cs) all = refl
    same-tree (Name x) all = (first-used (IsSame k l) _ [] all).stands
    same-tree (Apply' x s row) all =
        let same = first-used (IsSame k l) _ (joined_uses (fold_exprs layer_uses row)) all in
        ap (λ bs. is_reference x (k.class x) || (has_arguments x (k.class x) (length bs) && any bs)) (same-row row (used-right (IsSame k l) (used x _) (joined_uses (fold_exprs layer_uses row)) all))
        ∙ ap (λ c. is_reference x c || (has_arguments x c (length (fold_exprs (layer_refers l) row)) && any (fold_exprs (layer_refers l) row))) same.class
    same-tree (Part' s (more_of-Expr e r) from to) all =
        let before = used-left (IsSame k l) (fold_expr layer_uses e ++ optional_uses (fold_held layer_uses from)) (optional_uses (fold_held layer_uses to)) all in
        ap (λ b. b || (if_written (fold_held (layer_refers k) from) || if_written (fold_held (layer_refers k) to)))
        (same-tree e (used-left (IsSame k l) (fold_expr layer_uses e) (optional_uses (fold_held layer_uses from)) before))
        ∙ ap (λ b. fold_expr (layer_refers l) e || (b || if_written (fold_held (layer_refers k) to)))
        (same-held from (used-right (IsSame k l) (fold_expr layer_uses e) (optional_uses (fold_held layer_uses from)) before))
        ∙ ap (λ b. fold_expr (layer_refers l) e || (if_written (fold_held (layer_refers l) from) || b))
        (same-held to (used-right (IsSame k l) (fold_expr layer_uses e ++ optional_uses (fold_held layer_uses from)) (optional_uses (fold_held layer_uses to)) all))
    same-tree (Minus' s (more_of-Expr e r)) all = same-tree e all
    same-tree (Plus' s (more_of-Expr e r)) all = same-tree e all
    same-tree (Not' s (more_of-Expr e r)) all = same-tree e all
    same-tree (Paren' s (more_of-Expr e r)) all = same-tree e all
    same-tree (Binary' o s (more_of-Expr a r) t (more_of-Expr b q)) all =
        ap (λ c. c || fold_expr (layer_refers k) b) (same-tree a (used-left (IsSame k l) (fold_expr layer_uses a) (fold_expr layer_uses b) all))
        ∙ ap (λ c. fold_expr (layer_refers l) a || c) (same-tree b (used-right (IsSame k l) (fold_expr layer_uses a) (fold_expr layer_uses b) all))
    same-tree (AltReturn label) all = refl
    same-tree (Bind' s row t (more_of-Expr e q)) all = refl
    same-tree (Bound n) all = refl

    same-row : {m : _} (row : Row_of-Expr m) → EachUsed (IsSame k l) (joined_uses (fold_exprs layer_uses row)) → fold_exprs (layer_refers k) row ≡ fold_exprs (layer_refers l) row
    same-row end_of-Expr all = refl
    same-row (more_of-Expr e row) all =
        ap (λ b. b ∷ fold_exprs (layer_refers k) row) (same-tree e (used-left (IsSame k l) (fold_expr layer_uses e) (joined_uses (fold_exprs layer_uses row)) all))
        ∙ ap (λ bs. fold_expr (layer_refers l) e ∷ bs) (same-row row (used-right (IsSame k l) (fold_expr layer_uses e) (joined_uses (fold_exprs layer_uses row)) all))

    same-held : (held : Held-Expr-Part-1) → EachUsed (IsSame k l) (optional_uses (fold_held layer_uses held)) →
        if_written (fold_held (layer_refers k) held) ≡ if_written (fold_held (layer_refers l) held)
    same-held None' all = refl
    same-held (Some' p (more_of-Expr e r)) all = same-tree e all

-- where two tell the same of the names that an expression uses, it has a reference by both or by none
pub same-reference : (k l : Known) (e : Expr) → EachUsed (IsSame k l) (uses_of e) → has_reference k e ≡ has_reference l e
unfolding has_reference uses_of
same-reference k l e all = same-tree k l e all
