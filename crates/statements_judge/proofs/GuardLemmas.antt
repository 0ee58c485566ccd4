-- A DO that a logical IF guards is refused, whether or not its range ends: the rows of a statement are alike, whatever is told of the ends of
-- loops that it does not begin.
use Rattle.std.proofs.Common.{◌≡◌, ℕ, Bool, true, false, List, [], ◌∷◌, ◌++◌, Option, refl, sym, ap, ◌∙◌}
use Rattle.f_tree.specs.declared.refusals.Kind.{Kind}
use Rattle.f_tree.specs.declared.refusals.Kind.TheVariants.{SyntaxError, BadDoNest}
use Rattle.f_tree.specs.declared.statements.Body.{Body, Do, DoWhile, IfOne', more_of-Body}
use Rattle.f_tree.specs.Folds.{fold_body, layer_of}
use Rattle.declaration_rows.specs.Judgement.{unless}
use Rattle.declaration_rows.specs.StatementRows.{statement_rows_opened, Broken, layer_broken, broken}
use Rattle.declaration_rows.specs.StatementRows as rows
use Rattle.refusal_order.specs.Earliest.{less, least as lesser, least_of as least}
use Rattle.expression_judge.proofs.kind_order.LeastLemmas.{lesser-joined, least-append}
use Rattle.loop_ranges.specs.LoopForms.{begun_by, form_of}

-- a site at which each loop ends, or none
unfoldable pub ends_told : rows.Site → Bool → rows.Site
ends_told known ends = record { known = known.known; branches = known.branches; formats = known.formats; ends_loop = λ label. ends }

-- of two numbers the row of what is no statement is less
alone_first : (b c : Bool) → least (unless b BadDoNest ++ SyntaxError ∷ []) ≡ least (unless c BadDoNest ++ SyntaxError ∷ [])
unfolding unless least less
alone_first true true = refl
alone_first true false = refl
alone_first false true = refl
alone_first false false = refl

loop_alike : (xs : List Kind) (b c : Bool) → least ((xs ++ unless b BadDoNest) ++ SyntaxError ∷ []) ≡ least ((xs ++ unless c BadDoNest) ++ SyntaxError ∷ [])
loop_alike xs b c = split b ∙ ap (lesser (least xs)) (alone_first b c) ∙ sym (split c)
  where
    split : (d : Bool) → least ((xs ++ unless d BadDoNest) ++ SyntaxError ∷ []) ≡ lesser (least xs) (least (unless d BadDoNest ++ SyntaxError ∷ []))
    split d =
        least-append (xs ++ unless d BadDoNest) (SyntaxError ∷ []) ∙ ap (λ o. lesser o (least (SyntaxError ∷ []))) (least-append xs (unless d BadDoNest))
        ∙ lesser-joined (least xs) (least (unless d BadDoNest)) (least (SyntaxError ∷ [])) ∙ ap (lesser (least xs)) (sym (least-append (unless d BadDoNest) (SyntaxError ∷ [])))

rows_alike : (xs ys zs : List Kind) → least ys ≡ least zs → least (xs ++ ys) ≡ least (xs ++ zs)
rows_alike xs ys zs same = least-append xs ys ∙ ap (lesser (least xs)) same ∙ sym (least-append xs zs)

alone_alike : (xs ys zs ws : List Kind) → least ys ≡ least zs → least ((xs ++ ys) ++ ws) ≡ least ((xs ++ zs) ++ ws)
alone_alike xs ys zs ws same = least-append (xs ++ ys) ws ∙ ap (λ o. lesser o (least ws)) (rows_alike xs ys zs same) ∙ sym (least-append (xs ++ zs) ws)

module _ (known : rows.Site) (ends : Bool) where
  -- what is guarded
  guarded_alike : (b : Body) → least ((fold_body (layer_broken known) b).rows ++ (fold_body (layer_broken known) b).guarded)
      ≡ least ((fold_body (layer_broken (ends_told known ends)) b).rows ++ (fold_body (layer_broken (ends_told known ends)) b).guarded)
  unfolding fold_body statement_rows_opened ends_told
  guarded_alike (Do label control) = loop_alike _ (known.ends_loop label) ends
  guarded_alike (DoWhile label e) = loop_alike _ (known.ends_loop label) ends
  guarded_alike (IfOne' e s (more_of-Body b r)) = alone_alike _ _ _ (SyntaxError ∷ []) (guarded_alike b)
  guarded_alike _ = refl

  statement_alike : (b : Body) → ((label : Option ℕ) → form_of b ≡ begun_by label → known.ends_loop label ≡ ends)
      → least (fold_body (layer_broken known) b).rows ≡ least (fold_body (layer_broken (ends_told known ends)) b).rows
  unfolding fold_body statement_rows_opened ends_told form_of layer_of
  statement_alike (Do label control) told = rows_alike _ _ _ (ap (λ c. least (unless c BadDoNest)) (told label refl))
  statement_alike (DoWhile label e) told = rows_alike _ _ _ (ap (λ c. least (unless c BadDoNest)) (told label refl))
  statement_alike (IfOne' e s (more_of-Body b r)) told = rows_alike _ _ _ (guarded_alike b)
  statement_alike _ told = refl

pub ends_alike : (known : rows.Site) (ends : Bool) (b : Body) → ((label : Option ℕ) → form_of b ≡ begun_by label → known.ends_loop label ≡ ends)
    → least (broken known b).rows ≡ least (broken (ends_told known ends) b).rows
unfolding broken
ends_alike known ends b told = statement_alike known ends b told
