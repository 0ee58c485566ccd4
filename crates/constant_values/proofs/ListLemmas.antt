-- Expressions of a list, valued in turn.
use Rattle.std.proofs.Common.{◌≡◌, ℕ, suc, ◌+◌, ◌≤◌, ◌<◌, List, [], ◌∷◌, ◌++◌, drop, drop-cons, get_or, length, Option, Some, None, refl, ap, sym, ◌∙◌, arith, append_assoc, append-nil}
use Rattle.std.proofs.lemmas.List.{drop_all}
use Rattle.f_tree.specs.declared.expressions.Expr.{Expr}
use Rattle.f_tree.specs.Values.{Datum}
use Rattle.name_facts.specs.declared.fact.ConstantValue.{ConstantValue}
use Rattle.name_facts.specs.GivenFacts.{datum_of}
use Rattle.constant_values.specs.Folded.{KnownNames, folded, if_some, all_some}
use Rattle.constant_values.specs.Operands.{data_of, each_folded}

unfoldable pub behind : List Datum → Option (List Datum) → Option (List Datum)
behind ds None = None
behind ds (Some es) = Some (ds ++ es)

data-both : (vs ws : List ConstantValue) → data_of (vs ++ ws) ≡ data_of vs ++ data_of ws
unfolding data_of
data-both [] ws = refl
data-both (v ∷ vs) ws = ap (λ ds. datum_of v ∷ ds) (data-both vs ws)

behind-more : (ds : List Datum) (d : Datum) (o : Option (List Datum)) → behind ds (if_some o (λ es. Some (d ∷ es))) ≡ behind (ds ++ d ∷ []) o
unfolding behind if_some
behind-more ds d None = refl
behind-more ds d (Some es) = ap Some (sym (append_assoc ds (d ∷ []) es))

module _ (known : KnownNames) (env : List Datum) where
  rest-is : (es : List Expr) (i : ℕ) (e d : Expr) → i < length es → e ≡ get_or es i d → drop i es ≡ e ∷ drop (i + 1) es
  rest-is es i e d h is = drop-cons es i d h ∙ ap (λ y. y ∷ drop (suc i) es) (sym is) ∙ ap (λ n. e ∷ drop n es) (let k : suc i ≡ i + 1 = omega arith in k)

  valued-more : (v : ConstantValue) (e : Expr) (rest : List Expr) (done : List ConstantValue) → Some (datum_of v) ≡ folded known e env →
      behind (data_of done) (all_some (each_folded known (e ∷ rest) env)) ≡ behind (data_of (done ++ v ∷ [])) (all_some (each_folded known rest env))
  unfolding each_folded all_some data_of if_some
  valued-more v e rest done is =
      ap (λ o. behind (data_of done) (if_some o (λ d. if_some (all_some (each_folded known rest env)) (λ ds. Some (d ∷ ds))))) (sym is)
      ∙ opened v rest done
      ∙ behind-more (data_of done) (datum_of v) (all_some (each_folded known rest env))
      ∙ ap (λ ds. behind ds (all_some (each_folded known rest env))) (sym (data-both done (v ∷ [])))
    where
      opened : (v : ConstantValue) (rest : List Expr) (done : List ConstantValue) →
          behind (data_of done) (if_some (Some (datum_of v)) (λ d. if_some (all_some (each_folded known rest env)) (λ ds. Some (d ∷ ds))))
          ≡ behind (data_of done) (if_some (all_some (each_folded known rest env)) (λ ds. Some (datum_of v ∷ ds)))
      opened v rest done = some-opened (datum_of v) (λ d. if_some (all_some (each_folded known rest env)) (λ ds. Some (d ∷ ds))) (data_of done)
        where
          some-opened : (d : Datum) (go : Datum → Option (List Datum)) (ds : List Datum) → behind ds (if_some (Some d) go) ≡ behind ds (go d)
          some-opened d go ds = refl

  pub each-more : (es : List Expr) (i : ℕ) (e d : Expr) (whole : Option (List Datum)) (done : List ConstantValue) (v : ConstantValue) → i < length es → e ≡ get_or es i d
      → whole ≡ behind (data_of done) (all_some (each_folded known (drop i es) env)) → Some (datum_of v) ≡ folded known e env
      → whole ≡ behind (data_of (done ++ v ∷ [])) (all_some (each_folded known (drop (i + 1) es) env))
  each-more es i e d whole done v h is so_far value =
      so_far ∙ ap (λ xs. behind (data_of done) (all_some (each_folded known xs env))) (rest-is es i e d h is) ∙ valued-more v e (drop (i + 1) es) done value

  none-in : (e : Expr) (rest : List Expr) (done : List ConstantValue) → None ≡ folded known e env → behind (data_of done) (all_some (each_folded known (e ∷ rest) env)) ≡ None
  unfolding each_folded all_some if_some behind
  none-in e rest done is = ap (λ o. behind (data_of done) (if_some o (λ d. if_some (all_some (each_folded known rest env)) (λ ds. Some (d ∷ ds))))) (sym is)

  pub each-none : (es : List Expr) (i : ℕ) (e d : Expr) (whole : Option (List Datum)) (done : List ConstantValue) → i < length es → e ≡ get_or es i d
      → whole ≡ behind (data_of done) (all_some (each_folded known (drop i es) env)) → None ≡ folded known e env → None ≡ whole
  each-none es i e d whole done h is so_far value =
      sym (so_far ∙ ap (λ xs. behind (data_of done) (all_some (each_folded known xs env))) (rest-is es i e d h is) ∙ none-in e (drop (i + 1) es) done value)

  pub each-end : (es : List Expr) (i : ℕ) (whole : Option (List Datum)) (done : List ConstantValue) → length es ≤ i
      → whole ≡ behind (data_of done) (all_some (each_folded known (drop i es) env)) → Some (data_of done) ≡ whole
  unfolding behind all_some each_folded
  each-end es i whole done h so_far =
      sym (so_far ∙ ap (λ xs. behind (data_of done) (all_some (each_folded known xs env))) (drop_all i es h) ∙ ap Some (append-nil (data_of done)))

  pub each-start : (es : List Expr) → all_some (each_folded known es env) ≡ behind (data_of []) (all_some (each_folded known es env))
  unfolding behind data_of
  each-start es = by (all_some (each_folded known es env))
    where
      by : (o : Option (List Datum)) → o ≡ behind [] o
      by None = refl
      by (Some ds) = refl
