-- Values of a list, one after the other.
use Rattle.std.proofs.Common.{◌≡◌, ℕ, suc, ◌+◌, ◌≤◌, ◌<◌, List, [], ◌∷◌, ◌++◌, drop, drop-cons, get_or, length, Option, Some, None, refl, ap, sym, ◌∙◌, arith, append_assoc, append-nil}
use Rattle.std.proofs.lemmas.List.{drop_all}
use Rattle.c_tree.specs.declared.expression.CExpr.{CExpr}
use Rattle.c_structure.specs.Expressions.{one_more}
use Rattle.lowered_tree.specs.declared.pures.Pure.{Pure}

-- expressions before others
unfoldable pub behind : List CExpr → Option (List CExpr) → Option (List CExpr)
behind es None = None
behind es (Some later) = Some (es ++ later)

pub behind-more : (es : List CExpr) (e : CExpr) (o : Option (List CExpr)) → behind es (one_more (Some e) o) ≡ behind (es ++ e ∷ []) o
unfolding behind one_more
behind-more es e None = refl
behind-more es e (Some later) = ap Some (sym (append_assoc es (e ∷ []) later))

pub behind-none : (es : List CExpr) (o : Option (List CExpr)) → behind es (one_more None o) ≡ None
unfolding behind one_more
behind-none es o = refl

pub behind-nothing : (o : Option (List CExpr)) → o ≡ behind [] o
unfolding behind
behind-nothing None = refl
behind-nothing (Some es) = refl

pub behind-all : (es : List CExpr) → behind es (Some []) ≡ Some es
unfolding behind
behind-all es = ap Some (append-nil es)

module _ (one : Pure → Option CExpr) (all : List Pure → Option (List CExpr)) (none : all [] ≡ Some []) (more : (p : Pure) (ps : List Pure) → all (p ∷ ps) ≡ one_more (one p) (all ps)) where
  rest-is : (ps : List Pure) (i : ℕ) (p d : Pure) → i < length ps → p ≡ get_or ps i d → drop i ps ≡ p ∷ drop (i + 1) ps
  rest-is ps i p d h is = drop-cons ps i d h ∙ ap (λ y. y ∷ drop (suc i) ps) (sym is) ∙ ap (λ n. p ∷ drop n ps) (let k : suc i ≡ i + 1 = omega arith in k)

  first-by : (ps : List Pure) (i : ℕ) (p d : Pure) (o : Option CExpr) (done : List CExpr) → i < length ps → p ≡ get_or ps i d → o ≡ one p
      → behind done (all (drop i ps)) ≡ behind done (one_more o (all (drop (i + 1) ps)))
  first-by ps i p d o done h is value =
      ap (λ rest. behind done (all rest)) (rest-is ps i p d h is) ∙ ap (behind done) (more p (drop (i + 1) ps) ∙ ap (λ v. one_more v (all (drop (i + 1) ps))) (sym value))

  pub each-more : (ps : List Pure) (i : ℕ) (p d : Pure) (whole : Option (List CExpr)) (done : List CExpr) (e : CExpr) → i < length ps → p ≡ get_or ps i d
      → whole ≡ behind done (all (drop i ps)) → Some e ≡ one p → whole ≡ behind (done ++ e ∷ []) (all (drop (i + 1) ps))
  each-more ps i p d whole done e h is so_far value = so_far ∙ first-by ps i p d (Some e) done h is value ∙ behind-more done e (all (drop (i + 1) ps))

  pub each-none : (ps : List Pure) (i : ℕ) (p d : Pure) (whole : Option (List CExpr)) (done : List CExpr) → i < length ps → p ≡ get_or ps i d
      → whole ≡ behind done (all (drop i ps)) → None ≡ one p → None ≡ whole
  each-none ps i p d whole done h is so_far value = sym (so_far ∙ first-by ps i p d None done h is value ∙ behind-none done (all (drop (i + 1) ps)))

  pub each-end : (ps : List Pure) (i : ℕ) (whole : Option (List CExpr)) (done : List CExpr) → length ps ≤ i → whole ≡ behind done (all (drop i ps)) → Some done ≡ whole
  each-end ps i whole done h so_far = sym (so_far ∙ ap (λ rest. behind done (all rest)) (drop_all i ps h) ∙ ap (behind done) none ∙ behind-all done)

  pub each-start : (ps : List Pure) → all ps ≡ behind [] (all ps)
  each-start ps = behind-nothing (all ps)
