-- What the EQUIVALENCE statements at the front of a unit say, and the storage that its statements make so far.
use Rattle.std.proofs.Common.{◌≡◌, ℕ, zero, suc, ◌<◌, List, [], ◌∷◌, ◌++◌, map, length, take, get_or, arith, refl, sym, ap, subst, ◌∙◌}
use Rattle.std.proofs.lemmas.List.{map-append}
use Rattle.f_tree.specs.declared.statements.Body.{Body}
use Rattle.f_tree.specs.declared.statements.Stmt.{Stmt}
use Rattle.f_tree.specs.declared.units.Unit.{Unit as WrittenUnit}
use Rattle.f_tree.specs.Values.{Bytes}
use Rattle.f_tree.specs.Facts.{Facts}
use Rattle.f_tree.specs.Attributes.{from_all}
use Rattle.f_tree.specs.Lines.{Naming, blocks_from, common_in, equivalence_in, ties_of}
use Rattle.declaration_rows.specs.NameRows.{given_names}
use Rattle.declaration_rows.specs.PlacingRows.{Equation, tie_equation, block_equations, placing_by, first_items}
use Rattle.placing_orders.proofs.Within.{ties_both}
use Rattle.placed_numbers.specs.declared.judging.Standing.{Standing}
use Rattle.unit_equations.specs.BlocksTold.{equation_in}
use Rattle.placing_judge.specs.declared.ties.StatementTies.{StatementTies}
use Rattle.placing_judge.specs.Walked.{facts_of, ties_in, IsTied, AreTied, AreUnitTies, SaysNothing, TellsOf, IsStandingAt}

module _ (c : Facts) (names : Naming) where
  -- EACH STATEMENT HAS WHAT IT SAYS
  pub tied_length : (ss : List Stmt) (ts : List StatementTies) → AreTied c names ss ts → length ts ≡ length ss
  unfolding AreTied
  tied_length [] [] tied = refl
  tied_length [] (t ∷ ts) tied = absurd tied
  tied_length (s ∷ ss) [] tied = absurd tied
  tied_length (s ∷ ss) (t ∷ ts) tied = ap suc (tied_length ss ts tied.1)

  pub tied_at : (ss : List Stmt) (ts : List StatementTies) (i : ℕ) (s d : Stmt) (t e : StatementTies) → AreTied c names ss ts → i < length ss
      → s ≡ get_or ss i d → t ≡ get_or ts i e → IsTied c names s t
  unfolding AreTied
  tied_at [] ts i s d t e tied h is told = absurd (let k : i < 0 = h in omega arith)
  tied_at (r ∷ ss) [] i s d t e tied h is told = absurd tied
  tied_at (r ∷ ss) (q ∷ ts) zero s d t e tied h is told =
      subst (λ x. IsTied c names x t) (sym is) (subst (λ y. IsTied c names r y) (sym told) tied.0)
  tied_at (r ∷ ss) (q ∷ ts) (suc i) s d t e tied h is told =
      tied_at ss ts i s d t e tied.1 (let k : suc i < suc (length ss) = h in omega arith) is told

  ties_step : (s : Stmt) (t : StatementTies) (ss : List Stmt) (said : List Equation) → IsTied c names s t
      → said ≡ map tie_equation (ties_of c names (from_all equivalence_in ss))
      → map equation_in t.equations.items ++ said ≡ map tie_equation (ties_of c names (from_all equivalence_in (s ∷ ss)))
  unfolding from_all
  ties_step s t ss said is more =
      ap (λ es. es ++ said) is.equations
      ∙ ap (λ es. map tie_equation (ties_of c names (equivalence_in s.body)) ++ es) more
      ∙ sym (map-append tie_equation (ties_of c names (equivalence_in s.body)) (ties_of c names (from_all equivalence_in ss)))
      ∙ ap (map tie_equation) (sym (ties_both c names (equivalence_in s.body) (from_all equivalence_in ss)))

  no_ties : map tie_equation (ties_of c names (from_all equivalence_in [])) ≡ []
  unfolding from_all ties_of
  no_ties = refl

  pub ties_taken : (ss : List Stmt) (ts : List StatementTies) (i : ℕ) → AreTied c names ss ts
      → ties_in (take i ts) ≡ map tie_equation (ties_of c names (from_all equivalence_in (take i ss)))
  unfolding AreTied ties_in
  ties_taken [] [] zero tied = sym no_ties
  ties_taken [] [] (suc i) tied = sym no_ties
  ties_taken [] (t ∷ ts) i tied = absurd tied
  ties_taken (s ∷ ss) [] i tied = absurd tied
  ties_taken (s ∷ ss) (t ∷ ts) zero tied = sym no_ties
  ties_taken (s ∷ ss) (t ∷ ts) (suc i) tied = ties_step s t (take i ss) (ties_in (take i ts)) tied.0 (ties_taken ss ts i tied.1)

  -- A STATEMENT THAT SAYS NOTHING leaves the storage as it is
  same_from : {A : Type 0} (f : Body → List A) (ss : List Stmt) (s : Stmt) → f s.body ≡ [] → from_all f (ss ++ s ∷ []) ≡ from_all f ss
  unfolding from_all
  same_from f [] s none = ap (λ xs. xs ++ []) none
  same_from f (r ∷ ss) s none = ap (λ xs. f r.body ++ xs) (same_from f ss s none)

  pub same_placing : (ss : List Stmt) (s : Stmt) → SaysNothing s.body → placing_by c names (ss ++ s ∷ []) ≡ placing_by c names ss
  unfolding placing_by
  same_placing ss s none =
      ap (λ gs. record { blocks = blocks_from names [] gs; equations = block_equations (blocks_from names [] gs) ++ map tie_equation (ties_of c names (from_all equivalence_in (ss ++ s ∷ []))) })
      (same_from common_in ss s none.no_common)
      ∙ ap (λ gs. record { blocks = blocks_from names [] (from_all common_in ss); equations = block_equations (blocks_from names [] (from_all common_in ss)) ++ map tie_equation (ties_of c names gs) })
      (same_from equivalence_in ss s none.no_equivalence)

-- WHAT A FRONT MAKES OF STORAGE
pub standing_told : (u : WrittenUnit) (ts : List StatementTies) (front : ℕ) (es : List Equation) (firsts : List Bytes) (s : Standing) → AreUnitTies u ts
    → es ≡ block_equations (blocks_from (given_names u) [] (from_all common_in (take front u.statements))) ++ ties_in (take front ts)
    → firsts ≡ first_items (blocks_from (given_names u) [] (from_all common_in (take front u.statements))) → TellsOf es firsts s → IsStandingAt u front s
unfolding placing_by
standing_told u ts front es firsts s ties equations items told = record {
  is = λ options. told.tells (placing_by (facts_of options u) (given_names u) (take front u.statements))
      (ap (λ xs. block_equations (blocks_from (given_names u) [] (from_all common_in (take front u.statements))) ++ xs)
      (sym (ties_taken (facts_of options u) (given_names u) u.statements ts front (ties.tied options))) ∙ sym equations)
      (sym items);
}
