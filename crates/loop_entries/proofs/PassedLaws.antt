-- The labels that are told of an expression are those that its value may be.
use Rattle.std.proofs.Common.{◌≡◌, ℕ, Bool, true, false, not, ◌||◌, ◌&&◌, List, [], ◌∷◌, ◌++◌, map, refl, sym, ap, ◌∙◌}
use Rattle.std.specs.List.{list_all}
use Rattle.std.proofs.lemmas.List.{map-append}
use Rattle.std.proofs.lemmas.List.Folds.{list_all-append}
use Rattle.f_tree.specs.declared.expressions.BinaryOp.{BinaryOp}
use Rattle.f_tree.specs.declared.expressions.BinaryOp.TheVariants as op
use Rattle.f_tree.specs.declared.expressions.Expr.{Expr, Int, Logical, Text, Name, Apply', Part', Minus', Plus', Not', Paren', Binary', AltReturn, Bind', Bound as BoundTo, Row_of-Expr, end_of-Expr, more_of-Expr}
use Rattle.f_tree.specs.Folds.{fold_expr, fold_exprs}
use Rattle.f_tree.specs.Values.{Bytes, IsInt, IsLog, IsText, IsLabel}
use Rattle.f_tree.specs.Terms.{Term, Val, Terms, NoMore, More, terms, Bind}
use Rattle.f_tree.specs.Reading.{Read, valued_only, placed, joined_read, binary_read, layer_read, read}
use Rattle.f_tree.specs.Uses.{Use, used, is_among, joined_uses, layer_uses, uses_of}
use Rattle.f_tree.specs.Lines.{Naming, place_of, arguments_of}
use Rattle.lowering_laws.specs.Layer.{may_be_other, passes_other}
use Rattle.loop_entries.specs.PassedLabels.{MayBe, AnyMayBe, ReadMayBe, ReadsMayBe, Told, TellsName, joined, layer_labels, labels_of, use_names}
use Rattle.loop_entries.proofs.UseLemmas.{among_front, among_back, among_first}

-- TERMS
or_nots : (a b : Bool) → (not a || not b) ≡ not (a && b)
or_nots true b = refl
or_nots false b = refl

pub none_passed : AnyMayBe NoMore []
unfolding passes_other
none_passed = record { tells = λ known. refl }

more_passed : (t : Term) (ts : Terms) (labels more : List ℕ) → MayBe t labels → AnyMayBe ts more → AnyMayBe (More t ts) (labels ++ more)
unfolding passes_other
more_passed t ts labels more one rest = record {
  tells = λ known.
      ap (λ b. b || passes_other known ts) (one.tells known) ∙ ap (λ b. not (list_all known labels) || b) (rest.tells known)
      ∙ or_nots (list_all known labels) (list_all known more) ∙ ap not (sym (list_all-append known labels more));
}

pub bound_passed : (ts : Terms) (t : Term) (more labels : List ℕ) → AnyMayBe ts more → MayBe t labels → MayBe (Bind ts t) (more ++ labels)
unfolding may_be_other
bound_passed ts t more labels rest one = record {
  tells = λ known.
      ap (λ b. b || may_be_other known t) (rest.tells known) ∙ ap (λ b. not (list_all known more) || b) (one.tells known)
      ∙ or_nots (list_all known more) (list_all known labels) ∙ ap not (sym (list_all-append known more labels));
}

pub values_passed : (rs : List Read) (more : List (List ℕ)) → ReadsMayBe rs more → AnyMayBe (terms (map (λ r. r.value) rs)) (joined more)
unfolding ReadsMayBe joined terms
values_passed [] [] are = none_passed
values_passed (r ∷ rs) (labels ∷ more) are = more_passed r.value (terms (map (λ r. r.value) rs)) labels (joined more) are.0.value (values_passed rs more are.1)
values_passed [] (labels ∷ more) are = absurd are
values_passed (r ∷ rs) [] are = absurd are

pub valued : (t : Term) (labels : List ℕ) → MayBe t labels → ReadMayBe (valued_only t) labels
unfolding valued_only
valued t labels one = record { value = one; actual = one }

-- OPERATORS give no label
binary_passed : (o : BinaryOp) (a b : Read) → ReadMayBe (binary_read o a b) []
unfolding binary_read joined_read valued_only may_be_other
binary_passed op.Concatenate a b = record { value = record { tells = λ known. refl }; actual = record { tells = λ known. refl } }
binary_passed _ a b = record { value = record { tells = λ known. refl }; actual = record { tells = λ known. refl } }

one_label : (b : Bool) → not b ≡ not (b && true)
one_label true = refl
one_label false = refl

no_reads : ReadsMayBe [] []
unfolding ReadsMayBe
no_reads = tt

more_reads : (r : Read) (rs : List Read) (labels : List ℕ) (more : List (List ℕ)) → ReadMayBe r labels → ReadsMayBe rs more → ReadsMayBe (r ∷ rs) (labels ∷ more)
unfolding ReadsMayBe
more_reads r rs labels more one rest = (one, rest)

among_row : (x : Bytes) (us : List Use) (more : List (List Use)) → is_among x (use_names us ++ use_names (joined_uses more)) ≡ true → is_among x (use_names (joined_uses (us ∷ more))) ≡ true
unfolding joined_uses
among_row x us more h = ap (is_among x) (map-append (λ (v : Use). v.name) us (joined_uses more)) ∙ h

-- THE WHOLE EXPRESSION
module _ (names : Naming) (told : Told) where
  mutual
    unfolding fold_expr fold_exprs layer_read layer_labels layer_uses valued_only placed may_be_other used

    tree_passed : (e : Expr) → ((x : Bytes) → is_among x (use_names (fold_expr layer_uses e)) ≡ true → TellsName (names x) told x) → ReadMayBe (fold_expr (layer_read names) e) (fold_expr (layer_labels told) e)
    tree_passed (Int z) tells = valued (Val (IsInt z)) [] (record { tells = λ known. refl })
    tree_passed (Logical b) tells = valued (Val (IsLog b)) [] (record { tells = λ known. refl })
    tree_passed (Text cs) tells = valued (Val (IsText cs)) [] (record { tells = λ known. refl })
    tree_passed (Name x) tells = (tells x (among_first x [])).alone
    tree_passed (Apply' x s row) tells =
        (tells x (among_first x (use_names (joined_uses (fold_exprs layer_uses row))))).applied (fold_exprs (layer_read names) row) (fold_exprs (layer_labels told) row)
        (row_passed row (λ y h. tells y (among_back y (x ∷ []) (use_names (joined_uses (fold_exprs layer_uses row))) h)))
    tree_passed (Part' s (more_of-Expr e r) from to) tells = record { value = record { tells = λ known. refl }; actual = record { tells = λ known. refl } }
    tree_passed (Minus' s (more_of-Expr e r)) tells = record { value = record { tells = λ known. refl }; actual = record { tells = λ known. refl } }
    tree_passed (Plus' s (more_of-Expr e r)) tells =
        valued (fold_expr (layer_read names) e).value (fold_expr (layer_labels told) e) (tree_passed e tells).value
    tree_passed (Not' s (more_of-Expr e r)) tells = record { value = record { tells = λ known. refl }; actual = record { tells = λ known. refl } }
    tree_passed (Paren' s (more_of-Expr e r)) tells =
        let inner = tree_passed e tells in record { value = inner.value; actual = inner.value }
    tree_passed (Binary' o s (more_of-Expr a r) t (more_of-Expr b q)) tells = binary_passed o (fold_expr (layer_read names) a) (fold_expr (layer_read names) b)
    tree_passed (AltReturn l) tells = valued (Val (IsLabel l)) (l ∷ []) (record { tells = λ known. one_label (known l) })
    tree_passed (Bind' s row t (more_of-Expr e q)) tells =
        valued (Bind (terms (map (λ r. r.value) (fold_exprs (layer_read names) row))) (fold_expr (layer_read names) e).value)
        (joined (fold_exprs (layer_labels told) row) ++ fold_expr (layer_labels told) e)
        (bound_passed (terms (map (λ r. r.value) (fold_exprs (layer_read names) row))) (fold_expr (layer_read names) e).value (joined (fold_exprs (layer_labels told) row)) (fold_expr (layer_labels told) e)
        (values_passed (fold_exprs (layer_read names) row) (fold_exprs (layer_labels told) row)
        (row_passed row (λ y h. tells y (ap (is_among y) (map-append (λ (v : Use). v.name) (joined_uses (fold_exprs layer_uses row)) (fold_expr layer_uses e))
        ∙ among_front y (use_names (joined_uses (fold_exprs layer_uses row))) (use_names (fold_expr layer_uses e)) h))))
        (tree_passed e (λ y h. tells y (ap (is_among y) (map-append (λ (v : Use). v.name) (joined_uses (fold_exprs layer_uses row)) (fold_expr layer_uses e))
        ∙ among_back y (use_names (joined_uses (fold_exprs layer_uses row))) (use_names (fold_expr layer_uses e)) h))).value)
    tree_passed (BoundTo k) tells = record { value = record { tells = λ known. refl }; actual = record { tells = λ known. refl } }

    row_passed : {m : _} (row : Row_of-Expr m) → ((x : Bytes) → is_among x (use_names (joined_uses (fold_exprs layer_uses row))) ≡ true → TellsName (names x) told x)
        → ReadsMayBe (fold_exprs (layer_read names) row) (fold_exprs (layer_labels told) row)
    row_passed end_of-Expr tells = no_reads
    row_passed (more_of-Expr e row) tells =
        more_reads (fold_expr (layer_read names) e) (fold_exprs (layer_read names) row) (fold_expr (layer_labels told) e) (fold_exprs (layer_labels told) row)
        (tree_passed e (λ y h. tells y (among_row y (fold_expr layer_uses e) (fold_exprs layer_uses row)
        (among_front y (use_names (fold_expr layer_uses e)) (use_names (joined_uses (fold_exprs layer_uses row))) h))))
        (row_passed row (λ y h. tells y (among_row y (fold_expr layer_uses e) (fold_exprs layer_uses row)
        (among_back y (use_names (fold_expr layer_uses e)) (use_names (joined_uses (fold_exprs layer_uses row))) h))))

  pub expression_passed : (e : Expr) → ((x : Bytes) → is_among x (use_names (uses_of e)) ≡ true → TellsName (names x) told x) → ReadMayBe (read names e) (labels_of told e)
  unfolding uses_of read labels_of
  expression_passed e tells = tree_passed e tells

  pub arguments_passed : (es : List Expr) → ((x : Bytes) → TellsName (names x) told x) → AnyMayBe (terms (arguments_of names es)) (joined (map (labels_of told) es))
  unfolding arguments_of place_of terms joined
  arguments_passed [] tells = none_passed
  arguments_passed (e ∷ es) tells =
      more_passed (read names e).actual (terms (arguments_of names es)) (labels_of told e) (joined (map (labels_of told) es)) (expression_passed e (λ x h. tells x)).actual (arguments_passed es tells)
