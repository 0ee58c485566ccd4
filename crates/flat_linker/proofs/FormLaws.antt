-- Forms of statements as sequences of the parts that code puts.
use Rattle.std.proofs.Common.{◌≡◌, refl, sym, ap, ◌∙◌, subst, ℕ, ◌+◌, List, [], ◌∷◌, ◌++◌, length, Result, arith}
use Rattle.std.proofs.lemmas.List.{append-nil}
use Rattle.c_tree.specs.declared.expression.CExpr.{CExpr}
use Rattle.c_tree.specs.declared.statement.CCase.{CCase}
use Rattle.c_tree.specs.declared.statement.CNext.{CNext}
use Rattle.c_tree.specs.Flat as flat
use Rattle.c_tree.specs.Flat.{CaseAt}
use Rattle.c_tree.specs.Drafts.{Scope, bare, drafted, joined}
use Rattle.c_tree.specs.LinkedExpressions.{linked}
use Rattle.c_tree.specs.FlatForm.{Body, Labels, sequence, one, jump, if_only, if_else, switch, cases_from, case_jumps, for_loop, do_while, next_item}
use Rattle.expression_linker.specs.declared.failure.LinkFail.{LinkFail}
use Rattle.flat_linker.specs.declared.written.Written.{Written}
use Rattle.flat_linker.specs.Parts.{guarded, jumps, skipped, tested_at, turns}
use Rattle.flat_linker.specs.PutItems.{PutsBody}
use Rattle.flat_linker.proofs.PutLaws.{SameAt}

abbrev pub branched : CExpr → ℕ → ℕ → Body
branched test on off = one (drafted (λ term. flat.Branch term on off) (linked test))

abbrev pub gone : ℕ → Body
gone position = one (bare (flat.Jump position))

-- a test whose positions are these
pub tested-as : (scope : Scope) (labels : Labels) (r : Result (Unit {0}) LinkFail) (test : CExpr) (on off position size gap : ℕ) (x y : Written) → on ≡ position + 1 → off ≡ position + 1 + size + gap →
    PutsBody r (branched test on off) scope labels x y → PutsBody r (tested_at test position size gap) scope labels x y
tested-as scope labels r test on off position size gap x y h1 h2 h =
    subst (λ z. PutsBody r (branched test z (position + 1 + size + gap)) scope labels x y) h1 (subst (λ z. PutsBody r (branched test on z) scope labels x y) h2 h)

module _ (scope : Scope) (labels : Labels) where
  pub guarded-same : (test : CExpr) (arm : Body) (gap : ℕ) (x : Written) → SameAt scope labels (sequence (tested_at test (length x.items) arm.size gap) arm) (guarded test arm gap) x
  guarded-same test arm gap x = record { drawn = refl; strings = refl; size = refl }

  pub skipped-same : (arm : Body) (x : Written) → SameAt scope labels (sequence (gone (length x.items + 1 + arm.size)) arm) (skipped arm) x
  skipped-same arm x = record {
    drawn =
        let e : x.next ≡ x.next + 0 = omega arith in
        λ i. flat.Jump (length x.items + 1 + arm.size) ∷ arm.items.drawn scope (e i) labels (length x.items + 1);
    strings = refl;
    size = refl;
  }

  pub only-same : (test : CExpr) (first : Body) (x : Written) → SameAt scope labels (guarded test first 0) (if_only test first) x
  only-same test first x =
      let e : length x.items + 1 + first.size ≡ length x.items + 1 + first.size + 0 = omega arith in
      record {
        drawn = λ i.
            flat.Branch ((linked test).drawn scope x.next) (length x.items + 1) (e i)
            ∷ first.items.drawn scope (x.next + length (linked test).strings) labels (length x.items + 1);
        strings = refl;
        size = refl;
      }

  pub both-same : (test : CExpr) (first second : Body) (x : Written) → SameAt scope labels (sequence (guarded test first 1) (skipped second)) (if_else test first second) x
  both-same test first second x =
      let n : ℕ = x.next in
      let p : ℕ = length x.items in
      let t : List (List ℕ) = (linked test).strings in
      let f : List (List ℕ) = first.items.strings in
      let e2 : p + 2 + first.size ≡ p + 1 + first.size + 1 = omega arith in
      let e3 : p + 2 + first.size + second.size ≡ (p + (1 + first.size)) + 1 + second.size = omega arith in
      let e5 : p + 2 + first.size ≡ (p + (1 + first.size)) + 1 = omega arith in
      record {
        drawn = λ i.
            flat.Branch ((linked test).drawn scope n) (p + 1) (e2 i)
            ∷ (first.items.drawn scope (n + length t) labels (p + 1) ++ flat.Jump (e3 i) ∷ second.items.drawn scope (n + length (t ++ f)) labels (e5 i));
        strings = refl;
        size = omega arith;
      }

  pub turns-same : (test : CExpr) (turn : Body) (next : CNext) (start : ℕ) (x : Written) → start ≡ length x.items →
      SameAt scope labels (sequence (guarded test turn 2) (sequence (one (next_item next)) (gone start))) (turns test turn next) x
  turns-same test turn next start x from =
      let n : ℕ = x.next in
      let p : ℕ = length x.items in
      let t : List (List ℕ) = (linked test).strings in
      let f : List (List ℕ) = turn.items.strings in
      let s : List (List ℕ) = (next_item next).strings in
      let e2 : p + 3 + turn.size ≡ p + 1 + turn.size + 2 = omega arith in
      let e3 : p ≡ start = sym from in
      record {
        drawn = λ i.
            flat.Branch ((linked test).drawn scope n) (p + 1) (e2 i)
            ∷ (turn.items.drawn scope (n + length t) labels (p + 1) ++ (next_item next).drawn scope (n + length (t ++ f)) ∷ flat.Jump (e3 i) ∷ []);
        strings = ap (λ z. length ((t ++ f) ++ z)) (sym (append-nil s));
        size = omega arith;
      }

  pub for-same : (variable first test : CExpr) (next : CNext) (turn : Body) (x : Written) →
      SameAt scope labels (sequence (one (joined flat.Assign (linked variable) (linked first))) (turns test turn next)) (for_loop variable first test next turn) x
  for-same variable first test next turn x = record { drawn = refl; strings = refl; size = omega arith }

  pub do-same : (turn : Body) (test : CExpr) (start off : ℕ) (x y : Written) → start ≡ length x.items → length y.items ≡ length x.items + turn.size → off ≡ length y.items + 1 →
      SameAt scope labels (sequence turn (branched test start off)) (do_while turn test) x
  do-same turn test start off x y h1 h2 h3 =
      let n = x.next in
      let p = length x.items in
      let e1 : p ≡ start = sym h1 in
      let e2 : p + turn.size + 1 ≡ off = omega (arith, h2, h3) in
      record {
        drawn = λ i.
            turn.items.drawn scope n labels p ++ flat.Branch ((linked test).drawn scope (n + length turn.items.strings)) (e1 i) (e2 i) ∷ [];
        strings = refl;
        size = refl;
      }

  pub switch-same : (value : CExpr) (cases : List CCase) (places : List CaseAt) (first otherwise : ℕ) (x : Written) → first ≡ length x.items + 1 → otherwise ≡ first + length cases → places ≡ cases_from first cases →
      SameAt scope labels (sequence (one (drafted (λ term. flat.Select term places otherwise) (linked value))) (jumps cases)) (switch value cases) x
  switch-same value cases places first otherwise x h1 h2 h3 =
      let p = length x.items in
      let e1 : cases_from (p + 1) cases ≡ places = ap (λ k. cases_from k cases) (sym h1) ∙ sym h3 in
      let e2 : p + 1 + length cases ≡ otherwise = omega (arith, h1, h2) in
      record {
        drawn = λ i. flat.Select ((linked value).drawn scope x.next) (e1 i) (e2 i) ∷ case_jumps cases labels;
        strings = ap length (sym (append-nil (linked value).strings));
        size = refl;
      }

  pub jumps-same : (label : List ℕ) (case : CCase) (later : List CCase) (x : Written) → label ≡ case.label → SameAt scope labels (sequence (jump label) (jumps later)) (jumps (case ∷ later)) x
  jumps-same label case later x is = record {
    drawn = ap (λ z. (jump z).items.drawn scope x.next labels (length x.items) ++ case_jumps later labels) (sym is);
    strings = refl;
    size = omega arith;
  }
