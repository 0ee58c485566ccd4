-- What is known of temporaries: one step more.
use Rattle.std.specs.Prelude.{◌≡◌, ℕ, zero, suc, ◌+◌, ◌<◌, ◌≤◌, Bool, List, [], ◌∷◌, ◌++◌, Option, Some, None, length, slice_get}
use Rattle.std.specs.Option.{option_flatten}
use Rattle.std.proofs.Common.{refl, ap, sym, ◌∙◌, subst, get_or, ⊎_elim, arith}
use Rattle.std.proofs.lemmas.Bool.{cases_lt}
use Rattle.std.proofs.lemmas.List.{length_push}
use Rattle.f_tree.specs.Facts.{Facts}
use Rattle.lowered_tree.specs.l_core.Steps.{Text}
use Rattle.lowered_tree.specs.declared.steps.Step.{Step}
use Rattle.lowered_tree.specs.Shapes.{step_of}
use Rattle.lowered_text.specs.declared.text.LoweredText.{LoweredText}
use Rattle.lowered_text.specs.declared.kept.Kept.{Kept}
use Rattle.lowered_text.specs.Texts.{kinds_of}
use Rattle.main_translation.specs.Flow.{is_target}
use Rattle.name_facts.specs.declared.table.NameFacts.{NameFacts}
use Rattle.unit_translation.specs.UnitFlow.{kept_behind, kind_before}
use Rattle.unit_contents.specs.ContentsOf.{TellsNames}
use Rattle.unit_contents.specs.Tables.{text_of, AreKinds}
use Rattle.unit_contents.proofs.Lists.{pushed_before, pushed_here}
use Rattle.unit_contents.proofs.OutputLaws.{step_read}

-- what is known before each step up to a position
pub record AreKindsTo (table : NameFacts) (t : LoweredText) (i : ℕ) (kinds : List (Option Kept)) : Type 0 where
  pub size : length kinds ≡ suc i
  pub told : (c : Facts) (begins : ℕ → ℕ) → TellsNames table c → (n k : ℕ) → n < length kinds
      → kinds_of (option_flatten (slice_get kinds n)) k ≡ kind_before (text_of t c begins) n k

none_first : (u : Text) (n k : ℕ) → n < 1 → kinds_of (option_flatten (slice_get (None ∷ []) n)) k ≡ kind_before u n k
unfolding kinds_of kind_before
none_first u zero k h = refl
none_first u (suc n) k h = absurd (omega arith)

pub kinds_begin : (table : NameFacts) (t : LoweredText) (kinds : List (Option Kept)) → kinds ≡ None ∷ [] → AreKindsTo table t 0 kinds
kinds_begin table t kinds is = record {
  size = ap length is;
  told = λ c begins tells n k h.
      ap (λ ks. kinds_of (option_flatten (slice_get ks n)) k) is ∙ none_first (text_of t c begins) n k (subst (λ ks. n < length ks) is h);
}

kind_behind : (u : Text) (i k : ℕ) (reached : Bool) (s : Step) (kept : Option Kept) → reached ≡ is_target u (i + 1) → slice_get u.steps i ≡ Some (step_of s)
    → kinds_of kept k ≡ kept_behind u.facts reached k (Some (step_of s)) → kinds_of kept k ≡ kind_before u (i + 1) k
unfolding kind_before
kind_behind u i k reached s kept told at is =
    let next : i + 1 ≡ suc i = omega arith in
    is ∙ ap (λ b. kept_behind u.facts b k (Some (step_of s))) (told ∙ ap (is_target u) next) ∙ ap (kept_behind u.facts (is_target u (suc i)) k) (sym at) ∙ ap (λ n. kind_before u n k) (sym next)

pub kinds_more : (table : NameFacts) (t : LoweredText) (ss : List Step) (i : ℕ) (s : Step) (reached : Bool) (kept : Option Kept) (before after : List (Option Kept))
    → ss ≡ t.steps.items → i < length ss → s ≡ get_or ss i s → ((c : Facts) (begins : ℕ → ℕ) → reached ≡ is_target (text_of t c begins) (i + 1))
    → ((c : Facts) → TellsNames table c → (k : ℕ) → kinds_of kept k ≡ kept_behind c reached k (Some (step_of s))) → after ≡ before ++ kept ∷ [] → AreKindsTo table t i before
    → AreKindsTo table t (i + 1) after
kinds_more table t ss i s reached kept before after same within is told one put known =
    let longer : length after ≡ length before + 1 = ap length put ∙ length_push before kept in
    let at = step_read t.steps.items i s (subst (λ xs. i < length xs) same within) (subst (λ xs. s ≡ get_or xs i s) same is) in
    record {
      size = omega (arith, longer, known.size);
      told = λ c begins tells n k h.
          ⊎_elim
          (λ (low : n < length before).
          ap (λ ks. kinds_of (option_flatten (slice_get ks n)) k) put ∙ ap (λ o. kinds_of (option_flatten o) k) (pushed_before before kept n low) ∙ known.told c begins tells n k low)
          (λ (high : length before ≤ n).
          let here : n ≡ i + 1 = omega (arith, longer, known.size) in
          ap (λ ks. kinds_of (option_flatten (slice_get ks n)) k) put ∙ ap (λ o. kinds_of (option_flatten o) k) (pushed_here before kept n (omega (arith, longer)))
          ∙ kind_behind (text_of t c begins) i k reached s kept (told c begins) at (one c tells k) ∙ ap (λ m. kind_before (text_of t c begins) m k) (sym here))
          (cases_lt n (length before));
    }

pub kinds_end : (table : NameFacts) (t : LoweredText) (i : ℕ) (kinds : List (Option Kept)) → i ≡ length t.steps.items → AreKindsTo table t i kinds → AreKinds table t kinds
kinds_end table t i kinds end known = record { size = known.size ∙ ap suc end; told = known.told }
