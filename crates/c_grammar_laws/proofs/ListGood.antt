-- Items with a comma between each two are read as they stand, where each item is.
use Rattle.std.proofs.Common.{◌≡◌, refl, sym, ap, ◌∙◌, subst, ℕ, zero, suc, ◌+◌, ◌≤◌, le_refl, Bool, true, false, List, [], ◌∷◌, ◌++◌, append_assoc, codes, bytes_eq, if◌then◌else◌, arith}
use Rattle.c_readers.specs.c_tree.Tokens.{Sign}
use Rattle.c_readers.specs.c_tree.CWords.{Separated, last_item, one_item}
use Rattle.c_readers.specs.Readers.{Tokens, Reader}
use Rattle.c_readers.specs.ListReader.{Separator, Closes, Goes, Neither, separator, by_separator, behind_item, separated}
use Rattle.c_readers.specs.grammar.Exactness.{Filled, Judged, Good}
use Rattle.c_readers.proofs.grammar.Judging.{Onto, in_turn, good-fewer, refuses, refuses-end, takes-one, behind-token, judged-fewer}
use Rattle.c_grammar_laws.proofs.TokenGood.{equal-texts}

-- what a sign behind an item is
abbrev pub IsSeparator : List ℕ → List ℕ → Separator → Type 0
IsSeparator closing word Closes = word ≡ closing
IsSeparator closing word Goes = word ≡ codes ","
IsSeparator closing word Neither = Unit {0}

separator-by : (closing word : List ℕ) (closes goes : Bool) → bytes_eq word closing ≡ closes → bytes_eq word (codes ",") ≡ goes
    → IsSeparator closing word (if closes then Closes else (if goes then Goes else Neither))
separator-by closing word true goes h k = equal-texts word closing h
separator-by closing word false true h k = equal-texts word (codes ",") k
separator-by closing word false false h k = tt

pub separator-is : (closing word : List ℕ) → IsSeparator closing word (separator closing word)
separator-is closing word = separator-by closing word (bytes_eq word closing) (bytes_eq word (codes ",")) refl refl

module _ {T : Type 0} (Item : T → Tokens → Tokens → Type 0) (closing : List ℕ) where
  -- Items behind others.
  pub record ItemsBehind (before all : List T) (p q : Tokens) : Type 0 where
    pub later : List T
    pub whole : all ≡ before ++ later
    pub spelled : Separated Item closing later p q

  -- What stands behind an item, where others stand before it.
  abbrev pub AfterItem : List T → T → List T → Tokens → Tokens → Type 0
  AfterItem before one all q r = Onto Item (ItemsBehind before) one all q r

  after-able : (before : List T) (one : T) → Filled (AfterItem before one) []
  after-able before one = record {
    later = Sign closing ∷ [];
    tree = before ++ (one ∷ []);
    spelled = λ behind. λ front item. record { later = one ∷ []; whole = refl; spelled = last_item item refl };
  }

  module _ (nests fewer : ℕ) (before : List T) (one : T) (again above : Reader (List T)) (least : nests ≤ suc fewer)
      (good : Good fewer (ItemsBehind (before ++ (one ∷ []))) again above) where
    by-separator : (word : List ℕ) (behind : Tokens) (s : Separator) → separator closing word ≡ s → IsSeparator closing word s
        → Judged nests (AfterItem before one) (behind_item above closing (before ++ (one ∷ []))) (Sign word ∷ behind) (by_separator again (before ++ (one ∷ [])) word behind s)
    unfolding behind_item
    by-separator word behind Closes h is =
        takes-one nests (before ++ (one ∷ [])) (Sign word) behind
        (λ p. λ front item. record { later = one ∷ []; whole = refl; spelled = last_item item (ap (λ z. Sign z ∷ p) is) })
        (λ p. ap (λ z. by_separator above (before ++ (one ∷ [])) word p z) h)
    by-separator word behind Goes h is =
        judged-fewer (AfterItem before one) (behind_item above closing (before ++ (one ∷ []))) nests (suc fewer) (Sign word ∷ behind) least (again behind)
        (behind-token (ItemsBehind (before ++ (one ∷ []))) (AfterItem before one) above (behind_item above closing (before ++ (one ∷ []))) fewer (Sign word) behind
        (λ all p q more. λ front item. record {
          later = one ∷ more.later;
          whole = more.whole ∙ append_assoc before (one ∷ []) more.later;
          spelled = one_item item (ap (λ z. Sign z ∷ p) is) more.spelled;
        })
        (λ p. ap (λ z. by_separator above (before ++ (one ∷ [])) word p z) h) (again behind) (good.judged behind))
    by-separator word behind Neither h is =
        refuses nests (Sign word) behind (after-able before one) (λ p. ap (λ z. by_separator above (before ++ (one ∷ [])) word p z) h)

    after-judged : (tokens : Tokens) → Judged nests (AfterItem before one) (behind_item above closing (before ++ (one ∷ []))) tokens
        (behind_item again closing (before ++ (one ∷ [])) tokens)
    unfolding behind_item
    after-judged [] = refuses-end nests (after-able before one) refl
    after-judged (Sign word ∷ behind) = by-separator word behind (separator closing word) refl (separator-is closing word)
    after-judged (token ∷ behind) = refuses nests token behind (after-able before one) (λ p. refl)

    good-after : Good nests (AfterItem before one) (behind_item again closing (before ++ (one ∷ []))) (behind_item above closing (before ++ (one ∷ [])))
    good-after = record { able = after-able before one; judged = after-judged }

  items-able : (before : List T) → Filled Item [] → Filled (ItemsBehind before) []
  items-able before f = record {
    later = f.later ++ (Sign closing ∷ []);
    tree = before ++ (f.tree ∷ []);
    spelled = λ behind. record {
      later = f.tree ∷ [];
      whole = refl;
      spelled = last_item (subst (λ z. Item f.tree z (Sign closing ∷ behind)) (sym (append_assoc f.later (Sign closing ∷ []) behind)) (f.spelled (Sign closing ∷ behind))) refl;
    };
  }

  -- Items, of so many nests and as many items at least.
  pub good-separated : (nests count most : ℕ) (before : List T) (read more : Reader T) → nests ≤ count → count ≤ most → Good nests Item read more
      → Good nests (ItemsBehind before) (separated read closing count before) (separated more closing most before)
  unfolding separated
  good-separated nests zero most before read more low high item = record { able = items-able before item.able; judged = λ tokens. omega (arith, low) }
  good-separated nests (suc count) zero before read more low high item = absurd (let h : suc count ≤ 0 = high in omega (arith, h))
  good-separated zero (suc count) (suc most) before read more low high item =
      in_turn {First = Item} item
      (λ one. good-after zero zero before one (separated read closing count (before ++ (one ∷ []))) (separated more closing most (before ++ (one ∷ []))) (omega arith)
      (good-separated zero count most (before ++ (one ∷ [])) read more (omega arith) (omega (arith, high)) item))
  good-separated (suc nests) (suc count) (suc most) before read more low high item =
      in_turn {First = Item} item
      (λ one. good-after (suc nests) nests before one (separated read closing count (before ++ (one ∷ []))) (separated more closing most (before ++ (one ∷ []))) (le_refl (suc nests))
      (good-separated nests count most (before ++ (one ∷ [])) read more (omega (arith, low)) (omega (arith, high)) (good-fewer nests (suc nests) (omega arith) item)))
