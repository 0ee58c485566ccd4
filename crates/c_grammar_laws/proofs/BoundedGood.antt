-- Items of which there are so many at most are read as they stand, where each item is.
use Rattle.std.proofs.Common.{◌≡◌, refl, sym, ap, ◌∙◌, subst, ℕ, zero, suc, ◌+◌, ◌≤◌, Bool, true, false, List, [], ◌∷◌, ◌++◌, append_assoc, length, codes, bytes_eq, if◌then◌else◌, arith}
use Rattle.c_readers.specs.c_tree.Tokens.{Sign}
use Rattle.c_readers.specs.c_tree.CWords.{Separated, last_item, one_item}
use Rattle.c_readers.specs.Readers.{Tokens, Reader}
use Rattle.c_readers.specs.ListReader.{Separator, Closes, Goes, Neither, by_separator}
use Rattle.c_readers.specs.ValueReader.{bounded_separator, behind_bounded, bounded}
use Rattle.c_readers.specs.grammar.Exactness.{Filled, Judged, Good}
use Rattle.c_readers.proofs.grammar.Judging.{Onto, in_turn, refuses, refuses-end, takes-one, behind-token, judged-fewer}
use Rattle.c_grammar_laws.proofs.TokenGood.{equal-texts}
use Rattle.c_grammar_laws.proofs.ListGood.{IsSeparator, separator-is}

-- what a sign behind an item is, where so many items may still follow
abbrev IsBoundedSeparator : ℕ → List ℕ → List ℕ → Separator → Type 0
IsBoundedSeparator most closing word Goes = (word ≡ codes ",") × (1 ≤ most)
IsBoundedSeparator most closing word other = IsSeparator closing word other

last-by : (closing word : List ℕ) (closes : Bool) → bytes_eq word closing ≡ closes → IsBoundedSeparator 0 closing word (if closes then Closes else Neither)
last-by closing word true h = equal-texts word closing h
last-by closing word false h = tt

more-by : (most : ℕ) (closing word : List ℕ) (s : Separator) → IsSeparator closing word s → IsBoundedSeparator (suc most) closing word s
more-by most closing word Closes is = is
more-by most closing word Goes is = (is, omega arith)
more-by most closing word Neither is = tt

bounded-is : (most : ℕ) (closing word : List ℕ) → IsBoundedSeparator most closing word (bounded_separator most closing word)
bounded-is zero closing word = last-by closing word (bytes_eq word closing) refl
bounded-is (suc most) closing word = more-by most closing word (bounded_separator (suc most) closing word) (separator-is closing word)

module _ {T : Type 0} (Item : T → Tokens → Tokens → Type 0) (closing : List ℕ) where
  -- Items behind others, of which there are so many at most.
  pub record BoundedBehind (most : ℕ) (before all : List T) (p q : Tokens) : Type 0 where
    pub later : List T
    pub whole : all ≡ before ++ later
    pub fits : length later ≤ most
    pub spelled : Separated Item closing later p q

  -- What stands behind an item, where others stand before it.
  abbrev After : ℕ → List T → T → List T → Tokens → Tokens → Type 0
  After most before one all q r = Onto Item (BoundedBehind (suc most) before) one all q r

  after-able : (most : ℕ) (before : List T) (one : T) → Filled (After most before one) []
  after-able most before one = record {
    later = Sign closing ∷ [];
    tree = before ++ (one ∷ []);
    spelled = λ behind. λ front item. record { later = one ∷ []; whole = refl; fits = omega arith; spelled = last_item item refl };
  }

  module _ (nests most : ℕ) (before : List T) (one : T) (again above : Reader (List T))
      (good : 1 ≤ most → Good nests (BoundedBehind most (before ++ (one ∷ []))) again above) where
    by-separator : (word : List ℕ) (behind : Tokens) (s : Separator) → bounded_separator most closing word ≡ s → IsBoundedSeparator most closing word s
        → Judged nests (After most before one) (behind_bounded above most closing (before ++ (one ∷ []))) (Sign word ∷ behind) (by_separator again (before ++ (one ∷ [])) word behind s)
    unfolding behind_bounded
    by-separator word behind Closes h is =
        takes-one nests (before ++ (one ∷ [])) (Sign word) behind
        (λ p. λ front item. record { later = one ∷ []; whole = refl; fits = omega arith; spelled = last_item item (ap (λ z. Sign z ∷ p) is) })
        (λ p. ap (λ z. by_separator above (before ++ (one ∷ [])) word p z) h)
    by-separator word behind Goes h is =
        judged-fewer (After most before one) (behind_bounded above most closing (before ++ (one ∷ []))) nests (suc nests) (Sign word ∷ behind) (omega arith) (again behind)
        (behind-token (BoundedBehind most (before ++ (one ∷ []))) (After most before one) above (behind_bounded above most closing (before ++ (one ∷ []))) nests (Sign word) behind
        (λ all p q more. λ front item. record {
          later = one ∷ more.later;
          whole = more.whole ∙ append_assoc before (one ∷ []) more.later;
          fits = let k = more.fits in omega (arith, k);
          spelled = one_item item (ap (λ z. Sign z ∷ p) is.0) more.spelled;
        })
        (λ p. ap (λ z. by_separator above (before ++ (one ∷ [])) word p z) h) (again behind) ((good is.1).judged behind))
    by-separator word behind Neither h is =
        refuses nests (Sign word) behind (after-able most before one) (λ p. ap (λ z. by_separator above (before ++ (one ∷ [])) word p z) h)

    after-judged : (tokens : Tokens) → Judged nests (After most before one) (behind_bounded above most closing (before ++ (one ∷ []))) tokens
        (behind_bounded again most closing (before ++ (one ∷ [])) tokens)
    unfolding behind_bounded
    after-judged [] = refuses-end nests (after-able most before one) refl
    after-judged (Sign word ∷ behind) = by-separator word behind (bounded_separator most closing word) refl (bounded-is most closing word)
    after-judged (token ∷ behind) = refuses nests token behind (after-able most before one) (λ p. refl)

    good-after : Good nests (After most before one) (behind_bounded again most closing (before ++ (one ∷ []))) (behind_bounded above most closing (before ++ (one ∷ [])))
    good-after = record { able = after-able most before one; judged = after-judged }

  -- Items, one at least and so many at most.
  pub good-bounded : {nests : ℕ} (most : ℕ) (before : List T) (read more : Reader T) → Good nests Item read more → 1 ≤ most
      → Good nests (BoundedBehind most before) (bounded read closing most before) (bounded more closing most before)
  unfolding bounded
  good-bounded {nests = nests} zero before read more item some = absurd (omega arith)
  good-bounded {nests = nests} (suc most) before read more item some =
      in_turn {First = Item} item
      (λ one. good-after nests most before one (bounded read closing most (before ++ (one ∷ []))) (bounded more closing most (before ++ (one ∷ [])))
      (λ rest. good-bounded {nests = nests} most (before ++ (one ∷ [])) read more item rest))
