-- Laws of tokens: a text has one list of tokens, and a run is the longest front that passes.
use Rattle.std.specs.Prelude.{◌≡◌, ℕ, ◌+◌, Bool, true, false, List, [], ◌∷◌, ◌++◌}
use Rattle.std.proofs.Common.{refl, ap, ap₂, sym, ◌∙◌, subst, subst₂, true≢false}
use Rattle.c_tree.specs.Tokens.{Token, Bad, Cut, longer, run, begins_with, Head, AtEnd, Gap, Lexeme, line_feeds, still_alone, Placed, AreTokens, no_more, behind_a_gap, one_more, AreTokensOf}

abbrev is_end : Head → Bool
is_end AtEnd = true
is_end other = false

abbrev is_gap : Head → Bool
is_gap (Gap gap rest) = true
is_gap other = false

abbrev gap_of : Head → List ℕ
gap_of (Gap gap rest) = gap
gap_of other = []

abbrev token_of : Head → Token
token_of (Lexeme token rest) = token
token_of other = Bad

abbrev pub rest_of : Head → List ℕ
rest_of AtEnd = []
rest_of (Gap gap rest) = rest
rest_of (Lexeme token rest) = rest

-- a text has one list of tokens
pub same_tokens : {line : ℕ} {alone : Bool} {text : List ℕ} {xs ys : List Placed} → AreTokens line alone text xs → AreTokens line alone text ys → xs ≡ ys
same_tokens (no_more line alone text h) (no_more line1 alone1 text1 k) = refl
same_tokens (no_more line alone text h) (behind_a_gap line1 alone1 text1 gap rest tokens k more) = absurd (true≢false (ap is_end (sym h ∙ k)))
same_tokens (no_more line alone text h) (one_more line1 alone1 text1 token rest tokens k more) = absurd (true≢false (ap is_end (sym h ∙ k)))
same_tokens (behind_a_gap line alone text gap rest tokens h more) (no_more line1 alone1 text1 k) = absurd (true≢false (ap is_end (sym k ∙ h)))
same_tokens (behind_a_gap line alone text gap rest tokens h more) (behind_a_gap line1 alone1 text1 gap2 rest2 tokens2 k more2) =
    same_tokens
    more
    (subst₂ (λ g r. AreTokens (line + line_feeds g) (still_alone alone g) r tokens2) (ap gap_of (sym k ∙ h)) (ap rest_of (sym k ∙ h)) more2)
same_tokens (behind_a_gap line alone text gap rest tokens h more) (one_more line1 alone1 text1 token rest2 tokens2 k more2) =
    absurd (true≢false (ap is_gap (sym h ∙ k)))
same_tokens (one_more line alone text token rest tokens h more) (no_more line1 alone1 text1 k) = absurd (true≢false (ap is_end (sym k ∙ h)))
same_tokens (one_more line alone text token rest tokens h more) (behind_a_gap line1 alone1 text1 gap rest2 tokens2 k more2) =
    absurd (true≢false (ap is_gap (sym k ∙ h)))
same_tokens (one_more line alone text token rest tokens h more) (one_more line1 alone1 text1 token2 rest2 tokens2 k more2) =
    ap₂
    (λ t ts. record { token = t; line = line } ∷ ts)
    (ap token_of (sym h ∙ k))
    (same_tokens more (subst (λ r. AreTokens line false r tokens2) (ap rest_of (sym k ∙ h)) more2))

pub one_token_list : (text : List ℕ) (xs ys : List Placed) → AreTokensOf text xs → AreTokensOf text ys → xs ≡ ys
one_token_list text xs ys first second = same_tokens first second

abbrev pub run_by : Bool → ℕ → List ℕ → Cut → Cut
run_by passes first later inner = elim passes [ true ↦ longer first inner | false ↦ record { front = []; rest = first ∷ later } ]

-- a run and what follows it are the whole text
pub run_whole : (test : ℕ → Bool) (text : List ℕ) → (run test text).front ++ (run test text).rest ≡ text
run_whole test [] = refl
run_whole test (first ∷ later) = by (test first) (run_whole test later)
  where
    by : (passes : Bool) → (run test later).front ++ (run test later).rest ≡ later
        → (run_by passes first later (run test later)).front ++ (run_by passes first later (run test later)).rest ≡ first ∷ later
    by true h = ap (λ z. first ∷ z) h
    by false h = refl

-- what follows a run does not begin with a byte that passes
pub run_longest : (test : ℕ → Bool) (text : List ℕ) → begins_with test (run test text).rest ≡ false
run_longest test [] = refl
run_longest test (first ∷ later) = by (test first) refl (run_longest test later)
  where
    by : (passes : Bool) → test first ≡ passes → begins_with test (run test later).rest ≡ false
        → begins_with test (run_by passes first later (run test later)).rest ≡ false
    by true h k = k
    by false h k = h
