-- Tokens of a text, one head after another.
use Rattle.std.proofs.Common.{◌≡◌, ℕ, suc, ◌+◌, ◌-◌, ◌<◌, ◌≤◌, Bool, true, false, List, [], ◌∷◌, ◌++◌, length, take, drop, get_or, refl, sym, ap, ◌∙◌, subst, arith, append_assoc, true≢false}
use Rattle.std.proofs.lemmas.List.{drop-drop, length-drop, length-take, map-append, append-nil, get_or-drop}
use Rattle.c_tree.specs.Tokens.{string_from, to_comment_end, head_of, AtEnd, Gap, Lexeme, line_feeds, still_alone, Placed, AreTokens, no_more, behind_a_gap, one_more, AreTokensOf}
use Rattle.c_tree.specs.Tokens as c
use Rattle.c_lexer.specs.Heads.{IsKnown, IsHeadOf, seen_head, head_len}
use Rattle.c_lexer.specs.SeenTokens.{seen, placed, all_placed}
use Rattle.c_lexer.specs.declared.head.Head.TheVariants as head
use Rattle.c_lexer.specs.declared.head.Known.{Known}
use Rattle.c_lexer.specs.declared.head.Found.{Found}
use Rattle.c_lexer.specs.declared.token.CToken.{CToken}
use Rattle.c_lexer.specs.declared.token.PlacedCToken.{PlacedCToken}
use Rattle.c_lexer.proofs.PartLemmas.{still_unended}

-- the tokens that were found, and where the reader stands behind them
pub record Reads (bytes : List ℕ) (found : List PlacedCToken) (line : ℕ) (alone : Bool) (given : Known) (rest : List ℕ) : Type 0 where
  pub later : (tokens : List Placed) → AreTokens line alone rest tokens → AreTokensOf bytes (all_placed found ++ tokens)
  pub known : IsKnown rest given
  pub small : line + length rest ≤ length bytes + 1

pub reads_first : (bytes : List ℕ) (found : List PlacedCToken) (given : Known) → found ≡ [] → given.quotes ≡ 0 → given.comments ≡ false → Reads bytes found 1 true given bytes
reads_first bytes found given none quotes comments = subst (λ l. Reads bytes l 1 true given bytes) (sym none) (record {
  later = λ tokens are. are;
  known = record {
    quotes = λ at below quote. absurd (omega (arith, below, quotes));
    comments = λ is_so. absurd (true≢false (sym is_so ∙ comments));
  };
  small = omega arith;
})

-- what is known of a text behind its first bytes
pub known_behind : (text : List ℕ) (given after : Known) (len : ℕ) → IsKnown text given → after.quotes ≡ given.quotes - len → after.comments ≡ given.comments
    → IsKnown (drop len text) after
known_behind text given after len is less same = record {
  quotes = λ at below quote.
      let place : get_or (drop len text) at 0 ≡ get_or text (len + at) 0 = get_or-drop len text at 0 in
      let far : len + suc at ≡ suc (len + at) = omega arith in
      ap (λ l. string_from c.Plain l) (drop-drop (suc at) len text ∙ ap (λ n. drop n text) far) ∙ is.quotes (len + at) (omega (arith, below, less)) (sym place ∙ quote);
  comments = λ is_so.
      let far : len + 2 ≡ 2 + len = omega arith in
      ap to_comment_end (drop-drop 2 len text ∙ ap (λ n. drop n text) far ∙ sym (drop-drop len 2 text)) ∙ still_unended len (drop 2 text) (is.comments (sym same ∙ is_so));
}

reads_gap : (bytes : List ℕ) (found : List PlacedCToken) (line next : ℕ) (alone after : Bool) (text gap rest : List ℕ) (len : ℕ) (given known : Known)
    → Reads bytes found line alone given text → seen_head text (head.Gap len) ≡ head_of alone text → len ≤ length text
    → gap ≡ take len text → rest ≡ drop len text → next ≡ line + line_feeds gap → line_feeds gap ≤ length gap → after ≡ still_alone alone gap → IsKnown rest known
    → Reads bytes found next after known rest
unfolding seen_head
reads_gap bytes found line next alone after text gap rest len given known now is within gap_is rest_is counted few still knows = record {
  later = λ tokens are.
      now.later tokens (behind_a_gap line alone text (take len text) (drop len text) tokens (sym is) (there tokens are));
  known = knows;
  small = omega (arith, now.small, counted, few, ap length gap_is, length-take len text, ap length rest_is, length-drop len text, within);
}
  where
    there : (tokens : List Placed) → AreTokens next after rest tokens
        → AreTokens (line + line_feeds (take len text)) (still_alone alone (take len text)) (drop len text) tokens
    there tokens are =
        let one = subst (λ n. AreTokens n after rest tokens) counted are in
        let two = subst (λ a. AreTokens (line + line_feeds gap) a rest tokens) still one in
        let three = subst (λ g. AreTokens (line + line_feeds g) (still_alone alone g) rest tokens) gap_is two in
        subst (λ r. AreTokens (line + line_feeds (take len text)) (still_alone alone (take len text)) r tokens) rest_is three

reads_lexeme : (bytes : List ℕ) (found longer : List PlacedCToken) (line : ℕ) (alone : Bool) (text rest : List ℕ) (token : CToken) (len : ℕ) (given known : Known)
    → Reads bytes found line alone given text → seen_head text (head.Lexeme token len) ≡ head_of alone text → len ≤ length text
    → rest ≡ drop len text → longer ≡ found ++ (record { token = token; line = line } ∷ []) → IsKnown rest known → Reads bytes longer line false known rest
unfolding seen_head placed
reads_lexeme bytes found longer line alone text rest token len given known now is within rest_is more knows = record {
  later = λ tokens are.
      subst (λ l. AreTokensOf bytes l) (sym (order tokens)) (
      now.later (record { token = seen token; line = line } ∷ tokens) (
      one_more line alone text (seen token) (drop len text) tokens (sym is) (subst (λ r. AreTokens line false r tokens) rest_is are)));
  known = knows;
  small = omega (arith, now.small, ap length rest_is, length-drop len text);
}
  where
    order : (tokens : List Placed) → all_placed longer ++ tokens ≡ all_placed found ++ (record { token = seen token; line = line } ∷ tokens)
    order tokens =
        ap (λ l. all_placed l ++ tokens) more ∙ ap (λ l. l ++ tokens) (map-append placed found (record { token = token; line = line } ∷ []))
        ∙ append_assoc (all_placed found) (record { token = seen token; line = line } ∷ []) tokens

pub gap_behind : (bytes : List ℕ) (found : List PlacedCToken) (line feeds : ℕ) (alone after : Bool) (text rest : List ℕ) (len : ℕ) (given shown known : Known) (next : Found)
    → Reads bytes found line alone given text → IsHeadOf alone text next → next.head ≡ head.Gap len → shown ≡ next.known → rest ≡ drop len text
    → feeds ≡ line_feeds (take len text) → feeds ≤ length (take len text) → after ≡ still_alone alone (take len text)
    → known.quotes ≡ shown.quotes - len → known.comments ≡ shown.comments → Reads bytes found (line + feeds) after known rest
gap_behind bytes found line feeds alone after text rest len given shown known next now is gap same rest_is counted few still quotes comments =
    let few_feeds : line_feeds (take len text) ≤ length (take len text) = subst (λ n. n ≤ length (take len text)) counted few in
    let within : len ≤ length text = subst (λ h. head_len h ≤ length text) gap is.within in
    let knows : IsKnown text shown = subst (λ k. IsKnown text k) (sym same) is.known in
    reads_gap bytes found line (line + feeds) alone after text (take len text) rest len given known now (ap (λ h. seen_head text h) (sym gap) ∙ is.value) within refl rest_is
    (ap (λ n. line + n) counted) few_feeds still (subst (λ l. IsKnown l known) (sym rest_is) (known_behind text shown known len knows quotes comments))

pub lexeme_behind : (bytes : List ℕ) (found longer : List PlacedCToken) (line : ℕ) (alone : Bool) (text rest : List ℕ) (token : CToken) (len : ℕ) (given shown known : Known) (next : Found)
    → Reads bytes found line alone given text → IsHeadOf alone text next → next.head ≡ head.Lexeme token len → shown ≡ next.known → rest ≡ drop len text
    → longer ≡ found ++ (record { token = token; line = line } ∷ [])
    → known.quotes ≡ shown.quotes - len → known.comments ≡ shown.comments → Reads bytes longer line false known rest
lexeme_behind bytes found longer line alone text rest token len given shown known next now is lexeme same rest_is more quotes comments =
    let within : len ≤ length text = subst (λ h. head_len h ≤ length text) lexeme is.within in
    let knows : IsKnown text shown = subst (λ k. IsKnown text k) (sym same) is.known in
    reads_lexeme bytes found longer line alone text rest token len given known now (ap (λ h. seen_head text h) (sym lexeme) ∙ is.value) within rest_is more
    (subst (λ l. IsKnown l known) (sym rest_is) (known_behind text shown known len knows quotes comments))

pub nothing_left : (slice : List ℕ) → length slice < 1 → slice ≡ []
nothing_left [] below = refl
nothing_left (first ∷ later) below = absurd (omega arith)

pub reads_end : (bytes : List ℕ) (found : List PlacedCToken) (line : ℕ) (alone : Bool) (given : Known) (rest : List ℕ) → Reads bytes found line alone given rest → rest ≡ []
    → AreTokensOf bytes (all_placed found)
reads_end bytes found line alone given rest now none =
    subst (λ l. AreTokensOf bytes l) (append-nil (all_placed found)) (now.later [] (no_more line alone rest (ap (λ l. head_of alone l) none)))
