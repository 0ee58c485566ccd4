-- What stands at the head of a text, by its first byte.
use Rattle.std.proofs.Common.{◌≡◌, ℕ, zero, suc, ◌+◌, ◌<◌, ◌≤◌, Bool, true, false, List, [], ◌∷◌, length, take, drop, refl, sym, ap, ap₂, ◌∙◌, subst, Some, None, arith, inl, inr, true≢false}
use Rattle.std.specs.Prelude.{◌⊎◌, ◌≢◌, ◌&&◌, nat_eq, cond}
use Rattle.std.specs.Prelude.{IfOk, Result, Ok, Err}
use Rattle.std.specs.List.{prefix_len}
use Rattle.std.specs.declared.alloc.AllocError.{AllocError}
use Rattle.std.proofs.lemmas.Bool.{cases_Bool, eqb-true, eqb-false, ne_eqb}
use Rattle.c_tree.specs.Tokens.{Cut, longer_if, begins_with, to_comment_end, is_space, is_word_byte, is_sign, run, word_or_number, string_from, include_at, begins_comment, comment_at, head_of}
use Rattle.c_tree.specs.Tokens as c
use Rattle.c_lexer.specs.Heads.{seen_head, IsKnown, IsHead, IsHeadOf}
use Rattle.c_lexer.specs.Parts.{cut_at, Spells, SpellsLong}
use Rattle.c_lexer.specs.SeenTokens.{seen}
use Rattle.c_lexer.specs.Strings.{BeginNone, IsClosed, IsUnclosed}
use Rattle.c_lexer.specs.declared.head.Head.TheVariants as head
use Rattle.c_lexer.specs.declared.head.Known.{Known}
use Rattle.c_lexer.specs.declared.head.Found.{Found}
use Rattle.c_lexer.specs.declared.token.CToken.{CToken}
use Rattle.c_lexer.specs.declared.token.CToken.TheVariants as token
use Rattle.c_lexer.specs.declared.token.CSign.{CSign}
use Rattle.c_lexer.proofs.PartLemmas.{run-is}

-- the head of a text, by the tests of its first byte
head_by : Bool → Bool → Bool → Bool → ℕ → List ℕ → c.Head
head_by space word quote hash first later =
    elim space [
      | true ↦ c.Gap (first ∷ []) later
      | false ↦ elim word [
        | true ↦ (let cut = run is_word_byte (first ∷ later) in c.Lexeme (word_or_number first cut.front) cut.rest)
        | false ↦ elim quote [
          | true ↦ c.string_head later (string_from c.Plain later)
          | false ↦ elim hash [
            | true ↦ c.include_head later (include_at (first ∷ later))
            | false ↦ elim (begins_comment (first ∷ later)) [
              | true ↦ c.comment_head later (comment_at (first ∷ later))
              | false ↦ c.sign_head (first ∷ later)
            ]
          ]
        ]
      ]
    ]

pub space_head : (alone : Bool) (first : ℕ) (later : List ℕ) → is_space first ≡ true → c.Gap (first ∷ []) later ≡ head_of alone (first ∷ later)
unfolding head_by
space_head alone first later h = sym (ap (λ z. head_by z (is_word_byte first) (nat_eq first 34) (alone && nat_eq first 35) first later) h)

pub word_head : (alone : Bool) (first : ℕ) (later : List ℕ) → is_space first ≡ false → is_word_byte first ≡ true
    → (let cut = run is_word_byte (first ∷ later) in c.Lexeme (word_or_number first cut.front) cut.rest) ≡ head_of alone (first ∷ later)
unfolding head_by
word_head alone first later h k =
    sym (ap (λ z. head_by z (is_word_byte first) (nat_eq first 34) (alone && nat_eq first 35) first later) h
    ∙ ap (λ z. head_by false z (nat_eq first 34) (alone && nat_eq first 35) first later) k)

pub quote_head : (alone : Bool) (first : ℕ) (later : List ℕ) → first ≡ 34 → c.string_head later (string_from c.Plain later) ≡ head_of alone (first ∷ later)
quote_head alone first later is = ap (λ b. head_of alone (b ∷ later)) (sym is)

pub hash_head : (first : ℕ) (later : List ℕ) → first ≡ 35 → c.include_head later (include_at (first ∷ later)) ≡ head_of true (first ∷ later)
hash_head first later is = subst (λ b. c.include_head later (include_at (b ∷ later)) ≡ head_of true (b ∷ later)) (sym is) refl

slash_any : (alone : Bool) (later : List ℕ) → head_of false (47 ∷ later) ≡ head_of alone (47 ∷ later)
slash_any true later = refl
slash_any false later = refl

pub slash_head : (alone : Bool) (first : ℕ) (later : List ℕ) → first ≡ 47 → head_of false (47 ∷ later) ≡ head_of alone (first ∷ later)
slash_head alone first later is = slash_any alone later ∙ ap (λ b. head_of alone (b ∷ later)) (sym is)

slash_by : Bool → List ℕ → c.Head
slash_by comment later = elim comment [ true ↦ c.comment_head later (comment_at (47 ∷ later)) | false ↦ c.sign_head (47 ∷ later) ]

begins_by : (later : List ℕ) → begins_comment (47 ∷ later) ≡ begins_with (nat_eq 42) later
begins_by [] = refl
begins_by (second ∷ later) = by (cases_Bool (nat_eq 42 second))
  where
    by : (nat_eq 42 second ≡ true) ⊎ (nat_eq 42 second ≡ false) → begins_comment (47 ∷ second ∷ later) ≡ nat_eq 42 second
    by (inl is_so) = let same : second ≡ 42 = sym (eqb-true 42 second is_so) in ap (λ b. begins_comment (47 ∷ b ∷ later)) same ∙ sym is_so
    by (inr is_not) = ap (λ z. z && true) (ne_eqb second 42 (λ same. eqb-false 42 second is_not (sym same))) ∙ sym is_not

pub comment_head : (later : List ℕ) → begins_with (nat_eq 42) later ≡ true → c.comment_head later (comment_at (47 ∷ later)) ≡ head_of false (47 ∷ later)
unfolding slash_by
comment_head later h = sym (ap (λ z. slash_by z later) (begins_by later ∙ h))

pub slash_sign : (later : List ℕ) → begins_with (nat_eq 42) later ≡ false → c.sign_head (47 ∷ later) ≡ head_of false (47 ∷ later)
unfolding slash_by
slash_sign later h = sym (ap (λ z. slash_by z later) (begins_by later ∙ h))

-- a comment begins with a slash
no_comment : (first : ℕ) (later : List ℕ) → first ≢ 47 → begins_comment (first ∷ later) ≡ false
no_comment first [] other = ap (λ z. z && false) (ne_eqb first 47 other)
no_comment first (second ∷ later) other = ap (λ z. z && (nat_eq second 42 && true)) (ne_eqb first 47 other)

comment_by : Bool → ℕ → List ℕ → c.Head
comment_by comment first later =
    elim comment [ true ↦ c.comment_head later (comment_at (first ∷ later)) | false ↦ c.sign_head (first ∷ later) ]

pub sign_head : (alone : Bool) (first : ℕ) (later : List ℕ) → is_space first ≡ false → is_word_byte first ≡ false → first ≢ 34 → (alone && nat_eq first 35) ≡ false
    → first ≢ 47 → c.sign_head (first ∷ later) ≡ head_of alone (first ∷ later)
unfolding head_by comment_by
sign_head alone first later space word quote hash slash =
    sym (ap (λ z. head_by z (is_word_byte first) (nat_eq first 34) (alone && nat_eq first 35) first later) space
    ∙ ap (λ z. head_by false z (nat_eq first 34) (alone && nat_eq first 35) first later) word
    ∙ ap (λ z. head_by false false z (alone && nat_eq first 35) first later) (ne_eqb first 34 quote)
    ∙ ap (λ z. head_by false false false z first later) hash ∙ ap (λ z. comment_by z first later) (no_comment first later slash))

-- ## Where a head is another one

pub same_head : (text : List ℕ) (wanted other : c.Head) (found : Found) → IsHead text wanted found → wanted ≡ other → IsHead text other found
same_head text wanted other found is same = subst (λ w. IsHead text w found) same is

-- ## The parts

pub is_gap : (text : List ℕ) (first : ℕ) (later : List ℕ) (alone : Bool) (given : Known) → text ≡ first ∷ later → is_space first ≡ true → IsKnown text given
    → IsHeadOf alone text (record { head = head.Gap 1; known = given })
unfolding seen_head
is_gap text first later alone given is space known = record {
  value = ap (λ l. c.Gap (take 1 l) (drop 1 l)) is ∙ space_head alone first later space ∙ ap (λ l. head_of alone l) (sym is);
  known = known;
  some = omega arith;
  within = omega (arith, ap length is);
}

pub is_bad : (first : ℕ) (later : List ℕ) (given : Known) → IsKnown (first ∷ later) given
    → IsHead (first ∷ later) (c.Lexeme c.Bad later) (record { head = head.Lexeme token.Bad 1; known = given })
unfolding seen_head seen
is_bad first later given known = record { value = refl; known = known; some = omega arith; within = omega arith }

pub is_string : (later bytes : List ℕ) (len after : ℕ) (given : Known) → IsClosed later bytes len → after ≡ len + 1 → IsKnown (34 ∷ later) given
    → IsHead (34 ∷ later) (c.string_head later (string_from c.Plain later)) (record { head = head.Lexeme (token.Quoted bytes) after; known = given })
unfolding seen_head seen
is_string later bytes len after given closed on known =
    let next : after ≡ suc len = omega (arith, on) in
    record {
      value = ap (λ n. c.Lexeme (c.Quoted bytes) (drop n (34 ∷ later))) next ∙ ap (λ cut. c.string_head later cut) (sym closed.value);
      known = known;
      some = omega (arith, on);
      within = omega (arith, on, closed.within);
    }

-- a quote among the bytes of which it is known begins no string
pub no_string : (later : List ℕ) (given : Known) → IsKnown (34 ∷ later) given → 0 < given.quotes → c.Lexeme c.Bad later ≡ c.string_head later (string_from c.Plain later)
no_string later given known some = ap (λ cut. c.string_head later cut) (sym (known.quotes 0 some refl))

pub open_string : (later : List ℕ) (count : ℕ) → IsUnclosed later count → c.Lexeme c.Bad later ≡ c.string_head later (string_from c.Plain later)
open_string later count unclosed = ap (λ cut. c.string_head later cut) (sym unclosed.value)

pub open_known : (later : List ℕ) (count after : ℕ) (given : Known) (comments : Bool) → IsUnclosed later count → after ≡ count + 1 → comments ≡ given.comments → IsKnown (34 ∷ later) given
    → IsKnown (34 ∷ later) (record { quotes = after; comments = comments })
open_known later count after given comments unclosed on same known = record { quotes = by; comments = λ is_so. known.comments (sym same ∙ is_so) }
  where
    by : BeginNone (34 ∷ later) after
    by zero below quote = unclosed.value
    by (suc at) below quote = unclosed.quotes at (omega (arith, below, on)) quote

pub bad_string_known : (later : List ℕ) (found : Found) (given : Known) → IsKnown (34 ∷ later) given → 0 < given.quotes → IsHead (34 ∷ later) (c.Lexeme c.Bad later) found
    → IsHead (34 ∷ later) (c.string_head later (string_from c.Plain later)) found
bad_string_known later found given known some is = same_head (34 ∷ later) _ _ found is (no_string later given known some)

pub bad_string_open : (later : List ℕ) (found : Found) (count : ℕ) → IsUnclosed later count → IsHead (34 ∷ later) (c.Lexeme c.Bad later) found
    → IsHead (34 ∷ later) (c.string_head later (string_from c.Plain later)) found
bad_string_open later found count unclosed is = same_head (34 ∷ later) _ _ found is (open_string later count unclosed)

pub is_include : (text : List ℕ) (later : List ℕ) (len : ℕ) (given : Known) → Some (drop len text) ≡ include_at text → 0 < len → len ≤ length text → IsKnown text given
    → IsHead text (c.include_head later (include_at text)) (record { head = head.Lexeme token.Including len; known = given })
unfolding seen_head seen
is_include text later len given is some within known = record {
  value = ap (λ rest. c.include_head later rest) is;
  known = known;
  some = some;
  within = within;
}

pub no_include_head : (text later : List ℕ) → None ≡ include_at text → c.Lexeme c.Bad later ≡ c.include_head later (include_at text)
no_include_head text later is = ap (λ rest. c.include_head later rest) is

pub bad_include : (text later : List ℕ) (found : Found) (first : ℕ) → text ≡ first ∷ later → None ≡ include_at text → IsHead (first ∷ later) (c.Lexeme c.Bad later) found
    → IsHead text (c.include_head later (include_at text)) found
bad_include text later found first is none found_is =
    same_head text _ _ found (subst (λ l. IsHead l (c.Lexeme c.Bad later) found) (sym is) found_is) (no_include_head text later none)

pub known_as : (text : List ℕ) (first code : ℕ) (later : List ℕ) (given : Known) → text ≡ first ∷ later → first ≡ code → IsKnown text given → IsKnown (code ∷ later) given
known_as text first code later given is same known = subst (λ l. IsKnown l given) (is ∙ ap (λ b. b ∷ later) same) known

-- the text behind the first byte, where the second is known
pub second_is : (later inside : List ℕ) → begins_with (nat_eq 42) later ≡ true → inside ≡ drop 1 later → later ≡ 42 ∷ inside
second_is [] inside h is = absurd (true≢false (sym h))
second_is (second ∷ later) inside h is = ap₂ (λ (b : ℕ) (l : List ℕ). b ∷ l) (sym (eqb-true 42 second h)) (sym is)

comment_ends_at : (inside : List ℕ) (len : ℕ) → Some (cut_at inside len) ≡ to_comment_end inside
    → comment_at (47 ∷ 42 ∷ inside) ≡ Some (record { front = take (suc (suc len)) (47 ∷ 42 ∷ inside); rest = drop (suc (suc len)) (47 ∷ 42 ∷ inside) })
comment_ends_at inside len is = ap (λ cut. longer_if 47 (longer_if 42 cut)) (sym is)

pub is_comment : (later inside : List ℕ) (len after : ℕ) (given : Known) → later ≡ 42 ∷ inside → Some (cut_at inside len) ≡ to_comment_end inside → len ≤ length inside
    → after ≡ len + 2 → IsKnown (47 ∷ later) given
    → IsHead (47 ∷ later) (c.comment_head later (comment_at (47 ∷ later))) (record { head = head.Gap after; known = given })
unfolding seen_head
is_comment later inside len after given second is within on known =
    let next : after ≡ suc (suc len) = omega (arith, on) in
    record {
      value = ap₂ (λ l n. c.Gap (take n (47 ∷ l)) (drop n (47 ∷ l))) second next
          ∙ ap (λ cut. c.comment_head (42 ∷ inside) cut) (sym (comment_ends_at inside len is))
          ∙ ap (λ l. c.comment_head l (comment_at (47 ∷ l))) (sym second);
      known = known;
      some = omega (arith, on);
      within = omega (arith, on, within, ap length second);
    }

pub open_comment : (later inside : List ℕ) → later ≡ 42 ∷ inside → to_comment_end inside ≡ None → c.Lexeme c.Bad later ≡ c.comment_head later (comment_at (47 ∷ later))
open_comment later inside second none =
    subst (λ l. c.Lexeme c.Bad l ≡ c.comment_head l (comment_at (47 ∷ l))) (sym second) (ap (λ cut. c.comment_head (42 ∷ inside) (longer_if 47 (longer_if 42 cut))) (sym none))

-- what is known of the text behind the first two bytes of a comment
pub known_inside : (later inside : List ℕ) (given : Known) → IsKnown (47 ∷ later) given → later ≡ 42 ∷ inside → given.comments ≡ true → to_comment_end inside ≡ None
known_inside later inside given known second is_so = ap (λ (l : List ℕ). to_comment_end (drop 1 l)) (sym second) ∙ known.comments is_so

pub comments_known : (later inside : List ℕ) (given : Known) → IsKnown (47 ∷ later) given → later ≡ 42 ∷ inside → to_comment_end inside ≡ None
    → IsKnown (47 ∷ later) (record { quotes = given.quotes; comments = true })
comments_known later inside given known second none = record {
  quotes = known.quotes;
  comments = λ is_so. ap (λ (l : List ℕ). to_comment_end (drop 1 l)) second ∙ none;
}

pub bad_comment_known : (later inside : List ℕ) (found : Found) (given : Known) → IsKnown (47 ∷ later) given → later ≡ 42 ∷ inside → given.comments ≡ true
    → IsHead (47 ∷ later) (c.Lexeme c.Bad later) found → IsHead (47 ∷ later) (c.comment_head later (comment_at (47 ∷ later))) found
bad_comment_known later inside found given known second sure is =
    same_head (47 ∷ later) _ _ found is (open_comment later inside second (known_inside later inside given known second sure))

pub bad_comment_open : (later inside : List ℕ) (found : Found) → later ≡ 42 ∷ inside → None ≡ to_comment_end inside
    → IsHead (47 ∷ later) (c.Lexeme c.Bad later) found → IsHead (47 ∷ later) (c.comment_head later (comment_at (47 ∷ later))) found
bad_comment_open later inside found second none is = same_head (47 ∷ later) _ _ found is (open_comment later inside second (sym none))

pub slash_is_comment : (later : List ℕ) (found : Found) → begins_with (nat_eq 42) later ≡ true → IsHead (47 ∷ later) (c.comment_head later (comment_at (47 ∷ later))) found
    → IsHeadOf false (47 ∷ later) found
slash_is_comment later found begins is = same_head (47 ∷ later) _ _ found is (comment_head later begins)

pub slash_is_sign : (later : List ℕ) (found : Found) → begins_with (nat_eq 42) later ≡ false → IsHead (47 ∷ later) (c.sign_head (47 ∷ later)) found
    → IsHeadOf false (47 ∷ later) found
slash_is_sign later found begins is = same_head (47 ∷ later) _ _ found is (slash_sign later begins)

-- ## Words and signs

pub is_word : (text : List ℕ) (first : ℕ) (front : List ℕ) (len : ℕ) (found : CToken) (given : Known) → len ≡ prefix_len is_word_byte text → len ≤ length text → 0 < len
    → front ≡ take len text → seen found ≡ word_or_number first front → IsKnown text given
    → IsHead text (let cut = run is_word_byte text in c.Lexeme (word_or_number first cut.front) cut.rest) (record { head = head.Lexeme found len; known = given })
unfolding seen_head
is_word text first front len found given is within some front_is same known = record {
  value = ap₂ (λ t n. c.Lexeme t (drop n text)) (same ∙ ap (λ l. word_or_number first l) front_is) refl
      ∙ ap (λ n. c.Lexeme (word_or_number first (take n text)) (drop n text)) is
      ∙ ap (λ (cut : Cut). c.Lexeme (word_or_number first cut.front) cut.rest) (sym (run-is is_word_byte text));
  known = known;
  some = some;
  within = within;
}

pub word_some : (text : List ℕ) (first : ℕ) (later : List ℕ) (len : ℕ) → text ≡ first ∷ later → is_word_byte first ≡ true → len ≡ prefix_len is_word_byte text → 0 < len
word_some text first later len is word same =
    let more : prefix_len is_word_byte text ≡ 1 + prefix_len is_word_byte later =
    ap (λ l. prefix_len is_word_byte l) is ∙ ap (λ z. cond z (1 + prefix_len is_word_byte later) 0) word in
    omega (arith, same, more)

sign_by : Bool → Bool → List ℕ → c.Head
sign_by two one text =
    elim two [
      | true ↦ c.Lexeme (c.Sign (take 2 text)) (drop 2 text)
      | false ↦ elim one [ true ↦ c.Lexeme (c.Sign (take 1 text)) (drop 1 text) | false ↦ c.Lexeme c.Bad (drop 1 text) ]
    ]

pub is_long : (text : List ℕ) (s : CSign) (given : Known) → SpellsLong text s → IsKnown text given
    → IsHead text (c.sign_head text) (record { head = head.Lexeme (token.Sign s) 2; known = given })
unfolding seen_head seen sign_by
is_long text s given long known = record {
  value = ap (λ l. c.Lexeme (c.Sign l) (drop 2 text)) long.spells.spelling ∙ sym (ap (λ z. sign_by z (is_sign (take 1 text)) text) long.spells.known);
  known = known;
  some = omega arith;
  within = long.enough;
}

-- where two bytes are no sign, one may be
one_sign : (first : ℕ) (later : List ℕ) (one : Bool) → (2 ≤ length (first ∷ later) → is_sign (take 2 (first ∷ later)) ≡ false) → is_sign (first ∷ []) ≡ one
    → c.sign_head (first ∷ later) ≡ sign_by false one (first ∷ later)
unfolding sign_by
one_sign first [] true short is = ap (λ z. sign_by z z (first ∷ [])) is
one_sign first [] false short is = ap (λ z. sign_by z z (first ∷ [])) is
one_sign first (second ∷ later) one short is =
    ap (λ z. sign_by z (is_sign (first ∷ [])) (first ∷ second ∷ later)) (short (omega arith)) ∙ ap (λ z. sign_by false z (first ∷ second ∷ later)) is

pub is_short : (first : ℕ) (later : List ℕ) (s : CSign) (given : Known) → (2 ≤ length (first ∷ later) → is_sign (take 2 (first ∷ later)) ≡ false) → Spells (first ∷ []) s
    → IsKnown (first ∷ later) given → IsHead (first ∷ later) (c.sign_head (first ∷ later)) (record { head = head.Lexeme (token.Sign s) 1; known = given })
unfolding seen_head seen sign_by
is_short first later s given short spells known = record {
  value = ap (λ l. c.Lexeme (c.Sign l) later) spells.spelling ∙ sym (one_sign first later true short spells.known);
  known = known;
  some = omega arith;
  within = omega arith;
}

pub no_sign : (first : ℕ) (later : List ℕ) → (2 ≤ length (first ∷ later) → is_sign (take 2 (first ∷ later)) ≡ false) → is_sign (first ∷ []) ≡ false
    → c.Lexeme c.Bad later ≡ c.sign_head (first ∷ later)
unfolding sign_by
no_sign first later short none = sym (one_sign first later false short none)

pub bad_sign : (first : ℕ) (later : List ℕ) (found : Found) → (2 ≤ length (first ∷ later) → is_sign (take 2 (first ∷ later)) ≡ false) → is_sign (first ∷ []) ≡ false
    → IsHead (first ∷ later) (c.Lexeme c.Bad later) found → IsHead (first ∷ later) (c.sign_head (first ∷ later)) found
bad_sign first later found short none is = same_head (first ∷ later) _ _ found is (no_sign first later short none)

-- ## The whole head

pub head_word : (alone : Bool) (text : List ℕ) (first : ℕ) (later : List ℕ) (found : Result Found AllocError) → text ≡ first ∷ later → is_space first ≡ false
    → is_word_byte first ≡ true
    → IfOk found (IsHead text (let cut = run is_word_byte text in c.Lexeme (word_or_number first cut.front) cut.rest)) → IfOk found (IsHeadOf alone text)
head_word alone text first later (Err failed) is space word found_is = tt
head_word alone text first later (Ok found) is space word found_is =
    same_head text _ _ found found_is (ap (λ l. let cut = run is_word_byte l in c.Lexeme (word_or_number first cut.front) cut.rest) is
    ∙ word_head alone first later space word ∙ ap (λ l. head_of alone l) (sym is))

pub head_string : (alone : Bool) (text : List ℕ) (first : ℕ) (later : List ℕ) (found : Result Found AllocError) → text ≡ first ∷ later → first ≡ 34
    → IfOk found (IsHead (34 ∷ later) (c.string_head later (string_from c.Plain later))) → IfOk found (IsHeadOf alone text)
head_string alone text first later (Err failed) is quote found_is = tt
head_string alone text first later (Ok found) is quote found_is =
    let whole : 34 ∷ later ≡ text = ap (λ b. b ∷ later) (sym quote) ∙ sym is in
    subst (λ l. IsHeadOf alone l found) whole (same_head (34 ∷ later) _ _ found found_is (quote_head alone 34 later refl))

pub head_include : (alone : Bool) (text : List ℕ) (first : ℕ) (later : List ℕ) (found : Found) → text ≡ first ∷ later → alone ≡ true → first ≡ 35
    → IsHead text (c.include_head later (include_at text)) found → IsHeadOf alone text found
head_include alone text first later found is only hash found_is =
    same_head text _ _ found found_is (ap (λ l. c.include_head later (include_at l)) is ∙ hash_head first later hash ∙ ap₂ (λ a l. head_of a l) (sym only) (sym is))

pub head_slash : (alone : Bool) (text : List ℕ) (first : ℕ) (later : List ℕ) (found : Found) → text ≡ first ∷ later → first ≡ 47
    → IsHeadOf false (47 ∷ later) found → IsHeadOf alone text found
head_slash alone text first later found is slash found_is =
    let whole : 47 ∷ later ≡ text = ap (λ b. b ∷ later) (sym slash) ∙ sym is in
    subst (λ l. IsHeadOf alone l found) whole (same_head (47 ∷ later) _ _ found found_is (slash_head alone 47 later refl))

pub head_sign : (alone : Bool) (text : List ℕ) (first : ℕ) (later : List ℕ) (found : Found) → text ≡ first ∷ later → is_space first ≡ false → is_word_byte first ≡ false
    → first ≢ 34 → (alone && nat_eq first 35) ≡ false → first ≢ 47 → IsHead (first ∷ later) (c.sign_head (first ∷ later)) found → IsHeadOf alone text found
head_sign alone text first later found is space word quote hash slash found_is =
    subst (λ l. IsHeadOf alone l found) (sym is) (same_head (first ∷ later) _ _ found found_is (sign_head alone first later space word quote hash slash))
