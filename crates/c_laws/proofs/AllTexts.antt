-- Each text has its tokens, and none neither spells a tree nor is refused at a line.
use Rattle.std.specs.Prelude.{◌≡◌, ℕ, zero, suc, ◌+◌, ◌-◌, ◌*◌, ◌<◌, ◌≤◌, nat_eq, Bool, true, false, ◌&&◌, ◌||◌, if◌then◌else◌, List, [], ◌∷◌, ◌++◌, length, take, drop, bytes_eq, Option, Some, None}
use Rattle.std.proofs.Common.{refl, ap, sym, ◌∙◌, subst, le_trans, le_refl, lt_irrefl, append_assoc}
use Rattle.std.proofs.lemmas.List.{length-drop}
use native.Mathlib.Omega.{arith}
use Rattle.c_tree.specs.Tokens.{Including, Cut, longer_if, run, is_word_byte, is_space, is_blank, begins_with, to_comment_end, begins_comment, comment_at, is_sign, is_plain, is_digit_below, Awaited, Plain, Escape, Octal, string_from, include_line, ends_line, include_at, Head, AtEnd, Gap, Lexeme, string_head, include_head, comment_head, head_of, line_feeds, still_alone, Placed, no_more, behind_a_gap, one_more}
use Rattle.c_tree.specs.CText.{kinds, Begins, at_a_token, at_the_end}
use Rattle.c_laws.specs.TextLaws.{HasTokens, SpellsOrIsRefused}
use Rattle.c_laws.proofs.ExpressionReading.{Lexed}
use Rattle.c_laws.proofs.TokenLaws.{rest_of, run_by}
use Rattle.c_laws.proofs.TokenSpellings.{head_by, comment_by, sign_by}
use Rattle.c_laws.proofs.RefusalLaws.{kinds-append}
use Rattle.c_laws.proofs.Refusals.{empty_file}

-- ## What stands behind a head is shorter

pub drop-within : (n : ℕ) (text : List ℕ) → length (drop n text) ≤ length text
drop-within n text = subst (λ z. z ≤ length text) (sym (length-drop n text)) (omega arith)

pub run-within : (test : ℕ → Bool) (text : List ℕ) → length (run test text).rest ≤ length text
run-within test [] = omega arith
run-within test (first ∷ later) = by (test first) (run-within test later)
  where
    by : (passes : Bool) → length (run test later).rest ≤ length later → length (run_by passes first later (run test later)).rest ≤ suc (length later)
    by true h = omega (arith, h)
    by false h = omega arith

pub run-behind : (test : ℕ → Bool) (first : ℕ) (later : List ℕ) → test first ≡ true → length (run test (first ∷ later)).rest ≤ length later
run-behind test first later h =
    subst (λ (z : Bool). length (run_by z first later (run test later)).rest ≤ length later) (sym h) (run-within test later)

abbrev pub cut_length : Option Cut → ℕ
cut_length None = 0
cut_length (Some cut) = length cut.rest

pub longer-within : (byte n : ℕ) (cut : Option Cut) → cut_length cut ≤ n → cut_length (longer_if byte cut) ≤ n
longer-within byte n None h = h
longer-within byte n (Some cut) h = h

pub string-within : (awaited : Awaited) (text : List ℕ) → cut_length (string_from awaited text) ≤ length text
string-within Plain [] = omega arith
string-within Escape [] = omega arith
string-within (Octal zero value) [] = omega arith
string-within (Octal (suc more) value) [] = omega arith
string-within Plain (byte ∷ later) =
    by (nat_eq byte 34) (nat_eq byte 92) (is_plain byte) (string-within Escape later) (string-within Plain later)
  where
    by : (quote escape plain : Bool) → cut_length (string_from Escape later) ≤ length later → cut_length (string_from Plain later) ≤ length later
        → cut_length
        (elim quote [
          | true ↦ Some (record { front = []; rest = later })
          | false ↦ elim escape [
            | true ↦ string_from Escape later
            | false ↦ elim plain [ true ↦ longer_if byte (string_from Plain later) | false ↦ None ]
          ]
        ])
        ≤ suc (length later)
    by true escape plain h k = omega arith
    by false true plain h k = omega (arith, h)
    by false false true h k = longer-within byte (suc (length later)) (string_from Plain later) (omega (arith, k))
    by false false false h k = omega arith
string-within Escape (byte ∷ later) =
    by
    (nat_eq byte 34 || nat_eq byte 92)
    (is_digit_below 4 byte)
    (string-within Plain later)
    (string-within (Octal 1 (byte - 48)) later)
  where
    by : (itself digit : Bool) → cut_length (string_from Plain later) ≤ length later → cut_length (string_from (Octal 1 (byte - 48)) later) ≤ length later
        → cut_length
        (elim itself [
          | true ↦ longer_if byte (string_from Plain later)
          | false ↦ elim digit [ true ↦ string_from (Octal 1 (byte - 48)) later | false ↦ None ]
        ])
        ≤ suc (length later)
    by true digit h k = longer-within byte (suc (length later)) (string_from Plain later) (omega (arith, h))
    by false true h k = omega (arith, k)
    by false false h k = omega arith
string-within (Octal (suc more) value) (byte ∷ later) =
    by (is_digit_below 8 byte) (string_from (Octal more (8 * value + (byte - 48))) later) (string-within (Octal more (8 * value + (byte - 48))) later)
  where
    by : (digit : Bool) (cut : Option Cut) → cut_length cut ≤ length later → cut_length (elim digit [ true ↦ cut | false ↦ None ]) ≤ suc (length later)
    by true cut h = omega (arith, h)
    by false cut h = omega arith
string-within (Octal zero value) (byte ∷ later) = by (is_digit_below 8 byte) (8 * value + (byte - 48)) (string-within Plain later)
  where
    by : (digit : Bool) (made : ℕ) → cut_length (string_from Plain later) ≤ length later
        → cut_length (elim digit [ true ↦ longer_if made (string_from Plain later) | false ↦ None ]) ≤ suc (length later)
    by true made h = longer-within made (suc (length later)) (string_from Plain later) (omega (arith, h))
    by false made h = omega arith

pub comment-within : (text : List ℕ) → cut_length (to_comment_end text) ≤ length text
comment-within [] = omega arith
comment-within (first ∷ later) = by (nat_eq first 42 && begins_with (nat_eq 47) later) (drop-within 1 later) (comment-within later)
  where
    by : (ends : Bool) → length (drop 1 later) ≤ length later → cut_length (to_comment_end later) ≤ length later
        → cut_length
        (elim ends [ true ↦ Some (record { front = 42 ∷ 47 ∷ []; rest = drop 1 later }) | false ↦ longer_if first (to_comment_end later) ])
        ≤ suc (length later)
    by true h k = omega (arith, h)
    by false h k = longer-within first (suc (length later)) (to_comment_end later) (omega (arith, k))

abbrev pub rest_length : Option (List ℕ) → ℕ
rest_length None = 0
rest_length (Some rest) = length rest

pub include-within : (first : ℕ) (later : List ℕ) → rest_length (include_at (first ∷ later)) ≤ length later
include-within first later =
    let behind = (run is_blank (drop (length include_line) (first ∷ later))).rest in
    by
    behind
    (bytes_eq (take (length include_line) (first ∷ later)) include_line)
    (ends_line behind)
    (le_trans (run-within is_blank (drop (length include_line) (first ∷ later))) (drop-within 15 later))
  where
    by : (behind : List ℕ) (stands ends : Bool) → length behind ≤ length later
        → rest_length (elim stands [ true ↦ (if ends then Some behind else None) | false ↦ None ]) ≤ length later
    by behind true true h = h
    by behind true false h = omega arith
    by behind false ends h = omega arith

pub string-head-within : (later : List ℕ) (cut : Option Cut) → cut_length cut ≤ length later → length (rest_of (string_head later cut)) ≤ length later
string-head-within later None h = le_refl (length later)
string-head-within later (Some cut) h = h

pub include-head-within : (later : List ℕ) (rest : Option (List ℕ)) → rest_length rest ≤ length later → length (rest_of (include_head later rest)) ≤ length later
include-head-within later None h = le_refl (length later)
include-head-within later (Some rest) h = h

pub comment-head-within : (later : List ℕ) (cut : Option Cut) → cut_length cut ≤ length later → length (rest_of (comment_head later cut)) ≤ length later
comment-head-within later None h = le_refl (length later)
comment-head-within later (Some cut) h = h

pub sign-within : (two one : Bool) (first : ℕ) (later : List ℕ) → length (rest_of (sign_by two one (first ∷ later))) ≤ length later
sign-within true one first later = drop-within 1 later
sign-within false true first later = le_refl (length later)
sign-within false false first later = le_refl (length later)

pub comment-by-within : (comment : Bool) (first : ℕ) (later : List ℕ) → length (rest_of (comment_by comment first later)) ≤ length later
comment-by-within true first later =
    comment-head-within
    later
    (comment_at (first ∷ later))
    (longer-within 47 (length later) (longer_if 42 (to_comment_end (drop 1 later)))
    (longer-within 42 (length later) (to_comment_end (drop 1 later)) (le_trans (comment-within (drop 1 later)) (drop-within 1 later))))
comment-by-within false first later = sign-within (is_sign (take 2 (first ∷ later))) (is_sign (take 1 (first ∷ later))) first later

pub head-by-within : (space word quote hash : Bool) (first : ℕ) (later : List ℕ) → is_word_byte first ≡ word
    → length (rest_of (head_by space word quote hash first later)) ≤ length later
head-by-within true word quote hash first later h = le_refl (length later)
head-by-within false true quote hash first later h = run-behind is_word_byte first later h
head-by-within false false true hash first later h = string-head-within later (string_from Plain later) (string-within Plain later)
head-by-within false false false true first later h = include-head-within later (include_at (first ∷ later)) (include-within first later)
head-by-within false false false false first later h = comment-by-within (begins_comment (first ∷ later)) first later

pub head-within : (alone : Bool) (first : ℕ) (later : List ℕ) → length (rest_of (head_of alone (first ∷ later))) ≤ length later
head-within alone first later =
    head-by-within (is_space first) (is_word_byte first) (nat_eq first 34) (alone && nat_eq first 35) first later refl

-- ## Each text has its tokens

pub lexed-below : (n line : ℕ) (alone : Bool) (text : List ℕ) → length text < n → Lexed line alone text
lexed-below zero line alone text h = absurd (lt_irrefl zero (omega (arith, h)))
lexed-below (suc n) line alone [] h = record { tokens = []; are = no_more line alone [] refl }
lexed-below (suc n) line alone (first ∷ later) h =
    by
    (head_of alone (first ∷ later))
    refl
    (head-within alone first later)
    (λ line alone text k. lexed-below n line alone text k)
  where
    by : (head : Head) → head_of alone (first ∷ later) ≡ head → length (rest_of head) ≤ length later
        → ((line : ℕ) (alone : Bool) (text : List ℕ) → length text < n → Lexed line alone text) → Lexed line alone (first ∷ later)
    by AtEnd is k again = record { tokens = []; are = no_more line alone (first ∷ later) is }
    by (Gap gap rest) is k again =
        let more = again (line + line_feeds gap) (still_alone alone gap) rest (omega (arith, h, k)) in
        record { tokens = more.tokens; are = behind_a_gap line alone (first ∷ later) gap rest more.tokens is more.are }
    by (Lexeme token rest) is k again =
        let more = again line false rest (omega (arith, h, k)) in
        record { tokens = record { token = token; line = line } ∷ more.tokens; are = one_more line alone (first ∷ later) token rest more.tokens is more.are }

pub has_tokens : (bytes : List ℕ) → HasTokens bytes
has_tokens bytes =
    let all = lexed-below (suc (length bytes)) 1 true bytes (omega arith) in record { tokens = all.tokens; are = all.are }

-- ## A text spells a tree or is refused

append_nothing : (tokens : List Placed) → tokens ++ [] ≡ tokens
append_nothing [] = refl
append_nothing (one ∷ tokens) = ap (λ z. one ∷ z) (append_nothing tokens)

-- some tokens begin a file; with those behind them they are all of the text's
pub from-front : (bytes : List ℕ) (has : HasTokens bytes) (front later : List Placed) → has.tokens ≡ front ++ later → Begins (kinds front) → SpellsOrIsRefused bytes
from-front bytes has front [] h begun no_tree no_line =
    no_line _
    (record {
      tokens = has.tokens;
      lexed = has.are;
      refused =
          at_the_end
          (subst (λ z. Begins (kinds z)) (sym (h ∙ append_nothing front)) begun)
          (λ file reads. no_tree file (record { tokens = has.tokens; lexed = has.are; reads = reads }));
    })
from-front bytes has front (first ∷ later) h begun no_tree no_line =
    no_line
    first.line
    (record {
      tokens = has.tokens;
      lexed = has.are;
      refused =
          at_a_token
          front
          first
          later
          h
          begun
          (λ more.
          from-front
          bytes
          has
          (front ++ (first ∷ []))
          later
          (h ∙ sym (append_assoc front (first ∷ []) later))
          (subst (λ z. Begins z) (sym (kinds-append front (first ∷ []))) more)
          no_tree
          no_line);
    })

pub spells_or_is_refused : (bytes : List ℕ) → SpellsOrIsRefused bytes
spells_or_is_refused bytes =
    let has = has_tokens bytes in
    from-front bytes has [] has.tokens refl (record { later = Including ∷ []; file = empty_file.tree; reads = empty_file.reads })
