-- Strings, a byte at a time.
use Rattle.std.proofs.Common.{◌≡◌, ℕ, suc, ◌+◌, ◌-◌, ◌*◌, ◌<◌, ◌≤◌, Bool, true, false, List, [], ◌∷◌, ◌++◌, length, drop, get_or, refl, sym, ap, ◌∙◌, subst, Option, Some, None, arith, inl, inr}
use Rattle.std.specs.Prelude.{◌⊎◌, ◌||◌, nat_eq}
use Rattle.std.proofs.lemmas.Bool.{cases_lt, ne_eqb}
use Rattle.std.proofs.lemmas.Bool.Decides.{nat_tests}
use Rattle.std.proofs.lemmas.List.{drop_all, append-nil}
use Rattle.std.proofs.Math.Seq.{drop-cons}
use Rattle.c_tree.specs.Tokens.{Cut, longer_if, string_from, is_plain, is_digit_below}
use Rattle.c_tree.specs.Tokens as c
use Rattle.c_lexer.specs.Strings.{seen_awaited, IsWithin, continued, IsClosed, IsUnclosed}
use Rattle.c_lexer.specs.declared.strings.Awaited.{Awaited}
use Rattle.c_lexer.specs.declared.strings.Awaited.TheVariants as awaited
use Rattle.c_lexer.specs.declared.strings.Effect.{Effect}
use Rattle.c_lexer.specs.declared.strings.Effect.TheVariants as effect
use Rattle.c_lexer.proofs.PartLemmas.{some_cut, behind, behind-nothing, behind-longer}

-- ## What a byte does

plain_by : Bool → Bool → Bool → ℕ → List ℕ → Option Cut
plain_by quote escape plain byte later =
    elim quote [
      | true ↦ Some (record { front = []; rest = later })
      | false ↦ elim escape [
        | true ↦ string_from c.Escape later
        | false ↦ elim plain [ true ↦ longer_if byte (string_from c.Plain later) | false ↦ None ]
      ]
    ]

pub plain_ends : (byte : ℕ) → byte ≡ 34 → (later : List ℕ) → string_from c.Plain (byte ∷ later) ≡ continued effect.Ends later
unfolding continued
plain_ends byte is later = ap (λ b. string_from c.Plain (b ∷ later)) is

pub plain_escapes : (byte : ℕ) → byte ≡ 92 → (later : List ℕ) → string_from c.Plain (byte ∷ later) ≡ continued (effect.Awaits awaited.Escape) later
unfolding continued seen_awaited
plain_escapes byte is later = ap (λ b. string_from c.Plain (b ∷ later)) is

no_quote : (byte : ℕ) → is_plain byte ≡ true → nat_eq byte 34 ≡ false
no_quote byte h = grind (arith, nat_tests)

no_escape : (byte : ℕ) → is_plain byte ≡ true → nat_eq byte 92 ≡ false
no_escape byte h = grind (arith, nat_tests)

pub plain_itself : (byte : ℕ) → is_plain byte ≡ true → (later : List ℕ) → string_from c.Plain (byte ∷ later) ≡ continued (effect.Gives byte) later
unfolding plain_by continued
plain_itself byte h later =
    ap (λ z. plain_by z (nat_eq byte 92) (is_plain byte) byte later) (no_quote byte h) ∙ ap (λ z. plain_by false z (is_plain byte) byte later) (no_escape byte h)
    ∙ ap (λ z. plain_by false false z byte later) h

pub plain_fails : (byte : ℕ) → (byte ≡ 34 → ⊥) → (byte ≡ 92 → ⊥) → is_plain byte ≡ false → (later : List ℕ)
    → string_from c.Plain (byte ∷ later) ≡ continued effect.Fails later
unfolding plain_by continued
plain_fails byte quote escape h later =
    ap (λ z. plain_by z (nat_eq byte 92) (is_plain byte) byte later) (ne_eqb byte 34 quote) ∙ ap (λ z. plain_by false z (is_plain byte) byte later) (ne_eqb byte 92 escape)
    ∙ ap (λ z. plain_by false false z byte later) h

escape_by : Bool → Bool → Bool → ℕ → List ℕ → Option Cut
escape_by quote escape digit byte later =
    elim (quote || escape) [
      | true ↦ longer_if byte (string_from c.Plain later)
      | false ↦ elim digit [ true ↦ string_from (c.Octal 1 (byte - 48)) later | false ↦ None ]
    ]

pub escape_quote : (byte : ℕ) → byte ≡ 34 → (later : List ℕ) → string_from c.Escape (byte ∷ later) ≡ continued (effect.Gives byte) later
unfolding escape_by continued
escape_quote byte is later = subst (λ b. string_from c.Escape (b ∷ later) ≡ continued (effect.Gives b) later) (sym is) refl

pub escape_escape : (byte : ℕ) → byte ≡ 92 → (later : List ℕ) → string_from c.Escape (byte ∷ later) ≡ continued (effect.Gives byte) later
unfolding escape_by continued
escape_escape byte is later = subst (λ b. string_from c.Escape (b ∷ later) ≡ continued (effect.Gives b) later) (sym is) refl

pub escape_digit : (byte digit : ℕ) → (byte ≡ 34 → ⊥) → (byte ≡ 92 → ⊥) → is_digit_below 4 byte ≡ true → digit ≡ byte - 48 → (later : List ℕ)
    → string_from c.Escape (byte ∷ later) ≡ continued (effect.Awaits (awaited.SecondDigit digit)) later
unfolding escape_by continued seen_awaited
escape_digit byte digit quote escape h is later =
    ap (λ z. escape_by z (nat_eq byte 92) (is_digit_below 4 byte) byte later) (ne_eqb byte 34 quote)
    ∙ ap (λ z. escape_by false z (is_digit_below 4 byte) byte later) (ne_eqb byte 92 escape)
    ∙ ap (λ z. escape_by false false z byte later) h ∙ ap (λ n. string_from (c.Octal 1 n) later) (sym is)

pub escape_fails : (byte : ℕ) → (byte ≡ 34 → ⊥) → (byte ≡ 92 → ⊥) → is_digit_below 4 byte ≡ false → (later : List ℕ)
    → string_from c.Escape (byte ∷ later) ≡ continued effect.Fails later
unfolding escape_by continued
escape_fails byte quote escape h later =
    ap (λ z. escape_by z (nat_eq byte 92) (is_digit_below 4 byte) byte later) (ne_eqb byte 34 quote)
    ∙ ap (λ z. escape_by false z (is_digit_below 4 byte) byte later) (ne_eqb byte 92 escape)
    ∙ ap (λ z. escape_by false false z byte later) h

octal_by : Bool → Option Cut → Option Cut
octal_by digit cut = elim digit [ true ↦ cut | false ↦ None ]

pub second_digit : (value byte next : ℕ) → is_digit_below 8 byte ≡ true → next ≡ 8 * value + (byte - 48) → (later : List ℕ)
    → string_from (c.Octal 1 value) (byte ∷ later) ≡ continued (effect.Awaits (awaited.ThirdDigit next)) later
unfolding octal_by continued seen_awaited
second_digit value byte next h is later =
    ap (λ z. octal_by z (string_from (c.Octal 0 (8 * value + (byte - 48))) later)) h ∙ ap (λ n. string_from (c.Octal 0 n) later) (sym is)

pub second_fails : (value byte : ℕ) → is_digit_below 8 byte ≡ false → (later : List ℕ) → string_from (c.Octal 1 value) (byte ∷ later) ≡ continued effect.Fails later
unfolding octal_by continued
second_fails value byte h later = ap (λ z. octal_by z (string_from (c.Octal 0 (8 * value + (byte - 48))) later)) h

pub third_digit : (value byte next : ℕ) → is_digit_below 8 byte ≡ true → next ≡ 8 * value + (byte - 48) → (later : List ℕ)
    → string_from (c.Octal 0 value) (byte ∷ later) ≡ continued (effect.Gives next) later
unfolding octal_by continued
third_digit value byte next h is later =
    ap (λ z. octal_by z (longer_if (8 * value + (byte - 48)) (string_from c.Plain later))) h ∙ ap (λ n. longer_if n (string_from c.Plain later)) (sym is)

pub third_fails : (value byte : ℕ) → is_digit_below 8 byte ≡ false → (later : List ℕ) → string_from (c.Octal 0 value) (byte ∷ later) ≡ continued effect.Fails later
unfolding octal_by continued
third_fails value byte h later = ap (λ z. octal_by z (longer_if (8 * value + (byte - 48)) (string_from c.Plain later))) h

pub digit_range : (bound byte : ℕ) → is_digit_below bound byte ≡ true → (48 ≤ byte) × (byte < 48 + bound)
digit_range bound byte h = grind (arith, nat_tests)

-- a quote is no digit
pub quote_no_digit : (bound byte : ℕ) → is_digit_below bound byte ≡ true → byte ≡ 34 → ⊥
quote_no_digit bound byte h is = let range = digit_range bound byte h in omega (arith, range.0, is)

-- ## The whole string

-- the reader of a string has passed the bytes before a place
pub record Stands (text bytes : List ℕ) (now : Awaited) (at : ℕ) : Type 0 where
  pub start : string_from c.Plain text ≡ behind bytes (string_from (seen_awaited now) (drop at text))
  pub within : IsWithin now
  pub quotes : (i : ℕ) → i < at → get_or text i 0 ≡ 34 → string_from (seen_awaited now) (drop at text) ≡ None → string_from c.Plain (drop (suc i) text) ≡ None

-- what a byte does in each text
abbrev pub Does : Awaited → ℕ → Effect → Type 0
Does now byte what = (later : List ℕ) → string_from (seen_awaited now) (byte ∷ later) ≡ continued what later

pub stands_first : (text bytes : List ℕ) → bytes ≡ [] → Stands text bytes awaited.Plain 0
unfolding seen_awaited
stands_first text bytes none = subst (λ l. Stands text l awaited.Plain 0) (sym none) (record {
  start = sym (behind-nothing (string_from c.Plain text));
  within = tt;
  quotes = λ i below quote unended. absurd (omega (arith, below));
})

does_at : (text : List ℕ) (now : Awaited) (at : ℕ) (what : Effect) → at < length text → Does now (get_or text at 0) what
    → string_from (seen_awaited now) (drop at text) ≡ continued what (drop (suc at) text)
does_at text now at what below does = ap (λ l. string_from (seen_awaited now) l) (drop-cons text at 0 below) ∙ does (drop (suc at) text)

awaits_suc : (text bytes : List ℕ) (now next : Awaited) (at : ℕ) → Stands text bytes now at → at < length text
    → Does now (get_or text at 0) (effect.Awaits next) → IsWithin next → (get_or text at 0 ≡ 34 → ⊥) → Stands text bytes next (suc at)
unfolding continued
awaits_suc text bytes now next at stands below does small other =
    let there : string_from (seen_awaited now) (drop at text) ≡ string_from (seen_awaited next) (drop (suc at) text) = does_at text now at (effect.Awaits next) below does in
    record {
      start = stands.start ∙ ap (λ cut. behind bytes cut) there;
      within = small;
      quotes = λ i low quote unended. by i low quote unended there (cases_lt i at);
    }
  where
    by : (i : ℕ) → i < suc at → get_or text i 0 ≡ 34 → string_from (seen_awaited next) (drop (suc at) text) ≡ None
        → string_from (seen_awaited now) (drop at text) ≡ string_from (seen_awaited next) (drop (suc at) text)
        → (i < at) ⊎ (at ≤ i) → string_from c.Plain (drop (suc i) text) ≡ None
    by i low quote unended there (inl less) = stands.quotes i less quote (there ∙ unended)
    by i low quote unended there (inr more) =
        let same : i ≡ at = omega (arith, low, more) in absurd (other (ap (λ n. get_or text n 0) (sym same) ∙ quote))

pub stands_awaits : (text bytes : List ℕ) (now next : Awaited) (at after : ℕ) → Stands text bytes now at → at < length text → after ≡ suc at
    → Does now (get_or text at 0) (effect.Awaits next) → IsWithin next → (get_or text at 0 ≡ 34 → ⊥) → Stands text bytes next after
stands_awaits text bytes now next at after stands below on does small other =
    subst (λ n. Stands text bytes next n) (sym on) (awaits_suc text bytes now next at stands below does small other)

gives_suc : (text bytes : List ℕ) (now : Awaited) (given at : ℕ) → Stands text bytes now at → at < length text
    → Does now (get_or text at 0) (effect.Gives given) → Stands text (bytes ++ (given ∷ [])) awaited.Plain (suc at)
unfolding continued seen_awaited
gives_suc text bytes now given at stands below does =
    let there : string_from (seen_awaited now) (drop at text) ≡ longer_if given (string_from c.Plain (drop (suc at) text)) = does_at text now at (effect.Gives given) below does in
    record {
      start = stands.start ∙ ap (λ cut. behind bytes cut) there ∙ behind-longer bytes given (string_from c.Plain (drop (suc at) text));
      within = tt;
      quotes = λ i low quote unended. by i low quote unended there (cases_lt i at);
    }
  where
    by : (i : ℕ) → i < suc at → get_or text i 0 ≡ 34 → string_from c.Plain (drop (suc at) text) ≡ None
        → string_from (seen_awaited now) (drop at text) ≡ longer_if given (string_from c.Plain (drop (suc at) text))
        → (i < at) ⊎ (at ≤ i) → string_from c.Plain (drop (suc i) text) ≡ None
    by i low quote unended there (inl less) = stands.quotes i less quote (there ∙ ap (λ cut. longer_if given cut) unended)
    by i low quote unended there (inr more) =
        let same : i ≡ at = omega (arith, low, more) in ap (λ n. string_from c.Plain (drop (suc n) text)) same ∙ unended

pub stands_gives : (text bytes longer : List ℕ) (now : Awaited) (given at after : ℕ) → Stands text bytes now at → at < length text → after ≡ suc at
    → longer ≡ bytes ++ (given ∷ []) → Does now (get_or text at 0) (effect.Gives given) → Stands text longer awaited.Plain after
stands_gives text bytes longer now given at after stands below on more does =
    subst (λ n. Stands text longer awaited.Plain n) (sym on) (subst (λ l. Stands text l awaited.Plain (suc at)) (sym more) (gives_suc text bytes now given at stands below does))

closed_suc : (text bytes : List ℕ) (now : Awaited) (at : ℕ) → Stands text bytes now at → at < length text → Does now (get_or text at 0) effect.Ends → IsClosed text bytes (suc at)
unfolding continued
closed_suc text bytes now at stands below does = record {
  value = stands.start ∙ ap (λ cut. behind bytes cut) (does_at text now at effect.Ends below does)
      ∙ ap (λ l. some_cut l (drop (suc at) text)) (append-nil bytes);
  within = below;
}

pub closed : (text bytes : List ℕ) (now : Awaited) (at after : ℕ) → Stands text bytes now at → at < length text → after ≡ suc at → Does now (get_or text at 0) effect.Ends
    → IsClosed text bytes after
closed text bytes now at after stands below on does = subst (λ n. IsClosed text bytes n) (sym on) (closed_suc text bytes now at stands below does)

unclosed : (text bytes : List ℕ) (now : Awaited) (at : ℕ) → Stands text bytes now at → at ≤ length text → string_from (seen_awaited now) (drop at text) ≡ None → IsUnclosed text at
unclosed text bytes now at stands low none = record {
  value = stands.start ∙ ap (λ cut. behind bytes cut) none;
  quotes = λ i below quote. stands.quotes i below quote none;
  within = low;
}

pub failed : (text bytes : List ℕ) (now : Awaited) (at : ℕ) → Stands text bytes now at → at < length text → Does now (get_or text at 0) effect.Fails → IsUnclosed text at
unfolding continued
failed text bytes now at stands below does = unclosed text bytes now at stands (omega (arith, below)) (does_at text now at effect.Fails below does)

at_the_end : (now : Awaited) → string_from (seen_awaited now) [] ≡ None
unfolding seen_awaited
at_the_end awaited.Plain = refl
at_the_end awaited.Escape = refl
at_the_end (awaited.SecondDigit value) = refl
at_the_end (awaited.ThirdDigit value) = refl

pub ended : (text bytes : List ℕ) (now : Awaited) (at : ℕ) → Stands text bytes now at → length text ≡ at → IsUnclosed text at
ended text bytes now at stands all =
    unclosed text bytes now at stands (omega (arith, all)) (ap (λ l. string_from (seen_awaited now) l) (drop_all at text (omega (arith, all))) ∙ at_the_end now)
