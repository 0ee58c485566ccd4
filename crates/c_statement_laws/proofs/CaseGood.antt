-- The cases of a switch are read as they stand.
use Rattle.std.proofs.Common.{◌≡◌, refl, sym, ap, ◌∙◌, subst, ℕ, zero, suc, ◌≤◌, le_refl, nat_le, leb-true, le-leb, ℤ, pos, Bool, true, false, not, ◌&&◌, List, [], ◌∷◌, ◌++◌, append_assoc, append-nil, length, codes, bytes_eq, arith}
use Rattle.std.specs.List.{list_all, list_any}
use Rattle.std.specs.Ordering.{int_eq}
use Rattle.std.proofs.lemmas.Bool.{and_from}
use Rattle.std.proofs.lemmas.List.{map-append, length-map}
use Rattle.c_grammar_laws.specs.c_tree.declared.statement.CCase.{CCase}
use Rattle.c_grammar_laws.specs.c_tree.Tokens.{Word, Sign}
use Rattle.c_grammar_laws.specs.c_tree.CWords.{ASign}
use Rattle.c_grammar_laws.specs.c_tree.CStatementText as text
use Rattle.c_grammar_laws.specs.c_tree.CStatementText.{ReadsCases, has_twice, case_numbers}
use Rattle.c_grammar_laws.specs.c_readers.Readers.{Tokens, Reader, ◌>>=◌}
use Rattle.c_grammar_laws.specs.c_readers.ValueReader.{is_within}
use Rattle.c_grammar_laws.specs.grammar.Exactness.{Filled, Judged, Good}
use Rattle.c_grammar_laws.proofs.grammar.Judging.{in_turn, in_turn_of, good-as, good-found, judged-fewer, behind-token, refuses, refuses-end, takes-one}
use Rattle.c_grammar_laws.proofs.TokenGood.{equal-texts, OneSign, good-sign, OneWord, good-word, OneName, good-name}
use Rattle.c_grammar_laws.proofs.ValueGood.{OneNumber, good-number, is-within}
use Rattle.c_grammar_laws.proofs.FreshNames.{fresh_name, fresh-named, fresh-absent}
use Rattle.c_statement_readers.specs.LabelTests.{may_be_named}
use Rattle.c_statement_readers.specs.CaseReader.{is_new_number, leaves_number, case_of, one_case, cases_by_word, cases_by_sign, cases}
use Rattle.c_statement_laws.proofs.LabelLaws.{both-true, may-be-named, absent-times, case_labels}
use Rattle.c_statement_laws.proofs.NewNumbers.{among, absent, twice-push}

-- some name may be named
pub fresh-may : (stand : List (List ℕ)) → may_be_named stand (fresh_name stand) ≡ true
fresh-may stand =
    may-be-named stand (fresh_name stand)
    (let none = absent-times (fresh_name stand) stand (fresh-absent stand) in record { named = fresh-named stand; few = omega (arith, none) })

not-true : (b : Bool) → not b ≡ true → b ≡ false
not-true true h = sym h
not-true false h = refl

-- while not all numbers stand, there is a new one
fresh-by : (limit : ℕ) (numbers : List ℤ) → length numbers ≤ limit → (n : ℕ) → n ≤ limit → among (pos n) numbers ≡ false
    → (nat_le n limit && not (list_any (int_eq (pos n)) numbers)) ≡ true
fresh-by limit numbers few n small new = and_from (nat_le n limit) (not (among (pos n) numbers)) (le-leb n limit small) (ap not new)

abbrev limit : ℕ
limit = 2147483647

pub few-cases : (items : List CCase) → leaves_number items ≡ true → length (case_numbers items) ≤ limit
few-cases items h = subst (λ z. z ≤ limit) (sym (length-map items (λ (case : CCase). case.number))) (leb-true (length items) limit h)

pub new_number : (items : List CCase) → leaves_number items ≡ true → ℕ
new_number items h = (absent limit (case_numbers items) (few-cases items h)).n

pub new-is : (items : List CCase) (h : leaves_number items ≡ true) → is_new_number items (new_number items h) ≡ true
unfolding new_number
new-is items h =
    let a = absent limit (case_numbers items) (few-cases items h) in fresh-by limit (case_numbers items) (few-cases items h) a.n a.small a.new

pub record IsNewNumber (items : List CCase) (n : ℕ) : Type 0 where
  pub small : n ≤ 2147483647
  pub new : among (pos n) (case_numbers items) ≡ false

pub is-new-number : (items : List CCase) (n : ℕ) → is_new_number items n ≡ true → IsNewNumber items n
is-new-number items n h =
    let k = both-true (is_within n) (not (among (pos n) (case_numbers items))) h in
    record { small = is-within n k.0; new = not-true (among (pos n) (case_numbers items)) k.1 }

-- one more case
pub numbers-push : (items : List CCase) (one : CCase) → case_numbers (items ++ (one ∷ [])) ≡ case_numbers items ++ (one.number ∷ [])
numbers-push items one = map-append (λ (case : CCase). case.number) items (one ∷ [])

module _ (stand : List (List ℕ)) where
  -- A case behind others.
  pub record CaseIs (items : List CCase) (one : CCase) (p q : Tokens) : Type 0 where
    pub n : ℕ
    pub label : List ℕ
    pub is : one ≡ case_of n label
    pub fresh : IsNewNumber items n
    pub named : may_be_named stand label ≡ true
    pub reads : (later : List CCase) (r : Tokens) → ReadsCases later q r → ReadsCases (case_of n label ∷ later) (Word (codes "case") ∷ p) r

  good-one-case : {nests : ℕ} (items : List CCase) → leaves_number items ≡ true → Good nests (CaseIs items) (one_case stand items) (one_case stand items)
  unfolding one_case
  good-one-case items leaves =
      in_turn {First = OneNumber (is_new_number items)} (good-number (is_new_number items) (new_number items leaves) (new-is items leaves))
      (λ n. in_turn {First = OneSign (codes ":")} (good-sign (codes ":"))
      (λ u. in_turn {First = OneWord (codes "goto")} (good-word (codes "goto"))
      (λ v. in_turn {First = OneName (may_be_named stand)} (good-name (may_be_named stand) (fresh_name stand) (fresh-may stand))
      (λ label. in_turn {First = OneSign (codes ";")} (good-sign (codes ";"))
      (λ w. good-found (case_of n label) (λ q p4 ends p3 named p2 jumps p1 colon p0 number. record {
        n = n;
        label = label;
        is = refl;
        fresh = is-new-number items n number.passed;
        named = named.passed;
        reads = λ later r more. text.one_case n label (is-new-number items n number.passed).small refl number.is colon jumps named.is ends more;
      }))))))

  -- Cases behind others, up to the closing brace.
  pub record CasesBehind (items all : List CCase) (p q : Tokens) : Type 0 where
    pub later : List CCase
    pub whole : all ≡ items ++ later
    pub reads : ReadsCases later p q
    pub once : has_twice (case_numbers all) ≡ false
    pub named : list_all (may_be_named stand) (case_labels later) ≡ true

  none-behind : (items : List CCase) → has_twice (case_numbers items) ≡ false → (p q : Tokens) → ASign (codes "}") p q → CasesBehind items items p q
  none-behind items once p q closes = record { later = []; whole = sym (append-nil items); reads = text.no_case closes; once = once; named = refl }

  more-behind : (items : List CCase) (one : CCase) (all : List CCase) (p q r : Tokens) → CaseIs items one p q → CasesBehind (items ++ (one ∷ [])) all q r
      → CasesBehind items all (Word (codes "case") ∷ p) r
  more-behind items one all p q r c more = record {
    later = one ∷ more.later;
    whole = more.whole ∙ append_assoc items (one ∷ []) more.later;
    reads = subst (λ z. ReadsCases (z ∷ more.later) (Word (codes "case") ∷ p) r) (sym c.is) (c.reads more.later r more.reads);
    once = more.once;
    named = and_from (may_be_named stand one.label) (list_all (may_be_named stand) (case_labels more.later))
        (subst (λ z. may_be_named stand z ≡ true) (sym (ap (λ (z : CCase). z.label) c.is)) c.named) more.named;
  }

  push-once : (items : List CCase) (one : CCase) (p q : Tokens) → has_twice (case_numbers items) ≡ false → CaseIs items one p q
      → has_twice (case_numbers (items ++ (one ∷ []))) ≡ false
  push-once items one p q once c =
      ap has_twice (numbers-push items one)
      ∙ twice-push (case_numbers items) one.number once (subst (λ z. among z (case_numbers items) ≡ false) (sym (ap (λ (z : CCase). z.number) c.is)) c.fresh.new)

  module _ (nests fewer : ℕ) (items : List CCase) (once : has_twice (case_numbers items) ≡ false) (again above : CCase → Reader (List CCase)) (least : nests ≤ suc fewer)
      (good : (one : CCase) → has_twice (case_numbers (items ++ (one ∷ []))) ≡ false → Good fewer (CasesBehind (items ++ (one ∷ []))) (again one) (above one))
      (read : Reader (List CCase)) (at_word : (word : List ℕ) (p : Tokens) → read (Word word ∷ p) ≡ cases_by_word above stand items word p (bytes_eq word (codes "case") && leaves_number items))
      (at_sign : (sign : List ℕ) (p : Tokens) → read (Sign sign ∷ p) ≡ cases_by_sign items sign p (bytes_eq sign (codes "}"))) where
    cases-able : Filled (CasesBehind items) []
    cases-able = record { later = Sign (codes "}") ∷ []; tree = items; spelled = λ behind. none-behind items once (Sign (codes "}") ∷ behind) behind refl }

    abbrev BehindCase : List CCase → Tokens → Tokens → Type 0
    BehindCase all p q = CasesBehind items all (Word (codes "case") ∷ p) q

    good-case-and-more : leaves_number items ≡ true → Good fewer BehindCase (λ more. one_case stand items more >>= again) (λ more. one_case stand items more >>= above)
    good-case-and-more leaves =
        in_turn_of {First = CaseIs items} (good-one-case items leaves)
        (λ one p0 q0 is. good-as (λ all q r more p case. more-behind items one all p q r case more) (good one (push-once items one p0 q0 once is)))

    by-word : (word : List ℕ) (behind : Tokens) (does : Bool) → (bytes_eq word (codes "case") && leaves_number items) ≡ does
        → Judged nests (CasesBehind items) read (Word word ∷ behind) (cases_by_word again stand items word behind does)
    unfolding cases_by_word
    by-word word behind true h =
        let k = both-true (bytes_eq word (codes "case")) (leaves_number items) h in
        judged-fewer (CasesBehind items) read nests (suc fewer) (Word word ∷ behind) least (one_case stand items behind >>= again)
        (behind-token BehindCase (CasesBehind items) (λ more. one_case stand items more >>= above) read fewer (Word word) behind
        (λ all p q spelled. subst (λ z. CasesBehind items all (Word z ∷ p) q) (sym (equal-texts word (codes "case") k.0)) spelled)
        (λ p. at_word word p ∙ ap (cases_by_word above stand items word p) h) (one_case stand items behind >>= again) ((good-case-and-more k.1).judged behind))
    by-word word behind false h = refuses nests (Word word) behind cases-able (λ p. at_word word p ∙ ap (cases_by_word above stand items word p) h)

    by-sign : (sign : List ℕ) (behind : Tokens) (does : Bool) → bytes_eq sign (codes "}") ≡ does
        → Judged nests (CasesBehind items) read (Sign sign ∷ behind) (cases_by_sign items sign behind does)
    unfolding cases_by_sign
    by-sign sign behind true h =
        takes-one nests items (Sign sign) behind (λ p. none-behind items once (Sign sign ∷ p) p (ap (λ z. Sign z ∷ p) (equal-texts sign (codes "}") h)))
        (λ p. at_sign sign p ∙ ap (cases_by_sign items sign p) h)
    by-sign sign behind false h = refuses nests (Sign sign) behind cases-able (λ p. at_sign sign p ∙ ap (cases_by_sign items sign p) h)

  module _ (nests fewer count most : ℕ) (items : List CCase) (once : has_twice (case_numbers items) ≡ false) (least : nests ≤ suc fewer)
      (good : (one : CCase) → has_twice (case_numbers (items ++ (one ∷ []))) ≡ false
      → Good fewer (CasesBehind (items ++ (one ∷ []))) (cases count stand (items ++ (one ∷ []))) (cases most stand (items ++ (one ∷ [])))) where
    abbrev further : ℕ → CCase → Reader (List CCase)
    further many one = cases many stand (items ++ (one ∷ []))

    more-judged : (tokens : Tokens) → Judged nests (CasesBehind items) (cases (suc most) stand items) tokens (cases (suc count) stand items tokens)
    unfolding cases
    more-judged [] =
        refuses-end nests (cases-able nests fewer items once (further count) (further most) least good (cases (suc most) stand items) (λ word p. refl) (λ sign p. refl)) refl
    more-judged (Word word ∷ behind) =
        by-word nests fewer items once (further count) (further most) least good (cases (suc most) stand items) (λ word p. refl) (λ sign p. refl) word behind
        (bytes_eq word (codes "case") && leaves_number items) refl
    more-judged (Sign sign ∷ behind) =
        by-sign nests fewer items once (further count) (further most) least good (cases (suc most) stand items) (λ word p. refl) (λ sign p. refl) sign behind
        (bytes_eq sign (codes "}")) refl
    more-judged (token ∷ behind) =
        refuses nests token behind
        (cases-able nests fewer items once (further count) (further most) least good (cases (suc most) stand items) (λ word p. refl) (λ sign p. refl)) (λ p. refl)

    good-more : Good nests (CasesBehind items) (cases (suc count) stand items) (cases (suc most) stand items)
    unfolding cases
    good-more = record {
      able = cases-able nests fewer items once (further count) (further most) least good (cases (suc most) stand items) (λ word p. refl) (λ sign p. refl);
      judged = more-judged;
    }

  no-count : (nests most : ℕ) (items : List CCase) → nests ≤ 0 → has_twice (case_numbers items) ≡ false → Good nests (CasesBehind items) (cases zero stand items) (cases most stand items)
  unfolding cases
  no-count nests most items low once = record {
    able = record { later = Sign (codes "}") ∷ []; tree = items; spelled = λ behind. none-behind items once (Sign (codes "}") ∷ behind) behind refl };
    judged = λ tokens. omega (arith, low);
  }

  pub good-cases : (nests count most : ℕ) (items : List CCase) → nests ≤ count → count ≤ most → has_twice (case_numbers items) ≡ false
      → Good nests (CasesBehind items) (cases count stand items) (cases most stand items)
  good-cases nests zero most items low high once = no-count nests most items low once
  good-cases nests (suc count) zero items low high once = absurd (let h : suc count ≤ 0 = high in omega (arith, h))
  good-cases zero (suc count) (suc most) items low high once =
      good-more zero zero count most items once (omega arith) (λ one o. good-cases zero count most (items ++ (one ∷ [])) (omega arith) (omega (arith, high)) o)
  good-cases (suc nests) (suc count) (suc most) items low high once =
      good-more (suc nests) nests count most items once (le_refl (suc nests))
      (λ one o. good-cases nests count most (items ++ (one ∷ [])) (omega (arith, low)) (omega (arith, high)) o)
