-- Cases that are spelled are read.
use Rattle.std.proofs.Common.{◌≡◌, refl, sym, ap, ◌∙◌, subst, ℕ, suc, ◌≤◌, ◌<◌, nat_le, le-leb, ℤ, pos, true, false, not, List, [], ◌∷◌, ◌++◌, append_assoc, append-nil, length, length-append, codes, arith}
use Rattle.std.specs.List.{list_all}
use Rattle.std.proofs.lemmas.Bool.{and_from}
use Rattle.std.proofs.lemmas.List.{map-append, length-map}
use Rattle.c_grammar_laws.specs.c_tree.declared.statement.CCase.{CCase}
use Rattle.c_grammar_laws.specs.c_tree.Tokens.{Digits}
use Rattle.c_grammar_laws.specs.c_tree.CWords.{AWord, ASign, Next}
use Rattle.c_grammar_laws.specs.c_tree.CStatementText as form
use Rattle.c_grammar_laws.specs.c_tree.CStatementText.{ReadsCases, has_twice, case_numbers}
use Rattle.c_grammar_laws.specs.c_readers.Readers.{Tokens, found, ◌>>=◌}
use Rattle.c_grammar_laws.specs.c_readers.ValueReader.{is_within}
use Rattle.c_grammar_laws.specs.grammar.Exactness.{Eventually}
use Rattle.c_grammar_laws.proofs.TokenReads.{sign-read, word-read, name-read}
use Rattle.c_grammar_laws.proofs.ValueGood.{number-read}
use Rattle.c_grammar_laws.proofs.ExpressionComplete.{later}
use Rattle.c_statement_readers.specs.LabelTests.{may_be_named}
use Rattle.c_statement_readers.specs.CaseReader.{is_new_number, leaves_number, case_of, one_case, cases_by_word, cases_by_sign, cases}
use Rattle.c_statement_laws.proofs.LabelLaws.{both-true, case_labels}
use Rattle.c_statement_laws.proofs.NewNumbers.{among, Below, none, one, twice-front, twice-new, within-limit}
use Rattle.c_statement_laws.proofs.CaseGood.{numbers-push}

-- ## Numbers that are left

below-push : (limit : ℕ) (numbers : List ℤ) (n : ℕ) → n < limit → Below limit numbers → Below limit (numbers ++ (pos n ∷ []))
below-push limit _ n low none = one n low none
below-push limit _ n low (one m {numbers = more} first all) = one m first (below-push limit more n low all)

few-left : (limit : ℕ) (numbers : List ℤ) (n : ℕ) → n ≤ limit → Below (suc limit) numbers → has_twice (numbers ++ (pos n ∷ [])) ≡ false → length numbers ≤ limit
few-left limit numbers n low all once =
    let k = within-limit (suc limit) (numbers ++ (pos n ∷ [])) (below-push (suc limit) numbers n (omega (arith, low)) all) once in
    let long = length-append numbers (pos n ∷ []) in
    omega (arith, k, long)

leaves : (limit : ℕ) (items : List CCase) → length (case_numbers items) ≤ limit → nat_le (length items) limit ≡ true
leaves limit items few = le-leb (length items) limit (subst (λ z. z ≤ limit) (length-map items (λ (case : CCase). case.number)) few)

module _ (stand : List (List ℕ)) where
  one-read : (items : List CCase) (n : ℕ) (label : List ℕ) (q r s t u v : Tokens) → is_new_number items n ≡ true → may_be_named stand label ≡ true
      → Next (Digits n) q r → ASign (codes ":") r s → AWord (codes "goto") s t → AWord label t u → ASign (codes ";") u v
      → one_case stand items q ≡ found (case_of n label) v
  unfolding one_case
  one-read items n label q r s t u v new may number colon jumps named ends =
      rw (number-read (is_new_number items) n q r new number)
      (rw (sign-read (codes ":") r s colon)
      (rw (word-read (codes "goto") s t jumps) (rw (name-read (may_be_named stand) label t u may named) (rw (sign-read (codes ";") u v ends) refl))))

  more-step : (count : ℕ) (items : List CCase) (made : CCase) (p q v : Tokens) → AWord (codes "case") p q → leaves_number items ≡ true → one_case stand items q ≡ found made v
      → cases (suc count) stand items p ≡ cases count stand (items ++ (made ∷ [])) v
  unfolding cases cases_by_word
  more-step count items made p q v is left h =
      ap (cases (suc count) stand items) is
      ∙ (ap (cases_by_word (λ x. cases count stand (items ++ (x ∷ []))) stand items (codes "case") q) left ∙ ap (λ z. z >>= (λ x. cases count stand (items ++ (x ∷ [])))) h)

  last-step : (count : ℕ) (items : List CCase) (p q : Tokens) → ASign (codes "}") p q → cases (suc count) stand items p ≡ found items q
  unfolding cases cases_by_sign
  last-step count items p q is = ap (cases (suc count) stand items) is

  abbrev CasesRead : List CCase → List CCase → Tokens → Tokens → Type 0
  CasesRead items all p q = Eventually (λ count. cases count stand items p ≡ found (items ++ all) q)

  numbers-more : (items : List CCase) (n : ℕ) (label : List ℕ) (more : List CCase) → case_numbers (items ++ (case_of n label ∷ more)) ≡ case_numbers items ++ (pos n ∷ case_numbers more)
  numbers-more items n label more = map-append (λ (case : CCase). case.number) items (case_of n label ∷ more)

  is-new : (items : List CCase) (n : ℕ) (label : List ℕ) (more : List CCase) → n ≤ 2147483647 → has_twice (case_numbers (items ++ (case_of n label ∷ more))) ≡ false
      → is_new_number items n ≡ true
  is-new items n label more small once =
      and_from (is_within n) (not (among (pos n) (case_numbers items))) (le-leb n 2147483647 small)
      (ap not (twice-new (case_numbers items) (case_numbers more) (pos n) (sym (ap has_twice (numbers-more items n label more)) ∙ once)))

  left-by : (limit : ℕ) (items : List CCase) (n : ℕ) (label : List ℕ) (more : List CCase) → n ≤ limit → Below (suc limit) (case_numbers items)
      → has_twice (case_numbers (items ++ (case_of n label ∷ more))) ≡ false → nat_le (length items) limit ≡ true
  left-by limit items n label more small all once =
      leaves limit items
      (few-left limit (case_numbers items) n small all
      (twice-front (case_numbers items ++ (pos n ∷ [])) (case_numbers more)
      (ap has_twice (append_assoc (case_numbers items) (pos n ∷ []) (case_numbers more)) ∙ (sym (ap has_twice (numbers-more items n label more)) ∙ once))))

  pub cases-read : (all : List CCase) (p q : Tokens) → ReadsCases all p q → (items : List CCase) → has_twice (case_numbers (items ++ all)) ≡ false
      → list_all (may_be_named stand) (case_labels all) ≡ true → Below 2147483648 (case_numbers items) → CasesRead items all p q
  cases-read _ _ _ (form.no_case {p = p} {q = q} closes) items once named below =
      later {P = λ n. Unit {0}} (λ count u. last-step count items p q closes ∙ ap (λ z. found z q) (sym (append-nil items))) (record { first = 0; holds = λ n h. tt })
  cases-read _ _ _ (form.one_case n label {later = more} {p = p} {q = q} {r = r} {s = s} {t = t} {u = u} {v = v} {w = w} small is number colon jumps name ends rest) items once named below =
      let k = both-true (may_be_named stand label) (list_all (may_be_named stand) (case_labels more)) named in
      let after = cases-read more v w rest (items ++ (case_of n label ∷ []))
      (subst (λ z. has_twice (case_numbers z) ≡ false) (sym (append_assoc items (case_of n label ∷ []) more)) once) k.1
      (subst (Below 2147483648) (sym (numbers-push items (case_of n label))) (below-push 2147483648 (case_numbers items) n (omega (arith, small)) below)) in
      later
      (λ count h. more-step count items (case_of n label) p q v is (left-by 2147483647 items n label more small below once)
      (one-read items n label q r s t u v (is-new items n label more small once) k.0 number colon jumps name ends)
      ∙ (h ∙ ap (λ z. found z w) (append_assoc items (case_of n label ∷ []) more))) after
