-- The reader of cases at numbers of cases that code counts down.
use Rattle.std.proofs.Common.{◌≡◌, refl, sym, ap, ◌∙◌, ℕ, zero, suc, ◌-◌, ◌<◌, Bool, true, false, ◌&&◌, codes, bytes_eq, List, [], ◌∷◌, ◌++◌, Option, Some, Ok, Err, if◌then◌else◌, arith}
use Rattle.c_tree.specs.declared.statement.CCase.{CCase}
use Rattle.c_tree.specs.Tokens.{Word, Digits, Quoted, Sign, Including, Bad}
use Rattle.c_readers.specs.Readers.{Tokens, Reader, found, refused, ◌>>=◌}
use Rattle.c_statement_readers.specs.CaseReader.{leaves_number, case_of, one_case, cases_by_word, cases_by_sign, cases}
use Rattle.c_statement_reader.specs.Endings.{case_ending}

-- the rest of the cases, where they end there or not
abbrev pub case_or : Reader CCase → (CCase → Reader (List CCase)) → List CCase → Bool → Reader (List CCase)
case_or one again items true = found items
case_or one again items false = λ tokens. one tokens >>= again

by-word : (again : CCase → Reader (List CCase)) (stand : List (List ℕ)) (items : List CCase) (text : List ℕ) (more : Tokens) (does : Bool)
    → cases_by_word again stand items text more does
    ≡ ((if does then found false more else refused (Word text ∷ more)) >>= case_or (one_case stand items) again items)
unfolding cases_by_word
by-word again stand items text more true = refl
by-word again stand items text more false = refl

by-sign : (again : CCase → Reader (List CCase)) (stand : List (List ℕ)) (items : List CCase) (text : List ℕ) (more : Tokens) (closes : Bool)
    → cases_by_sign items text more closes
    ≡ ((if closes then found true more else refused (Sign text ∷ more)) >>= case_or (one_case stand items) again items)
unfolding cases_by_sign
by-sign again stand items text more true = refl
by-sign again stand items text more false = refl

step : (count : ℕ) (stand : List (List ℕ)) (items : List CCase) (tokens : Tokens)
    → cases (suc count) stand items tokens
    ≡ (case_ending items tokens >>= case_or (one_case stand items) (λ one. cases count stand (items ++ (one ∷ []))) items)
unfolding cases case_ending
step count stand items [] = refl
step count stand items (Word text ∷ more) =
    by-word (λ one. cases count stand (items ++ (one ∷ []))) stand items text more (bytes_eq text (codes "case") && leaves_number items)
step count stand items (Sign text ∷ more) = by-sign (λ one. cases count stand (items ++ (one ∷ []))) stand items text more (bytes_eq text (codes "}"))
step count stand items (Digits n ∷ more) = refl
step count stand items (Quoted bytes ∷ more) = refl
step count stand items (Including ∷ more) = refl
step count stand items (Bad ∷ more) = refl

pub cases-step : (count : ℕ) (stand : List (List ℕ)) (items : List CCase) (tokens : Tokens) → 0 < count
    → cases count stand items tokens
    ≡ (case_ending items tokens >>= case_or (one_case stand items) (λ one. cases (count - 1) stand (items ++ (one ∷ []))) items)
cases-step zero stand items tokens h = absurd (omega arith)
cases-step (suc count) stand items tokens h = let e : suc count - 1 ≡ count = omega arith in rw e (step count stand items tokens)

-- a case more, with the same labels
pub cases-onward : (count left n : ℕ) (label : List ℕ) (stand before now : List (List ℕ)) (items more : List CCase) (tokens rest behind last : Tokens) → 0 < left
    → cases count stand [] tokens ≡ cases left before items rest → case_ending items rest ≡ Some (Ok (false, behind))
    → one_case before items behind ≡ Some (Ok (case_of n label, last)) → now ≡ before → more ≡ items ++ case_of n label ∷ []
    → cases count stand [] tokens ≡ cases (left - 1) now more last
cases-onward count left n label stand before now items more tokens rest behind last h so goes one same is =
    so ∙ (cases-step left before items rest h
    ∙ (ap (λ z. z >>= case_or (one_case before items) (λ one. cases (left - 1) before (items ++ (one ∷ []))) items) goes
    ∙ (ap (λ z. z >>= (λ one. cases (left - 1) before (items ++ (one ∷ [])))) one
    ∙ (λ i. cases (left - 1) (sym same i) (sym is i) last))))

pub ruleset case_steps = cases-step
