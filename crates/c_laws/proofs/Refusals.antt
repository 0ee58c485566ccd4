-- Where texts are refused: at the first token, at what stands behind the include line, and at a byte that begins no
-- token, where what stands before it begins a file.
use Rattle.std.specs.Prelude.{◌≡◌, ℕ, zero, suc, Bool, true, false, ◌&&◌, List, [], ◌∷◌, ◌++◌, Option, Some, None}
use Rattle.std.proofs.Common.{refl, ap, sym, ◌∙◌, subst, true≢false}
use Rattle.c_tree.specs.declared.file.CObject.{CObject}
use Rattle.c_tree.specs.declared.file.CConstant.{CConstant}
use Rattle.c_tree.specs.declared.file.CFunction.{CFunction}
use Rattle.c_tree.specs.declared.file.CFile.{CFile}
use Rattle.c_tree.specs.Tokens.{Token, Including, Word, Bad, Placed, AreTokensOf, last_line}
use Rattle.c_tree.specs.CExpressionText.{Scope}
use Rattle.c_tree.specs.CDeclarationText.{ReadsObject, integers, chars}
use Rattle.c_tree.specs.CText.{ReadsFunction, a_function, ReadsFunctions, no_function, one_function, ReadsConstant, a_constant, ReadsParts, only_functions, one_constant, one_object, no_names, ReadsFile, kinds, Begins, at_a_token, at_the_end, RefusedLine}
use Rattle.c_laws.proofs.ExpressionReading.{◌>>=◌, fails, lex}
use Rattle.c_laws.proofs.TextReading.{FoundFile, read_file}
use Rattle.c_laws.proofs.CleanTokens.{clean, clean-file}

-- the end, or a word
abbrev pub starts : List Token → Bool
starts [] = true
starts (Word text ∷ later) = true
starts (other ∷ later) = false

pub function-starts : {scope : Scope} {one : CFunction} {p q : List Token} → ReadsFunction scope one p q → starts p ≡ true
function-starts (a_function of name h a b c params d e locals body) = ap starts a

pub functions-start : {scope : Scope} {here : List (List ℕ)} {all : List CFunction} {p : List Token} → ReadsFunctions scope here all p → starts p ≡ true
functions-start (no_function scope here) = refl
functions-start (one_function scope here one h later) = function-starts one

pub constant-starts : {one : CConstant} {p q : List Token} → ReadsConstant one p q → starts p ≡ true
constant-starts (a_constant name a b c d x e) = ap starts a

pub object-starts : {one : CObject} {name : List ℕ} {p q : List Token} → ReadsObject one name p q → starts p ≡ true
object-starts (integers name n a b c) = ap starts a
object-starts (chars name n a b c) = ap starts a

pub parts-start : {scope : Scope} {here : List (List ℕ)} {objects : List CObject} {constants : List CConstant} {functions : List CFunction} {p : List Token}
    → ReadsParts scope here objects constants functions p → starts p ≡ true
parts-start (only_functions scope here all) = functions-start all
parts-start (one_constant scope here one h later) = constant-starts one
parts-start (one_object scope here one h later) = object-starts one

-- whether the first token is the include line
abbrev pub includes : List Token → Bool
includes (Including ∷ later) = true
includes other = false

abbrev pub tail : List Token → List Token
tail [] = []
tail (first ∷ later) = later

-- whether some tokens have the include line at their head, a word behind it, and no bad token, as far as they go
abbrev pub may_begin : List Token → Bool
may_begin [] = true
may_begin (first ∷ front) = includes (first ∷ front) && (starts front && clean (first ∷ front))

pub clean-front : (front later : List Token) → clean (front ++ later) ≡ true → clean front ≡ true
clean-front [] later h = refl
clean-front (Bad ∷ front) later h = h
clean-front (other ∷ front) later h = clean-front front later h

pub starts-front : (front later : List Token) → starts (front ++ later) ≡ true → starts front ≡ true
starts-front [] later h = refl
starts-front (Word text ∷ front) later h = refl
starts-front (other ∷ front) later h = h

pub and-both : (a b c : Bool) → a ≡ true → b ≡ true → c ≡ true → (a && (b && c)) ≡ true
and-both a b c h k l = subst (λ x. (x && (b && c)) ≡ true) (sym h) (subst (λ y. (true && (y && c)) ≡ true) (sym k) l)

pub includes-head : (first : Token) (front later behind : List Token) → first ∷ later ≡ Including ∷ behind → includes (first ∷ front) ≡ true
includes-head Including front later behind h = refl
includes-head other front later behind h = ap includes h

-- tokens that begin a file pass the test
pub begins-may : (tokens : List Token) → Begins tokens → may_begin tokens ≡ true
begins-may [] begun = refl
begins-may (first ∷ front) begun =
    and-both
    (includes (first ∷ front))
    (starts front)
    (clean (first ∷ front))
    (includes-head first front (front ++ begun.later) begun.reads.behind begun.reads.including)
    (starts-front front begun.later (ap (λ z. starts (tail z)) begun.reads.including ∙ parts-start begun.reads.parts))
    (clean-front (first ∷ front) begun.later (clean-file begun.reads))

pub not-begun : (tokens : List Token) → may_begin tokens ≡ false → Begins tokens → ⊥
not-begun tokens h begun = true≢false (sym (begins-may tokens begun) ∙ h)

-- a token with those before it and behind it
pub record Split (tokens : List Placed) : Type 0 where
  pub front : List Placed
  pub first : Placed
  pub later : List Placed
  pub whole : tokens ≡ front ++ (first ∷ later)

-- the first token such that the tokens up to it fail the test, given those before
abbrev pub split : List Token → (tokens : List Placed) → Option (Split tokens)
split before [] = None
split before (one ∷ later) =
    elim (may_begin (before ++ (one.token ∷ []))) [
      | true ↦ split (before ++ (one.token ∷ [])) later >>= (λ s.
          Some (record { front = one ∷ s.front; first = s.first; later = s.later; whole = ap (λ z. one ∷ z) s.whole }))
      | false ↦ Some (record { front = []; first = one; later = later; whole = refl })
    ]

pub record FoundRefusal (bytes : List ℕ) : Type 0 where
  pub line : ℕ
  pub refused : RefusedLine bytes line

abbrev pub line_found : {bytes : List ℕ} → Option (FoundRefusal bytes) → ℕ
line_found None = 0
line_found (Some found) = found.line

abbrev pub is_found : {bytes : List ℕ} → Option (FoundRefusal bytes) → Bool
is_found None = false
is_found (Some found) = true

-- where a text is refused, given a text that completes what stands before
abbrev pub find_refusal : (bytes completion : List ℕ) → Option (FoundRefusal bytes)
find_refusal bytes completion =
    lex 1000 1 true bytes >>= (λ l. split [] l.tokens >>= (λ s. lex 1000 1 true completion >>= (λ c.
    read_file 1000 (kinds s.front ++ kinds c.tokens) >>= (λ file.
    fails (may_begin (kinds s.front ++ (s.first.token ∷ []))) >>= (λ h.
    Some (record {
      line = s.first.line;
      refused = record {
        tokens = l.tokens;
        lexed = l.are;
        refused =
            at_a_token
            s.front
            s.first
            s.later
            s.whole
            (record { later = kinds c.tokens; file = file.tree; reads = file.reads })
            (not-begun (kinds s.front ++ (s.first.token ∷ [])) h);
      };
    }))))))

pub refused_by : (bytes completion : List ℕ) → is_found (find_refusal bytes completion) ≡ true → RefusedLine bytes (line_found (find_refusal bytes completion))
refused_by bytes completion h = of_found (find_refusal bytes completion) h
  where
    of_found : (found : Option (FoundRefusal bytes)) → is_found found ≡ true → RefusedLine bytes (line_found found)
    of_found None k = absurd (true≢false (sym k))
    of_found (Some one) k = one.refused

-- a file of the include line alone
abbrev pub empty_file : FoundFile (Including ∷ [])
empty_file = record {
  tree = record { objects = []; constants = []; functions = [] };
  reads = record { behind = []; including = refl; parts = only_functions no_names [] (no_function no_names []) };
}

-- a text without a token is refused at its end
pub refused_empty : (bytes : List ℕ) → AreTokensOf bytes [] → RefusedLine bytes (last_line bytes)
refused_empty bytes lexed = record {
  tokens = [];
  lexed = lexed;
  refused =
      at_the_end
      (record { later = Including ∷ []; file = empty_file.tree; reads = empty_file.reads })
      (λ file reads. true≢false (sym (ap includes reads.including)));
}

-- the token behind so many, with those before it and behind it
abbrev pub split_at : ℕ → (tokens : List Placed) → Option (Split tokens)
split_at count [] = None
split_at zero (one ∷ later) = Some (record { front = []; first = one; later = later; whole = refl })
split_at (suc count) (one ∷ later) =
    split_at count later >>= (λ s. Some (record { front = one ∷ s.front; first = s.first; later = s.later; whole = ap (λ z. one ∷ z) s.whole }))

-- the tokens of a text, of which those before one begin a file
pub record Halved (bytes : List ℕ) : Type 0 where
  pub tokens : List Placed
  pub lexed : AreTokensOf bytes tokens
  pub at : Split tokens
  pub begun : Begins (kinds at.front)

abbrev pub halved : ℕ → (bytes completion : List ℕ) → Option (Halved bytes)
halved count bytes completion =
    lex 1000 1 true bytes >>= (λ l. split_at count l.tokens >>= (λ s. lex 1000 1 true completion >>= (λ c.
    read_file 1000 (kinds s.front ++ kinds c.tokens) >>= (λ file.
    Some (record { tokens = l.tokens; lexed = l.are; at = s; begun = record { later = kinds c.tokens; file = file.tree; reads = file.reads } })))))

-- the tokens up to the one that is refused, and its line
abbrev pub up_to : {bytes : List ℕ} → Option (Halved bytes) → List Token
up_to None = []
up_to (Some one) = kinds one.at.front ++ (one.at.first.token ∷ [])

abbrev pub line_at : {bytes : List ℕ} → Option (Halved bytes) → ℕ
line_at None = 0
line_at (Some one) = one.at.first.line

abbrev pub is_halved : {bytes : List ℕ} → Option (Halved bytes) → Bool
is_halved None = false
is_halved (Some one) = true

-- a text is refused at a token, given a text that completes what stands before and that nothing goes on behind it
pub refused_at : {bytes : List ℕ} (found : Option (Halved bytes)) → is_halved found ≡ true → (Begins (up_to found) → ⊥) → RefusedLine bytes (line_at found)
refused_at None h not = absurd (true≢false (sym h))
refused_at (Some one) h not = record {
  tokens = one.tokens;
  lexed = one.lexed;
  refused = at_a_token one.at.front one.at.first one.at.later one.at.whole one.begun not;
}

-- all tokens of a text, which begin a file
pub record CutShort (bytes : List ℕ) : Type 0 where
  pub tokens : List Placed
  pub lexed : AreTokensOf bytes tokens
  pub begun : Begins (kinds tokens)

abbrev pub cut_short : (bytes completion : List ℕ) → Option (CutShort bytes)
cut_short bytes completion =
    lex 1000 1 true bytes >>= (λ l. lex 1000 1 true completion >>= (λ c. read_file 1000 (kinds l.tokens ++ kinds c.tokens) >>= (λ file.
    Some (record { tokens = l.tokens; lexed = l.are; begun = record { later = kinds c.tokens; file = file.tree; reads = file.reads } }))))

abbrev pub all_of : {bytes : List ℕ} → Option (CutShort bytes) → List Token
all_of None = []
all_of (Some one) = kinds one.tokens

abbrev pub is_cut_short : {bytes : List ℕ} → Option (CutShort bytes) → Bool
is_cut_short None = false
is_cut_short (Some one) = true

-- a text is refused at its end, given a text that completes it and that it is no file
pub refused_at_the_end : {bytes : List ℕ} (found : Option (CutShort bytes)) → is_cut_short found ≡ true → ((file : CFile) → ReadsFile file (all_of found) → ⊥)
    → RefusedLine bytes (last_line bytes)
refused_at_the_end None h not = absurd (true≢false (sym h))
refused_at_the_end (Some one) h not = record { tokens = one.tokens; lexed = one.lexed; refused = at_the_end one.begun not }
