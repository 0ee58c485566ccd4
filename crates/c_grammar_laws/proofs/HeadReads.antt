-- The parameters and the declarations of a function that are spelled are read.
use Rattle.std.proofs.Common.{◌≡◌, refl, sym, ap, ◌∙◌, subst, ℕ, zero, suc, ◌+◌, ◌≤◌, Bool, true, false, List, [], ◌∷◌, ◌++◌, append_assoc, append-nil, length, codes, bytes_eq, Option, Some, None, is_some, Ok, Err, arith}
use Rattle.c_readers.specs.c_tree.declared.types.ParameterType.{ParameterType}
use Rattle.c_readers.specs.c_tree.declared.declaration.CParam.{CParam}
use Rattle.c_readers.specs.c_tree.declared.declaration.CLocal.{CLocal}
use Rattle.c_readers.specs.c_tree.Tokens.{Word, Digits, Quoted, Sign, Including, Bad}
use Rattle.c_readers.specs.c_tree.CWords.{AWord, ASign, Stand, parameter_tokens}
use Rattle.c_readers.specs.c_tree.CExpressionText.{Scope}
use Rattle.c_readers.specs.c_tree.CDeclarationText as text
use Rattle.c_readers.specs.c_tree.CDeclarationText.{IsNew, ReadsLocal, ReadsLocals, ReadsParams, with_parameter}
use Rattle.c_readers.specs.Readers.{Tokens, Reader, Outcome, found, refused, lookup, ◌>>=◌}
use Rattle.c_readers.specs.ValueReader.{a_word_of, by_row}
use Rattle.c_readers.specs.DeclarationReader.{is_new, Declared, LocalLead, local_words, local_by, a_local}
use Rattle.c_readers.specs.HeadReader.{Parameters, a_parameter, behind_parameter, parameters, parameters_or_none, parameter_list, Locals, locals_by, locals}
use Rattle.c_readers.specs.grammar.Exactness.{Eventually}
use Rattle.c_grammar_laws.specs.DeclarationLaws.{begins_local}
use Rattle.c_grammar_laws.proofs.CallComplete.{Soon}
use Rattle.c_grammar_laws.proofs.TokenReads.{sign-read, name-read, parameter-type-read, begins_void, parameter-no-void}
use Rattle.c_grammar_laws.proofs.LocalReads.{local-read}
use Rattle.c_grammar_laws.proofs.HeadGood.{LocalsAgain}
use Rattle.c_grammar_laws.proofs.FreshNames.{passes-new}

-- ## Parameters

parameter-step : (count : ℕ) (scope : Scope) (here : List (List ℕ)) (before : List CParam) (of : ParameterType) (name : List ℕ) (p q r : Tokens)
    → Stand (parameter_tokens of) p q → AWord name q r → IsNew name here
    → parameters (suc count) scope here before p
    ≡ behind_parameter (parameters count (with_parameter of name scope) (name ∷ here) (before ++ (a_parameter of name ∷ [])))
    (before ++ (a_parameter of name ∷ []), with_parameter of name scope, name ∷ here) r
unfolding parameters
parameter-step count scope here before of name p q r stands named new =
    rw (parameter-type-read of p q stands, name-read (is_new here) name q r (passes-new here name new) named) refl

closing-read : (again : Reader Parameters) (made : Parameters) (p q : Tokens) → ASign (codes ")") p q → behind_parameter again made p ≡ found made q
unfolding behind_parameter
closing-read again made p q is = ap (behind_parameter again made) is

comma-read : (again : Reader Parameters) (made : Parameters) (p q : Tokens) → ASign (codes ",") p q → behind_parameter again made p ≡ again q
unfolding behind_parameter
comma-read again made p q is = ap (behind_parameter again made) is

abbrev ParametersRead : Scope → List (List ℕ) → List CParam → List CParam → Scope → List (List ℕ) → Tokens → Tokens → Type 0
ParametersRead scope here before all last names p q = Eventually (λ count. parameters count scope here before p ≡ found (before ++ all, last, names) q)

more-read : (scope last : Scope) (here names : List (List ℕ)) (of : ParameterType) (name : List ℕ) (later before : List CParam) (p u r s q : Tokens)
    → Stand (parameter_tokens of) p u → AWord name u r → IsNew name here → ASign (codes ",") r s
    → ParametersRead (with_parameter of name scope) (name ∷ here) (before ++ (a_parameter of name ∷ [])) later last names s q
    → ParametersRead scope here before (a_parameter of name ∷ later) last names p q
more-read scope last here names of name later before p u r s q stands named new comma e = record { first = suc e.first; holds = by }
  where
    by : (count : ℕ) → suc e.first ≤ count → parameters count scope here before p ≡ found (before ++ (a_parameter of name ∷ later), last, names) q
    by zero h = absurd (let k : suc e.first ≤ 0 = h in omega (arith, k))
    by (suc count) h =
        parameter-step count scope here before of name p u r stands named new
        ∙ (comma-read (parameters count (with_parameter of name scope) (name ∷ here) (before ++ (a_parameter of name ∷ []))) (before ++ (a_parameter of name ∷ []), with_parameter of name scope, name ∷ here) r s comma
        ∙ (e.holds count (omega (arith, h)) ∙ ap (λ z. found (z, last, names) q) (append_assoc before (a_parameter of name ∷ []) later)))

last-read : (scope : Scope) (here : List (List ℕ)) (of : ParameterType) (name : List ℕ) (before : List CParam) (p u r q : Tokens)
    → Stand (parameter_tokens of) p u → AWord name u r → IsNew name here → ASign (codes ")") r q
    → ParametersRead scope here before (a_parameter of name ∷ []) (with_parameter of name scope) (name ∷ here) p q
last-read scope here of name before p u r q stands named new closes = record { first = 1; holds = by }
  where
    by : (count : ℕ) → 1 ≤ count → parameters count scope here before p ≡ found (before ++ (a_parameter of name ∷ []), with_parameter of name scope, name ∷ here) q
    by zero h = absurd (let k : 1 ≤ 0 = h in omega (arith, k))
    by (suc count) h =
        parameter-step count scope here before of name p u r stands named new
        ∙ closing-read (parameters count (with_parameter of name scope) (name ∷ here) (before ++ (a_parameter of name ∷ []))) (before ++ (a_parameter of name ∷ []), with_parameter of name scope, name ∷ here) r q closes

parameters-read : {scope last : Scope} {here names : List (List ℕ)} {all : List CParam} {p m : Tokens} → ReadsParams scope here all last names p m → (before : List CParam) (q : Tokens)
    → 1 ≤ length all → ASign (codes ")") m q → ParametersRead scope here before all last names p q
parameters-read (text.no_parameter scope here void) before q some closes = absurd (let h : 1 ≤ 0 = some in omega (arith, h))
parameters-read (text.last_parameter scope here of name {p = p} {q = u} {r = r} stands named new) before q some closes =
    last-read scope here of name before p u r q stands named new closes
parameters-read (text.one_parameter scope last here names of name {next = next} {later = later} {p = p} {q = u} {r = r} {s = s} stands named new comma more) before q some closes =
    more-read scope last here names of name (next ∷ later) before p u r s q stands named new comma (parameters-read more (before ++ (a_parameter of name ∷ [])) q (omega arith) closes)

-- the list of parameters, where there is one
some-parameters : (count : ℕ) (scope : Scope) (here : List (List ℕ)) (p : Tokens) → begins_void p ≡ false → parameter_list count scope here p ≡ parameters count scope here [] p
unfolding parameter_list parameters_or_none
some-parameters count scope here [] h = refl
some-parameters count scope here (Word word ∷ more) h = ap (λ z. parameters_or_none count scope here word more z) h
some-parameters count scope here (Sign sign ∷ more) h = refl
some-parameters count scope here (Digits n ∷ more) h = refl
some-parameters count scope here (Quoted bytes ∷ more) h = refl
some-parameters count scope here (Including ∷ more) h = refl
some-parameters count scope here (Bad ∷ more) h = refl

void-read : (count : ℕ) (scope : Scope) (here : List (List ℕ)) (p m q : Tokens) → AWord (codes "void") p m → ASign (codes ")") m q → parameter_list count scope here p ≡ found ([], scope, here) q
unfolding parameter_list parameters_or_none
void-read count scope here p m q void closes = ap (parameter_list count scope here) void ∙ rw (sign-read (codes ")") m q closes) refl

all-read : (scope last : Scope) (here names : List (List ℕ)) (all : List CParam) (p q : Tokens) → begins_void p ≡ false → ParametersRead scope here [] all last names p q
    → Eventually (λ count. parameter_list count scope here p ≡ found (all, last, names) q)
all-read scope last here names all p q plain e = record { first = e.first; holds = λ count h. some-parameters count scope here p plain ∙ e.holds count h }

pub parameter-list-read : {scope last : Scope} {here names : List (List ℕ)} {all : List CParam} {p m : Tokens} → ReadsParams scope here all last names p m → (q : Tokens) → ASign (codes ")") m q
    → Eventually (λ count. parameter_list count scope here p ≡ found (all, last, names) q)
parameter-list-read (text.no_parameter scope here {p = p} {q = m} void) q closes = record { first = 0; holds = λ count h. void-read count scope here p m q void closes }
parameter-list-read (text.last_parameter scope here of name {p = p} {q = u} {r = r} stands named new) q closes =
    all-read scope (with_parameter of name scope) here (name ∷ here) (a_parameter of name ∷ []) p q (parameter-no-void of p u stands)
    (parameters-read (text.last_parameter scope here of name stands named new) [] q (omega arith) closes)
parameter-list-read (text.one_parameter scope last here names of name {next = next} {later = later} {p = p} {q = u} {r = r} {s = s} stands named new comma more) q closes =
    all-read scope last here names (a_parameter of name ∷ next ∷ later) p q (parameter-no-void of p u stands)
    (parameters-read (text.one_parameter scope last here names of name stands named new comma more) [] q (omega arith) closes)

-- ## Declarations

-- one declaration, and those behind it
module _ (most count : ℕ) (scope : Scope) (here : List (List ℕ)) (before : List CLocal) (d : Declared) (q : Tokens) where
  first-by : (word : List ℕ) (more : Tokens) (o : Option LocalLead)
      → ((by_row (Word word ∷ more) more o >>= (λ lead. λ p. local_by scope (is_new here) most p lead)) ≡ found d q)
      → locals_by (LocalsAgain most count scope here before) most scope here before word more o ≡ LocalsAgain most count scope here before d q
  unfolding locals_by
  first-by word more (Some lead) h = ap (λ z. z >>= LocalsAgain most count scope here before) h
  first-by word more None h = absurd (let e : Some (Err (Word word ∷ more)) ≡ Some (Ok (d, q)) = h in cc)

  pub local-first : (p : Tokens) → a_local scope (is_new here) most p ≡ found d q → locals most (suc count) scope here before p ≡ LocalsAgain most count scope here before d q
  unfolding a_local a_word_of locals
  local-first [] h = absurd (let e : Some (Err []) ≡ Some (Ok (d, q)) = h in cc)
  local-first (Word word ∷ more) h = first-by word more (lookup word local_words) h
  local-first (Sign sign ∷ more) h = absurd (let e : Some (Err (Sign sign ∷ more)) ≡ Some (Ok (d, q)) = h in cc)
  local-first (Digits n ∷ more) h = absurd (let e : Some (Err (Digits n ∷ more)) ≡ Some (Ok (d, q)) = h in cc)
  local-first (Quoted bytes ∷ more) h = absurd (let e : Some (Err (Quoted bytes ∷ more)) ≡ Some (Ok (d, q)) = h in cc)
  local-first (Including ∷ more) h = absurd (let e : Some (Err (Including ∷ more)) ≡ Some (Ok (d, q)) = h in cc)
  local-first (Bad ∷ more) h = absurd (let e : Some (Err (Bad ∷ more)) ≡ Some (Ok (d, q)) = h in cc)

-- where no declaration begins
module _ (most count : ℕ) (scope : Scope) (here : List (List ℕ)) (before : List CLocal) where
  no-lead : (word : List ℕ) (more : Tokens) (o : Option LocalLead) → is_some o ≡ false
      → locals_by (LocalsAgain most count scope here before) most scope here before word more o ≡ found (before, scope) (Word word ∷ more)
  unfolding locals_by
  no-lead word more None h = refl
  no-lead word more (Some lead) h = absurd (let e : true ≡ false = h in cc)

  none-read : (p : Tokens) → begins_local p ≡ false → locals most (suc count) scope here before p ≡ found (before, scope) p
  unfolding locals
  none-read [] h = refl
  none-read (Word word ∷ more) h = no-lead word more (lookup word local_words) h
  none-read (Sign sign ∷ more) h = refl
  none-read (Digits n ∷ more) h = refl
  none-read (Quoted bytes ∷ more) h = refl
  none-read (Including ∷ more) h = refl
  none-read (Bad ∷ more) h = refl

abbrev LocalsRead : Scope → List (List ℕ) → List CLocal → List CLocal → Scope → Tokens → Tokens → Type 0
LocalsRead scope here before all last p q = Soon (λ most count. locals most count scope here before p ≡ found (before ++ all, last) q)

end-read : (scope : Scope) (here : List (List ℕ)) (before : List CLocal) (p : Tokens) → begins_local p ≡ false → LocalsRead scope here before [] scope p p
end-read scope here before p plain = record { first = 1; holds = by }
  where
    by : (most count : ℕ) → 1 ≤ most → 1 ≤ count → locals most count scope here before p ≡ found (before ++ [], scope) p
    by most zero h g = absurd (let k : 1 ≤ 0 = g in omega (arith, k))
    by most (suc count) h g = none-read most count scope here before p plain ∙ ap (λ z. found (z, scope) p) (sym (append-nil before))

next-read : (scope last : Scope) (here : List (List ℕ)) (before later : List CLocal) (d : Declared) (p q r : Tokens)
    → Eventually (λ count. a_local scope (is_new here) count p ≡ found d q)
    → LocalsRead (text.with_declared d.0 d.1 scope) (d.1 ∷ here) (before ++ (d.0 ∷ [])) later last q r → LocalsRead scope here before (d.0 ∷ later) last p r
next-read scope last here before later d p q r e s = record { first = suc (e.first + s.first); holds = by }
  where
    by : (most count : ℕ) → suc (e.first + s.first) ≤ most → suc (e.first + s.first) ≤ count → locals most count scope here before p ≡ found (before ++ (d.0 ∷ later), last) r
    by most zero h g = absurd (let k : suc (e.first + s.first) ≤ 0 = g in omega (arith, k))
    by most (suc count) h g =
        local-first most count scope here before d q p (e.holds most (omega (arith, h)))
        ∙ (s.holds most count (omega (arith, h)) (omega (arith, g)) ∙ ap (λ z. found (z, last) r) (append_assoc before (d.0 ∷ []) later))

pub locals-read : {scope last : Scope} {here : List (List ℕ)} {all : List CLocal} {p q : Tokens} → ReadsLocals scope here all last p q → begins_local q ≡ false → (before : List CLocal)
    → LocalsRead scope here before all last p q
locals-read (text.no_local scope here {p = p}) plain before = end-read scope here before p plain
locals-read (text.one_local scope last here {one = one} {name = name} {later = later} {p = p} {q = q} {r = r} reads new more) plain before =
    next-read scope last here before later (one, name) p q r (local-read scope (is_new here) one name p q (passes-new here name new) reads)
    (locals-read more plain (before ++ (one ∷ [])))
