-- The readers of parameters and of declarations at numbers that code counts down.
use Rattle.std.proofs.Common.{◌≡◌, refl, ℕ, zero, suc, ◌-◌, ◌<◌, codes, List, [], ◌∷◌, ◌++◌, Option, Some, None, option_map, Ok, Err, arith}
use Rattle.c_tree.specs.declared.types.ParameterType.{ParameterType}
use Rattle.c_tree.specs.declared.declaration.CParam.{CParam}
use Rattle.c_tree.specs.declared.declaration.CLocal.{CLocal}
use Rattle.c_tree.specs.Tokens.{Word, Digits, Quoted, Sign, Including, Bad}
use Rattle.c_tree.specs.CExpressionText.{Scope}
use Rattle.c_tree.specs.CDeclarationText.{with_declared, with_parameter}
use Rattle.c_readers.specs.Readers.{Tokens, Outcome, Reader, found, ◌>>=◌, lookup, a_name}
use Rattle.c_readers.specs.ListReader.{Separator, Closes, Goes, Neither, separator}
use Rattle.c_readers.specs.TypeReader.{parameter_type}
use Rattle.c_readers.specs.DeclarationReader.{is_new, Declared, LocalLead, local_words, local_by}
use Rattle.c_readers.specs.HeadReader.{Parameters, a_parameter, parameters_by, behind_parameter, parameters, Locals, locals_by, locals}
use Rattle.c_expression_reader.specs.Lists.{closing_by, is_closed}
use Rattle.c_expression_reader.proofs.ListSteps.{closed_or}
use Rattle.c_declaration_reader.specs.HeadParts.{one_parameter, lead_in, declared_in}

-- reading behind what was read behind something
chained : {A B C : Type 0} (first : Option (Outcome A)) (next : A → Reader B) (last : B → Reader C)
    → ((first >>= next) >>= last) ≡ (first >>= (λ x. λ p. next x p >>= last))
chained None next last = refl
chained (Some (Err rest)) next last = refl
chained (Some (Ok p)) next last = refl

-- ## Parameters

by-closing : (again : Reader Parameters) (made : Parameters) (text : List ℕ) (more : Tokens) (of : Separator)
    → parameters_by again made text more of ≡ (closing_by text more of >>= closed_or again made)
unfolding closing_by
by-closing again made text more Closes = refl
by-closing again made text more Goes = refl
by-closing again made text more Neither = refl

behind-closing : (again : Reader Parameters) (made : Parameters) (tokens : Tokens)
    → behind_parameter again made tokens ≡ (is_closed (codes ")") tokens >>= closed_or again made)
unfolding behind_parameter is_closed
behind-closing again made [] = refl
behind-closing again made (Sign text ∷ more) = by-closing again made text more (separator (codes ")") text)
behind-closing again made (Word text ∷ more) = refl
behind-closing again made (Digits n ∷ more) = refl
behind-closing again made (Quoted bytes ∷ more) = refl
behind-closing again made (Including ∷ more) = refl
behind-closing again made (Bad ∷ more) = refl

-- what is read behind a parameter
abbrev pub behind_one : ℕ → Scope → List (List ℕ) → List CParam → CParam → Reader Parameters
behind_one count scope here items one tokens =
    is_closed (codes ")") tokens
    >>= closed_or (parameters count (with_parameter one.of one.name scope) (one.name ∷ here) (items ++ (one ∷ [])))
    (items ++ (one ∷ []), with_parameter one.of one.name scope, one.name ∷ here)

named-behind : (count : ℕ) (scope : Scope) (here : List (List ℕ)) (items : List CParam) (of : ParameterType) (given : Option (Outcome (List ℕ)))
    → (given
    >>= (λ name.
    behind_parameter (parameters count (with_parameter of name scope) (name ∷ here) (items ++ (a_parameter of name ∷ [])))
    (items ++ (a_parameter of name ∷ []), with_parameter of name scope, name ∷ here)))
    ≡ ((given >>= (λ name. found (a_parameter of name))) >>= behind_one count scope here items)
named-behind count scope here items of None = refl
named-behind count scope here items of (Some (Err rest)) = refl
named-behind count scope here items of (Some (Ok p)) =
    behind-closing (parameters count (with_parameter of p.0 scope) (p.0 ∷ here) (items ++ (a_parameter of p.0 ∷ [])))
    (items ++ (a_parameter of p.0 ∷ []), with_parameter of p.0 scope, p.0 ∷ here) p.1

typed-behind : (count : ℕ) (scope : Scope) (here : List (List ℕ)) (items : List CParam) (given : Option (Outcome ParameterType))
    → (given
    >>= (λ of. λ p. a_name (is_new here) p
    >>= (λ name.
    behind_parameter (parameters count (with_parameter of name scope) (name ∷ here) (items ++ (a_parameter of name ∷ [])))
    (items ++ (a_parameter of name ∷ []), with_parameter of name scope, name ∷ here))))
    ≡ ((given >>= (λ of. λ p. a_name (is_new here) p >>= (λ name. found (a_parameter of name)))) >>= behind_one count scope here items)
typed-behind count scope here items None = refl
typed-behind count scope here items (Some (Err rest)) = refl
typed-behind count scope here items (Some (Ok p)) = named-behind count scope here items p.0 (a_name (is_new here) p.1)

pub parameters-step : (count : ℕ) (scope : Scope) (here : List (List ℕ)) (items : List CParam) (tokens : Tokens) → 0 < count
    → parameters count scope here items tokens ≡ (one_parameter (is_new here) tokens >>= behind_one (count - 1) scope here items)
unfolding parameters one_parameter
parameters-step zero scope here items tokens h = absurd (omega arith)
parameters-step (suc count) scope here items tokens h =
    let e : suc count - 1 ≡ count = omega arith in rw e (typed-behind count scope here items (parameter_type tokens))

pub ruleset parameter_steps = (parameters-step)

-- ## Declarations

-- the other declarations, where tokens begin one
abbrev pub going : ℕ → ℕ → Scope → List (List ℕ) → List CLocal → Tokens → Option (LocalLead × Tokens) → Option (Outcome Locals)
going most count scope here items tokens None = found (items, scope) tokens
going most count scope here items tokens (Some p) =
    declared_in scope here (local_by scope (is_new here) most p.1 p.0) >>= (λ one. locals most count one.1 one.2 (items ++ (one.0 ∷ [])))

declared-going : (most count : ℕ) (scope : Scope) (here : List (List ℕ)) (items : List CLocal) (given : Option (Outcome Declared))
    → (given >>= (λ d. locals most count (with_declared d.0 d.1 scope) (d.1 ∷ here) (items ++ (d.0 ∷ []))))
    ≡ (declared_in scope here given >>= (λ one. locals most count one.1 one.2 (items ++ (one.0 ∷ []))))
unfolding declared_in
declared-going most count scope here items None = refl
declared-going most count scope here items (Some (Err rest)) = refl
declared-going most count scope here items (Some (Ok p)) = refl

by-lead : (most count : ℕ) (scope : Scope) (here : List (List ℕ)) (items : List CLocal) (text : List ℕ) (more : Tokens) (of : Option LocalLead)
    → locals_by (λ d. locals most count (with_declared d.0 d.1 scope) (d.1 ∷ here) (items ++ (d.0 ∷ []))) most scope here items text more of
    ≡ going most count scope here items (Word text ∷ more) (option_map (λ lead. (lead, more)) of)
unfolding locals_by
by-lead most count scope here items text more None = refl
by-lead most count scope here items text more (Some lead) = declared-going most count scope here items (local_by scope (is_new here) most more lead)

pub locals-step : (most count : ℕ) (scope : Scope) (here : List (List ℕ)) (items : List CLocal) (tokens : Tokens) → 0 < count
    → locals most count scope here items tokens ≡ going most (count - 1) scope here items tokens (lead_in tokens)
unfolding locals lead_in
locals-step most zero scope here items tokens h = absurd (omega arith)
locals-step most (suc count) scope here items [] h = refl
locals-step most (suc count) scope here items (Word text ∷ more) h =
    let e : suc count - 1 ≡ count = omega arith in rw e (by-lead most count scope here items text more (lookup text local_words))
locals-step most (suc count) scope here items (Digits n ∷ more) h = refl
locals-step most (suc count) scope here items (Quoted bytes ∷ more) h = refl
locals-step most (suc count) scope here items (Sign text ∷ more) h = refl
locals-step most (suc count) scope here items (Including ∷ more) h = refl
locals-step most (suc count) scope here items (Bad ∷ more) h = refl

pub ruleset local_steps = (locals-step)
