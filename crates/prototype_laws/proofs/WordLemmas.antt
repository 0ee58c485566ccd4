-- The words of a line of a prototype file are those of its prototype.
use Rattle.std.proofs.Common.{◌≡◌, ℕ, Bool, true, false, List, [], ◌∷◌, ◌++◌, append_assoc, append-nil, refl, sym, ap, subst, ◌∙◌, Some, None, Option}
use Rattle.std.specs.Prelude.{◌&&◌, not, codes, bytes_eq, if◌then◌else◌}
use Rattle.std.specs.List.{list_all}
use Rattle.std.proofs.lemmas.Bool.{and_parts}
use Rattle.std.proofs.lemmas.Slice.Eq.{bytes_eq-Decides}
use Rattle.prototypes.specs.c_tree.declared.declaration.CParam.{CParam}
use Rattle.prototypes.specs.c_tree.declared.types.ResultType.{ResultType}
use Rattle.prototypes.specs.c_tree.declared.types.ResultType.TheVariants as result
use Rattle.prototypes.specs.c_tree.declared.types.ParameterType.{ParameterType}
use Rattle.prototypes.specs.c_tree.declared.types.ParameterType.TheVariants as parameter
use Rattle.prototypes.specs.c_tree.declared.types.FunctionType.TheVariants as function
use Rattle.prototypes.specs.c_tree.Tokens.{begins_with, is_letter, is_word_byte}
use Rattle.prototypes.specs.c_tree.CWords.{is_among, is_name}
use Rattle.prototypes.specs.c_tree.CWords as c
use Rattle.prototypes.specs.c_text.Types.{result_word, parameter_front}
use Rattle.prototypes.specs.c_text.Lists.{after_commas}
use Rattle.prototypes.specs.c_text.Declarations.{printed_param, printed_params}
use Rattle.prototypes.specs.declared.prototype.Prototype.{Prototype}
use Rattle.prototypes.specs.PrototypeText.{prototype_line, are_parameters, is_prototype}
use Rattle.prototype_laws.specs.Reading.{before_words, words, result_named, function_named, type_named, behind_type, params_behind, with_parts, prototype_in, if_told, line_prototype}

-- ## Names

-- a name is a letter with bytes of words behind it
pub record IsWord (name : List ℕ) : Type 0 where
  pub first : ℕ
  pub later : List ℕ
  pub is : name ≡ first ∷ later
  pub begins : is_word_byte first ≡ true
  pub each : list_all is_word_byte later ≡ true

pub name_word : (name : List ℕ) → is_name name ≡ true → IsWord name
name_word [] h = absurd (let e : false ≡ true = h in cc)
name_word (first ∷ later) h =
    let parts = and_parts (is_letter first) (list_all is_word_byte (first ∷ later) && not (is_among (first ∷ later) c.words)) h in
    let inner = and_parts (list_all is_word_byte (first ∷ later)) (not (is_among (first ∷ later) c.words)) parts.1 in
    let all = and_parts (is_word_byte first) (list_all is_word_byte later) inner.0 in
    record { first = first; later = later; is = refl; begins = all.0; each = all.1 }

-- ## Words of a text

joined : (b : ℕ) (rest : List ℕ) → is_word_byte b ≡ true → words (b ∷ rest) ≡ before_words (begins_with is_word_byte rest) b (words rest)
unfolding words
joined b rest h = ap (λ t. if t then before_words (begins_with is_word_byte rest) b (words rest) else words rest) h

pub words-sign : (b : ℕ) (rest : List ℕ) → is_word_byte b ≡ false → words (b ∷ rest) ≡ words rest
unfolding words
words-sign b rest h = ap (λ t. if t then before_words (begins_with is_word_byte rest) b (words rest) else words rest) h

alone : (b : ℕ) (ws : List (List ℕ)) → before_words false b ws ≡ (b ∷ []) ∷ ws
unfolding before_words
alone b ws = refl

onto : (b : ℕ) (word : List ℕ) (ws : List (List ℕ)) → before_words true b (word ∷ ws) ≡ (b ∷ word) ∷ ws
unfolding before_words
onto b word ws = refl

-- a word, and what follows it
pub words-word : (b : ℕ) (w t : List ℕ) → is_word_byte b ≡ true → list_all is_word_byte w ≡ true → begins_with is_word_byte t ≡ false
    → words (b ∷ (w ++ t)) ≡ (b ∷ w) ∷ words t
words-word b [] t h each ends = joined b t h ∙ ap (λ z. before_words z b (words t)) ends ∙ alone b (words t)
words-word b (d ∷ w) t h each ends =
    let parts = and_parts (is_word_byte d) (list_all is_word_byte w) each in
    joined b (d ∷ (w ++ t)) h ∙ ap (λ z. before_words z b (words (d ∷ (w ++ t)))) parts.0 ∙ ap (λ ws. before_words true b ws) (words-word d w t parts.0 parts.1 ends)
    ∙ onto b (d ∷ w) (words t)

pub words-name : (name t : List ℕ) → is_name name ≡ true → begins_with is_word_byte t ≡ false → words (name ++ t) ≡ name ∷ words t
words-name name t named ends =
    let w = name_word name named in
    subst (λ n. words (n ++ t) ≡ n ∷ words t) (sym w.is) (words-word w.first w.later t w.begins w.each ends)

words-extern : (t : List ℕ) → words (codes "extern " ++ t) ≡ codes "extern" ∷ words t
unfolding words before_words
words-extern t = refl

words-result : (r : ResultType) (t : List ℕ) → words (result_word r ++ (codes " " ++ t)) ≡ result_word r ∷ words t
unfolding words before_words
words-result result.Int t = refl
words-result result.Integer t = refl
words-result result.Logical t = refl
words-result result.Void t = refl

words-open : (t : List ℕ) → words (codes "(" ++ t) ≡ words t
unfolding words
words-open t = refl

words-comma : (t : List ℕ) → words (codes ", " ++ t) ≡ words t
unfolding words
words-comma t = refl

words-close : words (codes ");\n") ≡ []
unfolding words
words-close = refl

words-void : words (codes "void" ++ codes ");\n") ≡ codes "void" ∷ []
unfolding words before_words
words-void = refl

-- the word of a type
abbrev type_word : ParameterType → List ℕ
type_word parameter.Integers = codes "integer"
type_word parameter.Logicals = codes "logical"
type_word parameter.Chars = codes "char"
type_word parameter.Length = codes "ftnlen"
type_word parameter.Int = codes "int"
type_word (parameter.Function function.Subroutine) = codes "S_fp"
type_word (parameter.Function function.Integer) = codes "I_fp"
type_word (parameter.Function function.Logical) = codes "L_fp"
type_word (parameter.Function function.Unknown) = codes "U_fp"

words-type : (of : ParameterType) (t : List ℕ) → words (parameter_front of ++ t) ≡ type_word of ∷ words t
unfolding words before_words
words-type parameter.Integers t = refl
words-type parameter.Logicals t = refl
words-type parameter.Chars t = refl
words-type parameter.Length t = refl
words-type parameter.Int t = refl
words-type (parameter.Function function.Subroutine) t = refl
words-type (parameter.Function function.Integer) t = refl
words-type (parameter.Function function.Logical) t = refl
words-type (parameter.Function function.Unknown) t = refl

-- ## Parameters

abbrev param_words : List CParam → List (List ℕ)
param_words [] = []
param_words (p ∷ ps) = type_word p.of ∷ p.name ∷ param_words ps

words-param : (p : CParam) (t : List ℕ) → is_name p.name ≡ true → begins_with is_word_byte t ≡ false → words (printed_param p ++ t) ≡ type_word p.of ∷ p.name ∷ words t
words-param p t named ends =
    ap words (append_assoc (parameter_front p.of) p.name t) ∙ words-type p.of (p.name ++ t) ∙ ap (λ ws. type_word p.of ∷ ws) (words-name p.name t named ends)

-- the first of some parameters has a name, and the others are parameters
record AreNamed (before : List (List ℕ)) (p : CParam) (ps : List CParam) : Type 0 where
  named : is_name p.name ≡ true
  later : are_parameters (p.name ∷ before) ps ≡ true

first_named : (before : List (List ℕ)) (p : CParam) (ps : List CParam) → are_parameters before (p ∷ ps) ≡ true → AreNamed before p ps
unfolding are_parameters
first_named before p ps h =
    let parts = and_parts (is_name p.name) (not (is_among p.name before) && are_parameters (p.name ∷ before) ps) h in
    let inner = and_parts (not (is_among p.name before)) (are_parameters (p.name ∷ before) ps) parts.1 in
    record { named = parts.0; later = inner.1 }

no_word : (ps : List CParam) → begins_with is_word_byte (after_commas printed_param ps ++ codes ");\n") ≡ false
no_word [] = refl
no_word (p ∷ ps) = refl

words-after : (before : List (List ℕ)) (ps : List CParam) → are_parameters before ps ≡ true → words (after_commas printed_param ps ++ codes ");\n") ≡ param_words ps
words-after before [] h = words-close
words-after before (p ∷ ps) h =
    let n = first_named before p ps h in
    ap words (append_assoc (codes ", " ++ printed_param p) (after_commas printed_param ps) (codes ");\n"))
    ∙ words-comma (printed_param p ++ (after_commas printed_param ps ++ codes ");\n"))
    ∙ words-param p (after_commas printed_param ps ++ codes ");\n") n.named (no_word ps)
    ∙ ap (λ ws. type_word p.of ∷ p.name ∷ ws) (words-after (p.name ∷ before) ps n.later)

-- the words of parameters, or of none
abbrev all_words : List CParam → List (List ℕ)
all_words [] = codes "void" ∷ []
all_words (p ∷ ps) = param_words (p ∷ ps)

words-params : (ps : List CParam) → are_parameters [] ps ≡ true → words (printed_params ps ++ codes ");\n") ≡ all_words ps
unfolding printed_params
words-params [] h = words-void
words-params (p ∷ ps) h =
    let n = first_named [] p ps h in
    ap words (append_assoc (printed_param p) (after_commas printed_param ps) (codes ");\n"))
    ∙ words-param p (after_commas printed_param ps ++ codes ");\n") n.named (no_word ps)
    ∙ ap (λ ws. type_word p.of ∷ p.name ∷ ws) (words-after (p.name ∷ []) ps n.later)

type_named-word : (of : ParameterType) → type_named (type_word of) ≡ Some of
unfolding type_named function_named
type_named-word parameter.Integers = refl
type_named-word parameter.Logicals = refl
type_named-word parameter.Chars = refl
type_named-word parameter.Length = refl
type_named-word parameter.Int = refl
type_named-word (parameter.Function function.Subroutine) = refl
type_named-word (parameter.Function function.Integer) = refl
type_named-word (parameter.Function function.Logical) = refl
type_named-word (parameter.Function function.Unknown) = refl

result_named-word : (r : ResultType) → result_named (result_word r) ≡ Some r
unfolding result_named
result_named-word result.Int = refl
result_named-word result.Integer = refl
result_named-word result.Logical = refl
result_named-word result.Void = refl

params-none : (done : List CParam) → params_behind done [] ≡ Some done
unfolding params_behind
params-none done = refl

params-alone : (done : List CParam) (word : List ℕ) → params_behind done (word ∷ []) ≡ Some done
unfolding params_behind
params-alone done word = refl

params-pair : (done : List CParam) (word name : List ℕ) (more : List (List ℕ))
    → params_behind done (word ∷ name ∷ more) ≡ behind_type (λ type. params_behind (done ++ record { of = type; name = name } ∷ []) more) (type_named word)
unfolding params_behind
params-pair done word name more = refl

params-words : (done ps : List CParam) → params_behind done (param_words ps) ≡ Some (done ++ ps)
params-words done [] = params-none done ∙ ap Some (sym (append-nil done))
params-words done (p ∷ ps) =
    params-pair done (type_word p.of) p.name (param_words ps)
    ∙ ap (behind_type (λ type. params_behind (done ++ record { of = type; name = p.name } ∷ []) (param_words ps))) (type_named-word p.of)
    ∙ params-words (done ++ p ∷ []) ps
    ∙ ap Some (append_assoc done (p ∷ []) ps)

params-all : (ps : List CParam) → params_behind [] (all_words ps) ≡ Some ps
params-all [] = params-alone [] (codes "void")
params-all (p ∷ ps) = params-words [] (p ∷ ps)

-- ## A line

abbrev line_words : Prototype → List (List ℕ)
line_words p = codes "extern" ∷ result_word p.result ∷ p.name ∷ all_words p.params

record IsTold (p : Prototype) : Type 0 where
  named : is_name p.name ≡ true
  params : are_parameters [] p.params ≡ true

told : (p : Prototype) → is_prototype p ≡ true → IsTold p
unfolding is_prototype
told p h = let parts = and_parts (is_name p.name) (are_parameters [] p.params) h in record { named = parts.0; params = parts.1 }

words-line : (p : Prototype) → is_prototype p ≡ true → words (prototype_line p) ≡ line_words p
unfolding prototype_line
words-line p h =
    let t = told p h in
    let params : List ℕ = printed_params p.params ++ codes ");\n" in
    let named : List ℕ = p.name ++ (codes "(" ++ params) in
    words-extern (result_word p.result ++ (codes " " ++ named))
    ∙ ap (λ ws. codes "extern" ∷ ws) (words-result p.result named)
    ∙ ap (λ ws. codes "extern" ∷ result_word p.result ∷ ws) (words-name p.name (codes "(" ++ params) t.named refl)
    ∙ ap (λ ws. codes "extern" ∷ result_word p.result ∷ p.name ∷ ws) (words-open params ∙ words-params p.params t.params)

prototype-words : (p : Prototype) → prototype_in (line_words p) ≡ Some p
unfolding prototype_in
prototype-words p =
    ap (λ gives. with_parts gives p.name (params_behind [] (all_words p.params))) (result_named-word p.result)
    ∙ ap (λ ps. with_parts (Some p.result) p.name ps) (params-all p.params)

equal_self : (a : List ℕ) → bytes_eq a a ≡ true
equal_self a = (bytes_eq-Decides a a).1 refl

-- the line of a prototype is read as it
pub line_prototype-line : (p : Prototype) → is_prototype p ≡ true → line_prototype (prototype_line p) ≡ Some p
unfolding line_prototype if_told
line_prototype-line p h =
    ap (if_told (prototype_line p)) (ap prototype_in (words-line p h) ∙ prototype-words p)
    ∙ ap (λ t. if t && bytes_eq (prototype_line p) (prototype_line p) then Some p else None) h
    ∙ ap (λ t. if t then Some p else None) (equal_self (prototype_line p))

-- what is read of a line is one that it may say, and the line is its line
pub record IsRead (line : List ℕ) (p : Prototype) : Type 0 where
  pub told : is_prototype p ≡ true
  pub line_of : line ≡ prototype_line p

by_tests : (line : List ℕ) (q p : Prototype) (b e : Bool) → is_prototype q ≡ b → bytes_eq (prototype_line q) line ≡ e → (if b && e then Some q else None) ≡ Some p → IsRead line p
by_tests line q p true true told same h =
    let is : q ≡ p = cc in
    subst (IsRead line) is (record { told = told; line_of = sym ((bytes_eq-Decides (prototype_line q) line).0 same) })
by_tests line q p true false told same h = absurd (let e : None ≡ Some p = h in cc)
by_tests line q p false e told same h = absurd (let e : None ≡ Some p = h in cc)

by_words : (line : List ℕ) (found : Option Prototype) (p : Prototype) → if_told line found ≡ Some p → IsRead line p
unfolding if_told
by_words line None p h = absurd (let e : None ≡ Some p = h in cc)
by_words line (Some q) p h = by_tests line q p (is_prototype q) (bytes_eq (prototype_line q) line) refl refl h

pub read_line : (line : List ℕ) (p : Prototype) → line_prototype line ≡ Some p → IsRead line p
unfolding line_prototype
read_line line p h = by_words line (prototype_in (words line)) p h
