-- Behind `integer`, where external objects may stand: an array where a bracket stands behind the name, and else a function. The reader looks for
-- the bracket before it looks at the name, and refuses a name that is not new either way.
use Rattle.std.proofs.Common.{◌≡◌, refl, sym, ap, ◌∙◌, ℕ, suc, Bool, true, false, List, [], ◌∷◌, codes, if◌then◌else◌, Option}
use Rattle.c_file_readers.specs.c_tree.declared.types.ResultType.TheVariants as result
use Rattle.c_file_readers.specs.c_tree.declared.file.CFile.{CFile}
use Rattle.c_file_readers.specs.c_tree.Tokens.{Word, Sign}
use Rattle.c_file_readers.specs.c_tree.CExpressionText.{Scope}
use Rattle.c_file_readers.specs.c_tree.CDeclarationText.{with_array, with_function}
use Rattle.c_file_readers.specs.c_readers.Readers.{Tokens, Outcome, Reader, found, refused, ◌>>=◌, a_name}
use Rattle.c_file_readers.specs.c_readers.ValueReader.{a_word_of}
use Rattle.c_file_readers.specs.c_readers.DeclarationReader.{is_new}
use Rattle.c_file_readers.specs.c_statement_readers.PartReader.{starts_with}
use Rattle.c_file_readers.specs.ObjectReader as object
use Rattle.c_file_readers.specs.ObjectReader.{integers_behind, an_object}
use Rattle.c_file_readers.specs.FileReader as reader
use Rattle.c_file_readers.specs.FileReader.{function_behind, a_function, Objects, Functions, with_one_object, with_one_function, Further, by_part, parts, names_array}

module _ (nests : ℕ) (again : Further) (scope : Scope) (here : List (List ℕ)) (before : CFile) where
  unfoldable pub by_bracket : List ℕ → Tokens → Bool → Option (Outcome CFile)
  by_bracket name tokens true = integers_behind name tokens >>= (λ one. again Objects (with_array one.1 scope) (one.1 ∷ here) (with_one_object one.0 before))
  by_bracket name tokens false =
      function_behind nests scope result.Integer name tokens >>= (λ one. again Functions (with_function one.name scope) (one.name ∷ here) (with_one_function one before))

  -- Behind `integer` and a name.
  unfoldable pub behind_integer : List ℕ → Reader CFile
  behind_integer name tokens = by_bracket name tokens (starts_with (codes "[") tokens)

  -- Behind `integer`.
  unfoldable pub integer_led : Reader CFile
  integer_led tokens = a_name (is_new here) tokens >>= behind_integer

-- a name that passes a test, with a reader behind it and another behind that, or one behind it
name-then : {A B : Type 0} (passes : Bool) (name : List ℕ) (tokens : Tokens) (first : List ℕ → Reader A) (second : A → Reader B) (both : List ℕ → Reader B)
    → (first name tokens >>= second) ≡ both name tokens
    → (((if passes then found name tokens else refused (Word name ∷ tokens)) >>= first) >>= second) ≡ ((if passes then found name tokens else refused (Word name ∷ tokens)) >>= both)
name-then true name tokens first second both h = h
name-then false name tokens first second both h = refl

bracket-named : (name : List ℕ) (tokens : Tokens) → names_array (Word name ∷ tokens) ≡ starts_with (codes "[") tokens
bracket-named name [] = refl
bracket-named name (Sign sign ∷ more) = refl
bracket-named name (token ∷ more) = refl

module _ (nests count : ℕ) (scope : Scope) (here : List (List ℕ)) (before : CFile) where
  named-same : (name : List ℕ) (tokens : Tokens) (opens : Bool) → starts_with (codes "[") tokens ≡ opens
      → by_part nests (parts nests count) scope here before (Word (codes "integer") ∷ Word name ∷ tokens) opens false
      ≡ integer_led nests (parts nests count) scope here before (Word name ∷ tokens)
  unfolding by_part reader.an_object_and_more reader.a_function_and_more an_object object.object_by object.integers a_function a_word_of a_name integer_led behind_integer by_bracket
  named-same name tokens true h =
      name-then (is_new here name) name tokens integers_behind (λ one. parts nests count Objects (with_array one.1 scope) (one.1 ∷ here) (with_one_object one.0 before))
      (behind_integer nests (parts nests count) scope here before) (sym (ap (by_bracket nests (parts nests count) scope here before name tokens) h))
  named-same name tokens false h =
      name-then (is_new here name) name tokens (function_behind nests scope result.Integer) (λ one. parts nests count Functions (with_function one.name scope) (one.name ∷ here) (with_one_function one before))
      (behind_integer nests (parts nests count) scope here before) (sym (ap (by_bracket nests (parts nests count) scope here before name tokens) h))

  pub led-same : (tokens : Tokens) → parts nests (suc count) Objects scope here before (Word (codes "integer") ∷ tokens) ≡ integer_led nests (parts nests count) scope here before tokens
  unfolding parts by_part reader.a_function_and_more a_function a_word_of a_name integer_led
  led-same [] = refl
  led-same (Word name ∷ tokens) =
      ap (λ z. by_part nests (parts nests count) scope here before (Word (codes "integer") ∷ Word name ∷ tokens) z false) (bracket-named name tokens)
      ∙ named-same name tokens (starts_with (codes "[") tokens) refl
  led-same (token ∷ tokens) = refl
