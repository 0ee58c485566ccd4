-- Prototype files: one line for each function, which declares it as its definition in the house form begins, and is a declaration of C (C89,
-- 3.5.4.3 and 3.7.1). Which texts are such files, and the line at which another text is refused.
use Rattle.std.specs.Prelude.{◌≡◌, ℕ, suc, ◌≤◌, Bool, true, not, ◌&&◌, List, [], ◌∷◌, ◌++◌, length, take, codes}
use Rattle.std.specs.List.{list_all, flat_map, concat}
use Rattle.c_tree.specs.declared.declaration.CParam.{CParam}
use Rattle.c_tree.specs.CWords.{is_among, is_name}
use Rattle.c_text.specs.Types.{result_word}
use Rattle.c_text.specs.Declarations.{printed_params}
use Rattle.fortran_text.specs.Lines.{lines}
use Rattle.prototypes.specs.declared.prototype.Prototype.{Prototype}

-- a line: one blank between words and behind commas, none between `*` and a name, and `void` where there is no parameter
unfoldable pub prototype_line : Prototype → List ℕ
prototype_line p = codes "extern " ++ (result_word p.result ++ (codes " " ++ (p.name ++ (codes "(" ++ (printed_params p.params ++ codes ");\n")))))

-- a file
abbrev pub prototype_text : List Prototype → List ℕ
prototype_text prototypes = flat_map prototype_line prototypes

-- parameters in their order: each has a name, and no two of them the same, given the names before them (C89, 3.1.2.1)
unfoldable pub are_parameters : List (List ℕ) → List CParam → Bool
are_parameters before [] = true
are_parameters before (first ∷ later) = is_name first.name && (not (is_among first.name before) && are_parameters (first.name ∷ before) later)

-- what a line may say: the function has a name, and so have its parameters
unfoldable pub is_prototype : Prototype → Bool
is_prototype p = is_name p.name && are_parameters [] p.params

-- the prototypes that the bytes of a text spell
pub record Spells (bytes : List ℕ) (prototypes : List Prototype) : Type 0 where
  pub text : bytes ≡ prototype_text prototypes
  pub each : list_all is_prototype prototypes ≡ true

-- the longest file, in bytes
unfoldable pub most_bytes : ℕ
most_bytes = 16777216

-- a file, with its prototypes
pub record IsPrototypeFile (bytes : List ℕ) (prototypes : List Prototype) : Type 0 where
  pub spells : Spells bytes prototypes
  pub within : length bytes ≤ most_bytes

-- a text that is a file
pub record IsFile (bytes : List ℕ) : Type 0 where
  pub prototypes : List Prototype
  pub is : IsPrototypeFile bytes prototypes

-- so many lines of a text, from its first on, each with the line feed that ends it
unfoldable pub first_lines : ℕ → List ℕ → List ℕ
first_lines count bytes = concat (take count (lines bytes))

-- the line at which a text is refused: the first one such that the lines up to it are no file
pub record RefusedLine (bytes : List ℕ) (line : ℕ) : Type 0 where
  pub before : ℕ
  pub next : line ≡ suc before
  pub file : IsFile (first_lines before bytes)
  pub none : IsFile (first_lines line bytes) → ⊥
