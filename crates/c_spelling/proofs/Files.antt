-- A printed file reads as the tokens that spell it.
use Rattle.std.specs.Prelude.{◌≡◌, ℕ, true, false, List, [], ◌∷◌, ◌++◌, codes}
use Rattle.std.specs.List.{list_all, flat_map}
use Rattle.std.proofs.Common.{refl, ap, sym, subst, append_assoc}
use Rattle.c_laws.specs.c_tree.declared.file.CObject.{CObject}
use Rattle.c_laws.specs.c_tree.declared.file.CConstant.{CConstant}
use Rattle.c_laws.specs.c_tree.declared.file.CFunction.{CFunction}
use Rattle.c_laws.specs.c_tree.declared.file.CFile.{CFile}
use Rattle.c_laws.specs.c_tree.Tokens.{Token, Including, behind_a_gap, one_more, include_line}
use Rattle.c_laws.specs.c_tree.CExpressionText.{Scope}
use Rattle.c_laws.specs.c_tree.CText.{ReadsParts, only_functions, one_constant, one_object, no_names, ReadsFile, CText, WellFormed}
use Rattle.c_text.specs.Phrases.{letters}
use Rattle.c_text.specs.Declarations.{object_line, printed_objects, constant_line, printed_constants}
use Rattle.c_text.specs.Printed.{printed_functions, printed}
use Rattle.c_laws.proofs.TokenSpellings.{and-first, and-second}
use Rattle.c_spelling.specs.Spelled.{object_of_bytes, function_of_bytes, file_of_bytes}
use Rattle.c_spelling.proofs.Tokens.{PlacedAs, ReadsAs, in_words, Whole, comment, line_feed}
use Rattle.c_spelling.proofs.TokensScope.{NamedScope, object_names, array_names}
use Rattle.c_spelling.proofs.DeclaredObjects.{object_whole, constant_whole}
use Rattle.c_spelling.proofs.FilesFunctions.{Ended, functions_ended}

-- ## Parts

-- the constants without their heading, and the functions, where no object stands
constants_ended : {scope : Scope} {here : List (List ℕ)} {objects : List CObject} {constants : List CConstant} {functions : List CFunction} {p : List Token}
    → ReadsParts scope here objects constants functions p → objects ≡ [] → NamedScope scope → list_all function_of_bytes functions ≡ true
    → Ended (flat_map constant_line constants ++ printed_functions functions) (ReadsParts scope here [] constants functions)
constants_ended (only_functions scope here reads) none names of_bytes =
    let rest : Ended (printed_functions _) _ = functions_ended reads names of_bytes in
    record { tokens = rest.tokens; reads = rest.reads; spells = only_functions scope here rest.spells }
constants_ended (one_constant scope here {first = first} {later = later} {functions = functions} reads new more) none names of_bytes =
    let front : Whole (constant_line first) _ = constant_whole reads new.named in
    let others : Ended (flat_map constant_line later ++ printed_functions functions) _ =
    constants_ended more refl (object_names first.name scope new.named names) of_bytes in
    record {
      tokens = front.tokens others.tokens;
      reads =
          in_words (append_assoc (constant_line first) (flat_map constant_line later) (printed_functions functions))
          (front.reads (flat_map constant_line later ++ printed_functions functions) others.tokens others.reads);
      spells = one_constant scope here (front.spells others.tokens) new others.spells;
    }
constants_ended (one_object scope here reads new more) none names of_bytes = absurd (cc)

-- with their heading
headed_constants : (constants : List CConstant) (rest : List ℕ) {tokens : List Token} → ReadsAs (flat_map constant_line constants ++ rest) tokens → ReadsAs (printed_constants constants ++ rest) tokens
unfolding printed_constants letters
headed_constants [] rest r = r
headed_constants (first ∷ later) rest r = line_feed (comment (codes "/* Table of constant values */") refl refl (line_feed (line_feed r)))

headed_objects : (objects : List CObject) (rest : List ℕ) {tokens : List Token} → ReadsAs (flat_map object_line objects ++ rest) tokens → ReadsAs (printed_objects objects ++ rest) tokens
unfolding printed_objects letters
headed_objects [] rest r = r
headed_objects (first ∷ later) rest r = line_feed (comment (codes "/* Common Block Declarations */") refl refl (line_feed (line_feed r)))

-- what stands behind the objects
abbrev behind_objects : List CConstant → List CFunction → List ℕ
behind_objects constants functions = printed_constants constants ++ printed_functions functions

behind_ended : {scope : Scope} {here : List (List ℕ)} {constants : List CConstant} {functions : List CFunction}
    → Ended (flat_map constant_line constants ++ printed_functions functions) (ReadsParts scope here [] constants functions)
    → Ended (behind_objects constants functions) (ReadsParts scope here [] constants functions)
behind_ended {constants = constants} {functions = functions} all = record {
  tokens = all.tokens;
  reads = headed_constants constants (printed_functions functions) all.reads;
  spells = all.spells;
}

-- the objects without their heading, and what stands behind them
objects_ended : {scope : Scope} {here : List (List ℕ)} {objects : List CObject} {constants : List CConstant} {functions : List CFunction} {p : List Token}
    → ReadsParts scope here objects constants functions p → NamedScope scope → list_all object_of_bytes objects ≡ true → list_all function_of_bytes functions ≡ true
    → Ended (flat_map object_line objects ++ behind_objects constants functions) (ReadsParts scope here objects constants functions)
objects_ended (only_functions scope here reads) names objects_good of_bytes = behind_ended (constants_ended (only_functions scope here reads) refl names of_bytes)
objects_ended (one_constant scope here reads new more) names objects_good of_bytes = behind_ended (constants_ended (one_constant scope here reads new more) refl names of_bytes)
objects_ended (one_object scope here {first = first} {name = name} {later = later} {constants = constants} {functions = functions} reads new more) names objects_good of_bytes =
    let front : Whole (object_line first) _ = object_whole reads new.named (and-first (object_of_bytes first) (list_all object_of_bytes later) objects_good) in
    let others : Ended (flat_map object_line later ++ behind_objects constants functions) _ =
    objects_ended more (array_names name scope new.named names) (and-second (object_of_bytes first) (list_all object_of_bytes later) objects_good) of_bytes in
    record {
      tokens = front.tokens others.tokens;
      reads =
          in_words (append_assoc (object_line first) (flat_map object_line later) (behind_objects constants functions))
          (front.reads (flat_map object_line later ++ behind_objects constants functions) others.tokens others.reads);
      spells = one_object scope here (front.spells others.tokens) new others.spells;
    }

-- ## The file

-- the include line, after the first comment
headed : (file : CFile) (text : List ℕ) (tokens : List Token) → ReadsAs text tokens → ReadsParts no_names [] file.objects file.constants file.functions tokens → CText (codes "/* translated by f2c */\n\n#include \"f2c.h\"\n" ++ text) file
headed file text tokens r parts = record {
  tokens = record { token = Including; line = 3 } ∷ next.placed;
  lexed =
      behind_a_gap 1 true _ (codes "/* translated by f2c */") (10 ∷ 10 ∷ (include_line ++ 10 ∷ text)) _ refl
      (behind_a_gap 1 false (10 ∷ 10 ∷ (include_line ++ 10 ∷ text)) (10 ∷ []) (10 ∷ (include_line ++ 10 ∷ text)) _ refl
      (behind_a_gap 2 true (10 ∷ (include_line ++ 10 ∷ text)) (10 ∷ []) (include_line ++ 10 ∷ text) _ refl
      (one_more 3 true (include_line ++ 10 ∷ text) Including (10 ∷ text) next.placed refl next.are)));
  reads = subst (ReadsFile file) (sym (ap (λ ts. Including ∷ ts) next.kinds_of)) (record { behind = tokens; including = refl; parts = parts });
}
  where
    next : PlacedAs 3 false (10 ∷ text) tokens
    next = (line_feed r).from 3 false

none_named : NamedScope no_names
none_named = record { objects = refl; arrays = refl; functions = refl; pointers = refl }

-- the printed text of a well-formed file spells it
pub file_spelled : (file : CFile) → file_of_bytes file ≡ true → WellFormed file → CText (printed file) file
unfolding letters
file_spelled file of_bytes formed =
    let all : Ended (flat_map object_line file.objects ++ behind_objects file.constants file.functions) _ =
    objects_ended formed.reads.parts none_named (and-first (list_all object_of_bytes file.objects) (list_all function_of_bytes file.functions) of_bytes)
    (and-second (list_all object_of_bytes file.objects) (list_all function_of_bytes file.functions) of_bytes) in
    headed file (printed_objects file.objects ++ behind_objects file.constants file.functions) all.tokens
    (headed_objects file.objects (behind_objects file.constants file.functions) all.reads) all.spells
