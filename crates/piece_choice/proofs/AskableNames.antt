-- What a piece asks for is the name of a file.
use Rattle.std.proofs.Common.{◌≡◌, ℕ, ◌≤◌, Bool, true, false, List, [], ◌∷◌, ◌++◌, length, map, refl, sym, subst, arith, Option, Some, None}
use Rattle.std.specs.Prelude.{nat_le, codes, if◌then◌else◌}
use Rattle.std.specs.Char.{is_ascii_lowercase}
use Rattle.std.proofs.lemmas.Bool.{and_parts}
use Rattle.std.proofs.lemmas.Bool.Decides.{nat_tests}
use Rattle.std.proofs.lemmas.List.{length-append}
use Rattle.f2c_outside.specs.Texts.{IsName}
use Rattle.fsplit.specs.fortran_text.declared.source.Statement.{Statement}
use Rattle.fsplit.specs.fortran_text.Cards.{cards_of}
use Rattle.fsplit.specs.fortran_text.StatementsOfFile.{statements}
use Rattle.fsplit.specs.fortran_lexemes.KindsOfStatements.{begins_with, is_empty}
use Rattle.fsplit.specs.fortran_lexemes.declared.kinds.StmtKind.{StmtKind}
use Rattle.fsplit.specs.fortran_lexemes.declared.kinds.StmtKind.TheVariants as kind
use Rattle.fsplit.specs.split_pieces.Pieces.{Piece, piece_of, texts_of, pieces_of}
use Rattle.fsplit.specs.split_pieces.WantedNames.{is_name, nameless, by_run, by_block_run, by_kind, wanted_by, wanted_of}
use Rattle.fsplit.specs.split_pieces.declared.wanted.Wanted.TheVariants.{Named, BlockData, Unknown}
use Rattle.fsplit.specs.split_pieces.declared.wanted.WantedName.{WantedName}
use Rattle.piece_choice.specs.NamesOfPieces.{AreAskable}

abbrev IsAskable : WantedName → Type 0
IsAskable w = w.wanted ≡ Named → IsName w.name

short_enough : (n : ℕ) → nat_le n 31 ≡ true → n ≤ 31
short_enough n h = grind (arith, nat_tests)

name_of_file : (run : List ℕ) → is_name run ≡ true → IsName (run ++ codes ".f")
unfolding is_name
name_of_file run h =
    let short = short_enough (length run) (and_parts (begins_with is_ascii_lowercase run) (nat_le (length run) 31) h).1 in
    record { some = omega (arith, length-append run (codes ".f")); short = omega (arith, length-append run (codes ".f")) }

askable_run : (run : List ℕ) → IsAskable (by_run run)
unfolding by_run
askable_run run = by_test (is_name run) (name_of_file run)
  where
    by_test : (b : Bool) → (b ≡ true → IsName (run ++ codes ".f")) → IsAskable (if b then record { wanted = Named; name = run ++ codes ".f" } else nameless Unknown)
    by_test true named is = named refl
    by_test false named is = absurd (cc)

askable_block : (run : List ℕ) → IsAskable (by_block_run run)
unfolding by_block_run
askable_block run = by_test (is_empty run)
  where
    by_test : (b : Bool) → IsAskable (if b then nameless BlockData else by_run run)
    by_test true is = absurd (cc)
    by_test false is = askable_run run is

askable_kind : (found : Option StmtKind) (text : List ℕ) → IsAskable (by_kind found text)
unfolding by_kind
askable_kind None text is = absurd (cc)
askable_kind (Some kind.Program) text is = askable_run _ is
askable_kind (Some kind.Subroutine) text is = askable_run _ is
askable_kind (Some kind.Function) text is = askable_run _ is
askable_kind (Some kind.BlockData) text is = askable_block _ is
askable_kind (Some _) text is = absurd (cc)

askable_statements : (ss : List Statement) → IsAskable (wanted_by ss)
unfolding wanted_by
askable_statements [] is = absurd (cc)
askable_statements (s ∷ more) is = askable_kind _ _ is

askable : (text : List ℕ) → IsAskable (wanted_of text)
unfolding wanted_of
askable text is = askable_statements (statements 0 1 (cards_of text)) is

all_askable : (texts : List (List ℕ)) → AreAskable (map piece_of texts)
all_askable [] = tt
all_askable (text ∷ more) = (askable text, all_askable more)

pub askable_pieces : (bytes : List ℕ) (pieces : List Piece) → pieces ≡ pieces_of bytes → AreAskable pieces
unfolding pieces_of
askable_pieces bytes pieces is = subst AreAskable (sym is) (all_askable (texts_of bytes))
