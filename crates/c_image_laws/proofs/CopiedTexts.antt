-- A text that the library copies or joins into a place is the one that FORTRAN defines there.
use Rattle.std.specs.Prelude.{pos, ◌++◌, length, Ok}
use Rattle.std.proofs.Common.{refl, ap, ◌∙◌}
use Rattle.c_laws.specs.c_tree.declared.outcome.CValue.TheVariants.{Number, Pointer}
use Rattle.c_laws.specs.c_tree.Faults.{after}
use Rattle.c_laws.specs.c_tree.World as c
use Rattle.c_laws.specs.c_tree.Library.{library}
use Rattle.c_laws.specs.c_tree.LibraryArguments.{number_through, count_from, length_from, text_at, shifted}
use Rattle.c_laws.specs.c_tree.LibraryTexts.{put_text, copied, concatenated, pieces}
use Rattle.c_image_laws.specs.Pieces.{no_pieces, one_piece, PiecesAreRead, TextsAreCopied, TextsAreJoined}
use Rattle.c_image_laws.proofs.DefinedPlaces.{text_defined}
use Rattle.c_image_laws.proofs.TextValues.{length_is}

pub texts_are_copied : TextsAreCopied
unfolding library copied
texts_are_copied μ s later world p object cs source stands sound at gives bytes read =
    let kept = text_defined μ s later world.objects p object cs stands sound at gives bytes in
    let target = Pointer object p.first in
    record {
      objects = kept.objects;
      stored =
          ap (λ found. after found λ size. after (length_from (Number (pos (length cs)))) λ count. after (text_at world.objects source count) λ text. put_text world target size text) (length_is p.width) ∙
          ap (λ found. after found λ count. after (text_at world.objects source count) λ text. put_text world target p.width text) (length_is (length cs)) ∙
          ap (λ found. after found λ text. put_text world target p.width text) read ∙
          ap (λ found. after found λ objects. Ok (c.Void (record world { objects = objects }))) kept.stored;
      stands = kept.stands;
    }

pub pieces_are_read : PiecesAreRead
pieces_are_read objects _ _ _ _ (no_pieces addresses lengths) = refl
pieces_are_read objects _ _ _ _ (one_piece addresses lengths count address piece later first size text more) =
    ap (λ found. after found λ place. after (number_through objects lengths) λ number. after (count_from number) λ long. after (text_at objects place.value long) λ one. after (pieces objects (shifted 1 addresses) (shifted 4 lengths) count) λ rest. Ok (one ++ rest)) first ∙
    ap (λ found. after found λ number. after (count_from number) λ long. after (text_at objects address long) λ one. after (pieces objects (shifted 1 addresses) (shifted 4 lengths) count) λ rest. Ok (one ++ rest)) size ∙
    ap (λ found. after found λ long. after (text_at objects address long) λ one. after (pieces objects (shifted 1 addresses) (shifted 4 lengths) count) λ rest. Ok (one ++ rest)) (length_is (length piece)) ∙
    ap (λ found. after found λ one. after (pieces objects (shifted 1 addresses) (shifted 4 lengths) count) λ rest. Ok (one ++ rest)) text ∙
    ap (λ found. after found λ rest. Ok (piece ++ rest)) (pieces_are_read objects (shifted 1 addresses) (shifted 4 lengths) count later more)

pub texts_are_joined : TextsAreJoined
unfolding library concatenated
texts_are_joined μ s later world p object cs addresses lengths counter count stands sound at gives bytes counted are =
    let kept = text_defined μ s later world.objects p object cs stands sound at gives bytes in
    let target = Pointer object p.first in
    record {
      objects = kept.objects;
      stored =
          ap (λ found. after found λ number. after (count_from number) λ n. after (length_from (Number (pos p.width))) λ size. after (pieces world.objects addresses lengths n) λ text. put_text world target size text) counted ∙
          ap (λ found. after found λ n. after (length_from (Number (pos p.width))) λ size. after (pieces world.objects addresses lengths n) λ text. put_text world target size text) (length_is count) ∙
          ap (λ found. after found λ size. after (pieces world.objects addresses lengths count) λ text. put_text world target size text) (length_is p.width) ∙
          ap (λ found. after found λ text. put_text world target p.width text) (pieces_are_read world.objects addresses lengths count cs are) ∙
          ap (λ found. after found λ objects. Ok (c.Void (record world { objects = objects }))) kept.stored;
      stands = kept.stands;
    }
