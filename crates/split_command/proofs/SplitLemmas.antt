-- From a file to the files of its pieces.
use Rattle.std.proofs.Common.{◌≡◌, ℕ, ◌<◌, List, [], ◌++◌, refl, sym, ap, subst, ◌∙◌, arith, Option, Some, None, option_map, inl, inr}
use Rattle.std.proofs.lemmas.List.{append-nil}
use Rattle.f2c_outside.specs.declared.shelves.Place.TheVariants.{Output}
use Rattle.f2c_outside.specs.Shelf.{Contents, ShelfState, added, begun}
use Rattle.shelf_texts.specs.ShelfLoops.{Both, IsFrontWritten, IsWritten, IsUnwritten}
use Rattle.shelf_texts.proofs.Writing.{front_nil}
use Rattle.piece_writer.specs.WrittenPieces.{AreMade, AreWritten}
use Rattle.split_command.specs.Listing.{listing}
use Rattle.split_command.specs.SplitFiles.{IsSplit, IsAllWritten, IsHalfListed, IsHalfSplit, at_listing}

-- THE LISTING behind the pieces
listed_on : (names texts : List (List ℕ)) (text : List ℕ) (b m : Contents) → AreMade names texts b m → IsSplit names texts text b (added Output text (begun Output m))
listed_on names texts text b m made = record {
  hold = made.hold;
  others = made.only.others;
  input = made.only.input;
  output = ap (λ o. o ++ text) made.only.output;
  fault = made.only.fault;
}

none_listed : (names texts : List (List ℕ)) (b m : Contents) → AreMade names texts b m → IsSplit names texts [] b m
none_listed names texts b m made = record {
  hold = made.hold;
  others = made.only.others;
  input = made.only.input;
  output = made.only.output ∙ sym (append-nil b.output);
  fault = made.only.fault;
}

both_then : (o m a : Option Contents) (f : Contents → Contents) (P Q : Contents → Contents → Type 0) → Both o m P → a ≡ option_map f m
    → ((x y : Contents) → P x y → Q x (f y)) → Both o a Q
both_then None None None f P Q made is on = tt
both_then None None (Some a) f P Q made is on = absurd (cc)
both_then None (Some m) a f P Q made is on = absurd made
both_then (Some o) None a f P Q made is on = absurd made
both_then (Some o) (Some m) None f P Q made is on = absurd (cc)
both_then (Some o) (Some m) (Some a) f P Q made is on = let its : f m ≡ a = cc in subst (Q o) its (on o m made)

both_same : (o m a : Option Contents) (P Q : Contents → Contents → Type 0) → Both o m P → a ≡ m → ((x y : Contents) → P x y → Q x y) → Both o a Q
both_same None None a P Q made is on = subst (λ l. Both None l Q) (sym is) tt
both_same None (Some m) a P Q made is on = absurd made
both_same (Some o) None a P Q made is on = absurd made
both_same (Some o) (Some m) a P Q made is on = subst (λ l. Both (Some o) l Q) (sym is) (on o m made)

pub all_written : (names texts : List (List ℕ)) (text : List ℕ) (b m a : ShelfState) → text ≡ listing names → AreWritten names texts b m → IsWritten Output text m a
    → IsAllWritten names texts b a
all_written names texts text b m a text_is made wrote = record {
  quiet = wrote.quiet ∙ made.quiet;
  split =
      both_then b.told m.told a.told (λ c. added Output text (begun Output c)) (AreMade names texts) (IsSplit names texts (listing names)) made.made wrote.whole
      (λ x y h. subst (λ t. IsSplit names texts t x (added Output text (begun Output y))) text_is (listed_on names texts text x y h));
}

half_listed : (names texts : List (List ℕ)) (o m a : Option Contents) → Both o m (AreMade names texts) → IsFrontWritten Output (listing names) m a
    → Both o a (IsHalfListed names texts)
half_listed names texts o m a made (inl same) =
    both_same o m a (AreMade names texts) (IsHalfListed names texts) made same
    (λ x y h. record { listed = []; front = front_nil (listing names); split = none_listed names texts x y h })
half_listed names texts o m a made (inr part) =
    both_then o m a (λ c. added Output part.0 (begun Output c)) (AreMade names texts) (IsHalfListed names texts) made part.2
    (λ x y h. record { listed = part.0; front = part.1; split = listed_on names texts part.0 x y h })

pub not_listed : (names texts : List (List ℕ)) (text : List ℕ) (b m a : ShelfState) → text ≡ listing names → AreWritten names texts b m → IsUnwritten Output text m a
    → IsHalfSplit names texts Output b a
not_listed names texts text b m a text_is made failed =
    let later = failed.later in
    at_listing refl
    (record {
      rose = λ below. let less : m.faults < a.faults = failed.rose below in omega (arith, made.quiet);
      not_less = omega (arith, made.quiet);
      split = half_listed names texts b.told m.told a.told made.made (subst (λ t. IsFrontWritten Output t m.told a.told) text_is failed.front);
    })
