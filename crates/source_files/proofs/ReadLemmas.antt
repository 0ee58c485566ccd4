-- What reading the files that a source includes does to a shelf, one file after the other.
use Rattle.std.specs.Prelude.{◌≡◌, ℕ, suc, ◌+◌, ◌-◌, ◌<◌, ◌≤◌, List, [], ◌∷◌, ◌++◌, length, take, drop, Option, Some, None, Result, Ok, Err, IfSome, IfOk, IfErr}
use Rattle.std.proofs.Common.{refl, sym, ap, ◌∙◌, subst, arith, append_assoc, slice_index_or}
use Rattle.std.proofs.Math.Seq.{take-length}
use Rattle.std.proofs.lemmas.List.{append-nil, length-append}
use Rattle.f2c_outside.specs.declared.shelves.Place.{Place}
use Rattle.f2c_outside.specs.declared.shelves.Place.TheVariants.{File as FileNamed}
use Rattle.f2c_outside.specs.Shelf.{ShelfState, Contents, Lacks, bytes_of}
use Rattle.f2c_outside.specs.Texts.{IsName}
use Rattle.shelf_texts.specs.ShelfLoops.{IsKept, IsRead}
use Rattle.source_files.specs.declared.failing.SourceFail.{SourceFail}
use Rattle.source_files.specs.declared.failing.SourceFail.TheVariants as source_fail
use Rattle.source_files.specs.SourceOnShelf.{IsThere, AreThere}
use Rattle.source_files.specs.SourceReads.{IsPlaceUnread, IsFrontOf, AreFronts, AreRead, IsFirstLacking, IsLacking, IsUnreadFile, AreUnread}
use Rattle.source_files.proofs.ListLemmas.{mapped}
use Rattle.source_files.proofs.PlaceLemmas.{kept_kept, kept_as_it_is, rose_later}

pub there_all : (most : ℕ) (c : Contents) (names texts : List (List ℕ)) → AreFronts most names texts c → AreThere names c
unfolding AreFronts AreThere
there_all most c [] [] read = tt
there_all most c [] (text ∷ texts) read = absurd read
there_all most c (name ∷ names) [] read = absurd read
there_all most c (name ∷ names) (text ∷ texts) read = (read.0.there, there_all most c names texts read.1)

-- ONE FILE
both_at : (most : ℕ) (name bytes : List ℕ) (place : Place) (told : Option Contents) → place ≡ FileNamed name → IsName name → IfSome told (λ c. ¬ Lacks place c) →
    IfSome told (λ c. bytes ≡ take most (bytes_of place c)) → IfSome told (AreFronts most (name ∷ []) (bytes ∷ []))
unfolding AreFronts
both_at most name bytes place None is fits there front = tt
both_at most name bytes place (Some c) is fits there front = (
  record {
    there = record { is_name = fits; there = subst (λ p. ¬ Lacks p c) is there };
    front = front ∙ ap (λ p. take most (bytes_of p c)) is;
  },
  tt,
)

one_read : (most : ℕ) (name bytes : List ℕ) (place : Place) (b a : ShelfState) → place ≡ FileNamed name → IsName name → IsRead place most b a bytes →
    AreRead most (name ∷ []) (bytes ∷ []) b a
one_read most name bytes place b a is fits read = record {
  kept = read.kept;
  quiet = read.quiet;
  count = refl;
  fronts = both_at most name bytes place b.told is fits read.there read.front;
}

pub lacks_name : (name : List ℕ) (told : Option Contents) → ¬ IsName name → IfSome told (λ c. ¬ IsThere name c)
lacks_name name None bad = tt
lacks_name name (Some c) bad = λ there. bad there.is_name

pub lacking : (name missing : List ℕ) (b : ShelfState) → ¬ IsName name → missing ≡ name → IsLacking name missing b b
lacking name missing b bad named = record { kept = kept_as_it_is b; quiet = refl; named = named; lacks = lacks_name name b.told bad }

pub no_memory : (name : List ℕ) (b : ShelfState) (fail : SourceFail) → fail ≡ source_fail.NoMemory → IsUnreadFile name b b fail
no_memory name b fail is = subst (IsUnreadFile name b b) (sym is) (kept_as_it_is b)

lacks_place : (name : List ℕ) (place : Place) (told : Option Contents) → place ≡ FileNamed name → IfSome told (Lacks place) → IfSome told (λ c. ¬ IsThere name c)
lacks_place name place told is lacks = mapped told (Lacks place) (λ c. ¬ IsThere name c) lacks (λ c lack there. there.there (subst (λ p. Lacks p c) is lack))

same_name : (name other : List ℕ) → FileNamed name ≡ FileNamed other → name ≡ other
same_name name other is = cc

-- what is said of its place is said of its name
by_name : (name : List ℕ) (b a : ShelfState) (fail : SourceFail) → IsPlaceUnread (FileNamed name) b a fail → IsUnreadFile name b a fail
by_name name b a source_fail.NoMemory kept = kept
by_name name b a (source_fail.NotThere missing) one = record { kept = one.kept; quiet = one.quiet; named = same_name missing name (sym one.named); lacks = lacks_place name (FileNamed name) b.told refl one.lacks }
by_name name b a (source_fail.Unread place) one = one

unread_place : (name : List ℕ) (place : Place) (b a : ShelfState) (fail : SourceFail) → place ≡ FileNamed name → IsPlaceUnread place b a fail → IsUnreadFile name b a fail
unread_place name place b a fail is unread = by_name name b a fail (subst (λ p. IsPlaceUnread p b a fail) is unread)

pub read_ok : (name : List ℕ) (place : Place) (b a : ShelfState) (result : Result (List ℕ) SourceFail) → place ≡ FileNamed name → IsName name →
    IfOk result (IsRead place 16777217 b a) → IfOk result (λ text. AreRead 16777217 (name ∷ []) (text ∷ []) b a)
read_ok name place b a (Ok text) is fits read = one_read 16777217 name text place b a is fits read
read_ok name place b a (Err fail) is fits read = tt

pub read_err : (name : List ℕ) (place : Place) (b a : ShelfState) (result : Result (List ℕ) SourceFail) → place ≡ FileNamed name → IfErr result (IsPlaceUnread place b a) →
    IfErr result (IsUnreadFile name b a)
read_err name place b a (Ok text) is unread = tt
read_err name place b a (Err fail) is unread = unread_place name place b a fail is unread

-- FILES IN THEIR ORDER
fronts_append : (most : ℕ) (c : Contents) (names texts : List (List ℕ)) (name text : List ℕ) → AreFronts most names texts c → IsFrontOf most name text c →
    AreFronts most (names ++ name ∷ []) (texts ++ text ∷ []) c
unfolding AreFronts
fronts_append most c [] [] name text read one = (one, tt)
fronts_append most c [] (t ∷ texts) name text read one = absurd read
fronts_append most c (n ∷ names) [] name text read one = absurd read
fronts_append most c (n ∷ names) (t ∷ texts) name text read one = (read.0, fronts_append most c names texts name text read.1 one)

first_front : (most : ℕ) (c : Contents) (name text : List ℕ) → AreFronts most (name ∷ []) (text ∷ []) c → IsFrontOf most name text c
unfolding AreFronts
first_front most c name text read = read.0

append_at : (most : ℕ) (names texts : List (List ℕ)) (name text : List ℕ) (told later : Option Contents) → later ≡ told → IfSome told (AreFronts most names texts) →
    IfSome later (AreFronts most (name ∷ []) (text ∷ [])) → IfSome told (AreFronts most (names ++ name ∷ []) (texts ++ text ∷ []))
append_at most names texts name text None later same read one = tt
append_at most names texts name text (Some c) None same read one = absurd (cc)
append_at most names texts name text (Some c) (Some d) same read one =
    let its : d ≡ c = cc in fronts_append most c names texts name text read (subst (IsFrontOf most name text) its (first_front most d name text one))

-- the files before those that are left
pub record IsReadSoFar (most : ℕ) (names rest texts : List (List ℕ)) (b a : ShelfState) : Type 0 where
  pub done : List (List ℕ)
  pub is : names ≡ done ++ rest
  pub read : AreRead most done texts b a

none_at : (most : ℕ) (told : Option Contents) → IfSome told (AreFronts most [] [])
unfolding AreFronts
none_at most None = tt
none_at most (Some c) = tt

pub at_begin : (most : ℕ) (names : List (List ℕ)) (b : ShelfState) → IsReadSoFar most names names [] b b
at_begin most names b = record {
  done = [];
  is = refl;
  read = record { kept = kept_as_it_is b; quiet = refl; count = refl; fronts = none_at most b.told };
}

behind_name : (most : ℕ) (names : List (List ℕ)) (name : List ℕ) (rest texts : List (List ℕ)) (text : List ℕ) (b m a : ShelfState) →
    IsReadSoFar most names (name ∷ rest) texts b m → AreRead most (name ∷ []) (text ∷ []) m a → IsReadSoFar most names rest (texts ++ text ∷ []) b a
behind_name most names name rest texts text b m a seen one = record {
  done = seen.done ++ name ∷ [];
  is = seen.is ∙ sym (append_assoc seen.done (name ∷ []) rest);
  read = record {
    kept = kept_kept b m a seen.read.kept one.kept;
    quiet = one.quiet ∙ seen.read.quiet;
    count = length-append texts (text ∷ []) ∙ ap (λ n. n + 1) seen.read.count ∙ sym (length-append seen.done (name ∷ []));
    fronts = append_at most seen.done texts name text b.told m.told seen.read.kept.same seen.read.fronts one.fronts;
  };
}

rest_of : {A : Type 0} (x : A) (xs : List A) → take (length (x ∷ xs) - 1) (drop 1 (x ∷ xs)) ≡ xs
rest_of x xs = let one : length xs ≡ suc (length xs) - 1 = omega arith in subst (λ k. take k xs ≡ xs) one (take-length xs)

pub behind_one : (most : ℕ) (names rest texts : List (List ℕ)) (name d text : List ℕ) (b m a : ShelfState) → 1 ≤ length rest → name ≡ slice_index_or rest 0 d →
    AreRead most (name ∷ []) (text ∷ []) m a → IsReadSoFar most names rest texts b m → IsReadSoFar most names (take (length rest - 1) (drop 1 rest)) (texts ++ text ∷ []) b a
behind_one most names [] texts name d text b m a some is one seen = absurd (omega (arith, some))
behind_one most names (n ∷ rest) texts name d text b m a some is one seen =
    subst (λ left. IsReadSoFar most names left (texts ++ text ∷ []) b a) (sym (rest_of n rest))
    (behind_name most names n rest texts text b m a seen (subst (λ x. AreRead most (x ∷ []) (text ∷ []) m a) is one))

pub at_end : (most : ℕ) (names rest texts : List (List ℕ)) (b a : ShelfState) → length rest < 1 → IsReadSoFar most names rest texts b a → AreRead most names texts b a
at_end most names [] texts b a none seen = subst (λ ns. AreRead most ns texts b a) (sym (append-nil seen.done) ∙ sym seen.is) seen.read
at_end most names (n ∷ rest) texts b a none seen = absurd (omega (arith, none))

-- a file that was not read
first_lacking : (most : ℕ) (names done rest texts : List (List ℕ)) (name : List ℕ) (told later : Option Contents) → later ≡ told → names ≡ done ++ name ∷ rest →
    IfSome told (AreFronts most done texts) → IfSome later (λ c. ¬ IsThere name c) → IfSome told (IsFirstLacking names name)
first_lacking most names done rest texts name None later same is read lacks = tt
first_lacking most names done rest texts name (Some c) None same is read lacks = absurd (cc)
first_lacking most names done rest texts name (Some c) (Some d) same is read lacks =
    let its : d ≡ c = cc in
    record { before = done; behind = rest; is = is; others = there_all most c done texts read; lacks = subst (λ x. ¬ IsThere name x) its lacks }

unread_behind : (most : ℕ) (names : List (List ℕ)) (name : List ℕ) (rest texts : List (List ℕ)) (b m a : ShelfState) (fail : SourceFail) →
    IsReadSoFar most names (name ∷ rest) texts b m → IsUnreadFile name m a fail → AreUnread names b a fail
unread_behind most names name rest texts b m a source_fail.NoMemory seen kept = kept_kept b m a seen.read.kept kept
unread_behind most names name rest texts b m a (source_fail.NotThere missing) seen lack =
    let is : names ≡ seen.done ++ missing ∷ rest = seen.is ∙ ap (λ n. seen.done ++ n ∷ rest) (sym lack.named) in
    record {
      kept = kept_kept b m a seen.read.kept lack.kept;
      quiet = lack.quiet ∙ seen.read.quiet;
      among = record { before = seen.done; behind = rest; is = is };
      first =
          first_lacking most names seen.done rest texts missing b.told m.told seen.read.kept.same is seen.read.fronts
          (subst (λ n. IfSome m.told (λ c. ¬ IsThere n c)) (sym lack.named) lack.lacks);
    }
unread_behind most names name rest texts b m a (source_fail.Unread place) seen failed = record {
  kept = kept_kept b m a seen.read.kept failed.kept;
  name = name;
  named = failed.named;
  among = record { before = seen.done; behind = rest; is = seen.is };
  rose = rose_later b m a seen.read.kept failed.rose;
}

pub unread_one : (most : ℕ) (names rest texts : List (List ℕ)) (name d : List ℕ) (b m a : ShelfState) (fail : SourceFail) → 1 ≤ length rest → name ≡ slice_index_or rest 0 d →
    IsUnreadFile name m a fail → IsReadSoFar most names rest texts b m → AreUnread names b a fail
unread_one most names [] texts name d b m a fail some is unread seen = absurd (omega (arith, some))
unread_one most names (n ∷ rest) texts name d b m a fail some is unread seen =
    unread_behind most names n rest texts b m a fail seen (subst (λ x. IsUnreadFile x m a fail) is unread)

pub no_memory_left : (most : ℕ) (names rest texts done_names done_texts : List (List ℕ)) (b m a : ShelfState) → IsReadSoFar most names rest texts b m →
    AreRead most done_names done_texts m a → IsKept b a
no_memory_left most names rest texts done_names done_texts b m a seen one = kept_kept b m a seen.read.kept one.kept
