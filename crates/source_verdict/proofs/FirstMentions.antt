-- The names that files mention: those of the first files stand first.
use Rattle.std.specs.Prelude.{◌≡◌, ℕ, zero, suc, ◌+◌, ◌≤◌, Bool, true, false, List, [], ◌∷◌, ◌++◌, length, take, slice_get, ◌||◌, bytes_eq, Some, if◌then◌else◌}
use Rattle.std.proofs.Common.{refl, sym, ap, subst, ◌∙◌, arith, append_assoc}
use Rattle.std.proofs.lemmas.List.{take-append-drop, length-append}
use Rattle.std.proofs.lemmas.Slice.Eq.{bytes_eq-Decides}
use Rattle.refusal_order.specs.f_tree.Setting.{IsIn, first_in, later_in}
use Rattle.refusal_order.specs.f_tree.Uses.{is_among}
use Rattle.source_acceptance.specs.SourceFiles.{names_in, statements_in, mentioned_from, first_mentions}

-- a list that begins with another
pub record BeginsWith {A : Type 0} (front whole : List A) : Type 0 where
  pub rest : List A
  pub is : whole ≡ front ++ rest

pub front_is_shorter : {A : Type 0} (front whole : List A) → BeginsWith front whole → length front ≤ length whole
front_is_shorter front whole begins =
    let all : length whole ≡ length (front ++ begins.rest) = ap length begins.is in
    let parts = length-append front begins.rest in
    omega (arith, all, parts)

mentioned_more : (file : ℕ) (one other : List (List ℕ)) → BeginsWith (mentioned_from file one) (mentioned_from file (one ++ other))
unfolding mentioned_from
mentioned_more file [] other = record { rest = mentioned_from file other; is = refl }
mentioned_more file (bytes ∷ more) other =
    let behind = mentioned_more (suc file) more other in
    record {
      rest = behind.rest;
      is = ap (λ ns. names_in (statements_in file bytes) ++ ns) behind.is
          ∙ sym (append_assoc (names_in (statements_in file bytes)) (mentioned_from (suc file) more) behind.rest);
    }

first_by : (b : Bool) (name : List ℕ) (one all kept_one kept_all : List (List ℕ)) → BeginsWith one all → BeginsWith kept_one kept_all →
    BeginsWith (if b then one else name ∷ kept_one) (if b then all else name ∷ kept_all)
first_by true name one all kept_one kept_all begins kept = begins
first_by false name one all kept_one kept_all begins kept = record { rest = kept.rest; is = ap (λ ns. name ∷ ns) kept.is }

first_more : (seen one other : List (List ℕ)) → BeginsWith (first_mentions seen one) (first_mentions seen (one ++ other))
unfolding first_mentions
first_more seen [] other = record { rest = first_mentions seen other; is = refl }
first_more seen (name ∷ more) other =
    first_by (is_among name seen) name (first_mentions seen more) (first_mentions seen (more ++ other)) (first_mentions (name ∷ seen) more)
    (first_mentions (name ∷ seen) (more ++ other)) (first_more seen more other) (first_more (name ∷ seen) more other)

abbrev pub mentions_of : List (List ℕ) → List (List ℕ)
mentions_of files = first_mentions [] (mentioned_from 0 files)

-- the first files mention the first names
pub mentions_more : (one other : List (List ℕ)) → BeginsWith (mentions_of one) (mentions_of (one ++ other))
mentions_more one other =
    let all = mentioned_more 0 one other in
    subst (λ ns. BeginsWith (mentions_of one) (first_mentions [] ns)) (sym all.is) (first_more [] (mentioned_from 0 one) all.rest)

pub mentions_take : (count : ℕ) (files : List (List ℕ)) → BeginsWith (mentions_of (take count files)) (mentions_of files)
mentions_take count files =
    subst (λ fs. BeginsWith (mentions_of (take count files)) (mentions_of fs)) (take-append-drop count files) (mentions_more (take count files) _)

-- THE NAMES of a file are among those that the files mention
pub in_front : {A : Type 0} (x : A) (xs ys : List A) → IsIn x xs → IsIn x (xs ++ ys)
in_front x [] ys among = elim among [ ]
in_front x (_ ∷ xs) ys first_in = first_in
in_front x (y ∷ xs) ys (later_in among) = later_in (in_front x xs ys among)

in_back : {A : Type 0} (x : A) (xs ys : List A) → IsIn x ys → IsIn x (xs ++ ys)
in_back x [] ys among = among
in_back x (y ∷ xs) ys among = later_in (in_back x xs ys among)

same_first : {A : Type 0} (a b : A) → Some a ≡ Some b → a ≡ b
same_first a b is = cc

pub mentioned_there : (start : ℕ) (files : List (List ℕ)) (place : ℕ) (bytes name : List ℕ) → slice_get files place ≡ Some bytes →
    IsIn name (names_in (statements_in (start + place) bytes)) → IsIn name (mentioned_from start files)
unfolding mentioned_from
mentioned_there start [] place bytes name at among = absurd (cc)
mentioned_there start (b ∷ more) zero bytes name at among =
    let here : bytes ≡ b = sym (same_first b bytes at) in
    let number : start + 0 ≡ start = omega arith in
    in_front name (names_in (statements_in start b)) (mentioned_from (suc start) more)
    (subst (λ x. IsIn name (names_in (statements_in start x))) here (subst (λ n. IsIn name (names_in (statements_in n bytes))) number among))
mentioned_there start (b ∷ more) (suc place) bytes name at among =
    let number : start + suc place ≡ suc start + place = omega arith in
    in_back name (names_in (statements_in start b)) (mentioned_from (suc start) more)
    (mentioned_there (suc start) more place bytes name at (subst (λ n. IsIn name (names_in (statements_in n bytes))) number among))

pub not_among : (name other : List ℕ) (seen : List (List ℕ)) (same among : Bool) → bytes_eq name other ≡ same → same ≡ false → is_among name seen ≡ among → among ≡ false →
    is_among name (other ∷ seen) ≡ false
unfolding is_among
not_among name other seen same among is differ at none = ap (λ b. b || is_among name seen) (is ∙ differ) ∙ (at ∙ none)

in_either : {A : Type 0} (b : Bool) (x : A) (xs ys : List A) → (b ≡ true → IsIn x xs) → (b ≡ false → IsIn x ys) → IsIn x (if b then xs else ys)
in_either true x xs ys one other = one refl
in_either false x xs ys one other = other refl

first_kept : (seen names : List (List ℕ)) (name : List ℕ) → is_among name seen ≡ false → IsIn name names → IsIn name (first_mentions seen names)
unfolding first_mentions
first_kept seen [] name new among = elim among [ ]
first_kept seen (_ ∷ more) name new first_in =
    in_either (is_among name seen) name (first_mentions seen more) (name ∷ first_mentions (name ∷ seen) more) (λ old. absurd (cc)) (λ is. first_in)
first_kept seen (n ∷ more) name new (later_in among) =
    in_either (is_among n seen) name (first_mentions seen more) (n ∷ first_mentions (n ∷ seen) more) (λ old. first_kept seen more name new among)
    (λ is. by (bytes_eq name n) refl (λ same. first_kept (n ∷ seen) more name (not_among name n seen false false same refl new refl) among))
  where
    by : (same : Bool) → bytes_eq name n ≡ same → (bytes_eq name n ≡ false → IsIn name (first_mentions (n ∷ seen) more)) →
        IsIn name (n ∷ first_mentions (n ∷ seen) more)
    by true same rest = subst (λ x. IsIn name (x ∷ first_mentions (n ∷ seen) more)) ((bytes_eq-Decides name n).0 same) first_in
    by false same rest = later_in (rest same)

none_seen : (name : List ℕ) → is_among name [] ≡ false
unfolding is_among
none_seen name = refl

pub mentioned_in : (files : List (List ℕ)) (place : ℕ) (bytes name : List ℕ) → slice_get files place ≡ Some bytes → IsIn name (names_in (statements_in place bytes)) →
    IsIn name (mentions_of files)
mentioned_in files place bytes name at among =
    let number : place ≡ 0 + place = omega arith in
    first_kept [] (mentioned_from 0 files) name (none_seen name)
    (mentioned_there 0 files place bytes name at (subst (λ n. IsIn name (names_in (statements_in n bytes))) number among))
