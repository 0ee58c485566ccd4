-- Each form that is put together keeps that its reader is exact. What may follow, what a form begins with, and what it begins with or leads
-- on to where it may be empty, are tests of one piece.
use Rattle.std.proofs.Common.{◌≡◌, ℕ, zero, suc, ◌+◌, ◌≤◌, Bool, true, false, not, ◌||◌, List, [], ◌∷◌, ◌++◌, length, Option, Some, None, if◌then◌else◌, ◌⊎◌, inl, inr, refl, sym, ap, subst, ◌∙◌, arith, append_assoc, append-nil, le_trans, le_refl}
use Rattle.fortran_grammar.specs.fortran_lexemes.Lexemes.{Lexeme, Lexemes}
use Rattle.fortran_grammar.specs.Forms.{Sort, sort, behind, says_first, Said, Piece, After, UpTo, Both, Led, Either, Maybe, Meant, Where, Separated, alone, with_more, Many, none, another, Choice, Enclosed, WithComma, Open, Close, Comma}
use Rattle.grammar_laws.specs.Exactness.{Reader, Exact}
use Rattle.grammar_laws.specs.FormReading.{is_keyed, same, going_on, otherwise, said, with_rest, piece, after, up_to_piece, up_to, paired, both, led, either, maybe_read, maybe, meant, where_passes, where', items, separated, ended_by, looped_items, looped, choice, rounds, rounds_on, many, enclosed, with_comma}
use Rattle.grammar_laws.proofs.FormTests.{Test, all, also, or_else, but, is, covers, apart, left_true, right_true, or_left, or_right, not_true, covered, kept_apart, same_equal, equal_same}

-- a test of what stands at a place
abbrev pub On : Test → Lexemes → Bool
On p pieces = p (sort pieces)

pub record Told {A : Type 0} (read : Reader A) (Spelled : A → Lexemes → Lexemes → Type 0) (follows starts leads : Test) : Type 0 where
  pub exact : Exact read Spelled (On follows)
  pub begins : (x : A) (before after : Lexemes) → Spelled x before after → starts (sort before) ≡ true
  pub leads_on : (x : A) (before after : Lexemes) → Spelled x before after → follows (sort after) ≡ true → leads (sort before) ≡ true

pub same_read : {A : Type 0} (a b : A × Lexemes) → Some a ≡ Some b → a.0 ≡ b.0
same_read a b h = let e : a ≡ b = cc in ap (λ r. r.0) e

pub same_rest : {A : Type 0} (a b : A × Lexemes) → Some a ≡ Some b → b.1 ≡ a.1
same_rest a b h = let e : a ≡ b = cc in ap (λ r. r.1) (sym e)

-- what was gone on with, and what was not
pub gone_on : {A B : Type 0} (o : Option (A × Lexemes)) (next : A → Lexemes → Option B) (y : B) → going_on o next ≡ Some y
    → (read : A × Lexemes) × (o ≡ Some read) × (next read.0 read.1 ≡ Some y)
unfolding going_on
gone_on None next y h = absurd (cc)
gone_on (Some read) next y h = (read, refl, h)

paired_from : {A B : Type 0} (x : A) (o : Option (B × Lexemes)) (z : (A × B) × Lexemes) → paired x o ≡ Some z
    → (read : B × Lexemes) × (o ≡ Some read) × (((x, read.0), read.1) ≡ z)
unfolding paired
paired_from x None z h = absurd (cc)
paired_from x (Some read) z h = (read, refl, cc)

if_passes : {A : Type 0} (b : Bool) (x y : A) → (if b then Some x else None) ≡ Some y → (b ≡ true) × (x ≡ y)
if_passes true x y h = (refl, cc)
if_passes false x y h = absurd (cc)

pub if_true : {A : Type 0} (b : Bool) (x y : A) → b ≡ true → (if b then x else y) ≡ x
if_true true x y h = refl
if_true false x y h = absurd (cc)

pub shorter : (pieces : Lexemes) → length (behind pieces) ≤ length pieces
unfolding behind
shorter [] = le_refl _
shorter (p ∷ more) = omega arith

-- a piece
module _ {A : Type 0} (says : Lexeme → Option A) (starts : Test)
    (first : (p : Lexeme) (more : Lexemes) (x : A) → says p ≡ Some x → starts (sort (p ∷ more)) ≡ true) where
  piece_starts : (x : A) (before after : Lexemes) → Piece says x before after → starts (sort before) ≡ true
  unfolding Piece says_first
  piece_starts x [] after h = absurd (let e = h.0 in cc)
  piece_starts x (p ∷ more) after h = first p more x h.0

  piece_sound : (x : A) (before after : Lexemes) → piece says before ≡ Some (x, after) → Piece says x before after
  unfolding Piece piece with_rest
  piece_sound x before rest h = from (says_first says before) refl h
    where
      from : (o : Option A) → says_first says before ≡ o → with_rest (behind before) o ≡ Some (x, rest)
          → (says_first says before ≡ Some x) × (rest ≡ behind before)
      from None e h = absurd (cc)
      from (Some y) e h = (e ∙ ap Some (same_read _ _ h), same_rest _ _ h)

  pub told_piece : Told (piece says) (Piece says) all starts starts
  unfolding Piece piece with_rest
  told_piece = record {
    exact = record {
      sound = piece_sound;
      complete = λ x before after h ok. ap (with_rest (behind before)) h.0 ∙ ap (λ r. Some (x, r)) (sym h.1);
      no_longer = λ x before after h. subst (λ r. length r ≤ length before) (sym h.1) (shorter before);
    };
    begins = piece_starts;
    leads_on = λ x before after h ok. piece_starts x before after h;
  }

-- one form behind another
module _ {A B : Type 0} {first : Reader A} {f : A → Lexemes → Lexemes → Type 0} {second : Reader B} {g : B → Lexemes → Lexemes → Type 0}
    {F S L G T M : Test} (a : Told first f F S L) (b : Told second g G T M) (fits : covers M F ≡ true) where
  middle_fits : (y : B) (middle end : Lexemes) → g y middle end → G (sort end) ≡ true → F (sort middle) ≡ true
  middle_fits y middle end h ok = covered M F (sort middle) fits (b.leads_on y middle end h ok)

  both_sound : (x : A × B) (before end : Lexemes) → both first second before ≡ Some (x, end) → Both f g x before end
  unfolding both Both
  both_sound x before end h =
      let one = gone_on (first before) _ _ h in
      let two = paired_from one.0.0 (second one.0.1) _ one.2 in
      subst (λ (z : (A × B) × Lexemes). (middle : Lexemes) × f z.0.0 before middle × g z.0.1 middle z.1) two.2
      (one.0.1, a.exact.sound one.0.0 before one.0.1 one.1, b.exact.sound two.0.0 one.0.1 two.0.1 two.1)

  both_complete : (x : A × B) (before end : Lexemes) → Both f g x before end → G (sort end) ≡ true
      → both first second before ≡ Some (x, end)
  unfolding both Both going_on paired
  both_complete x before end h ok =
      ap (λ o. going_on o (λ y rest. paired y (second rest))) (a.exact.complete x.0 before h.0 h.1 (middle_fits x.1 h.0 end h.2 ok))
      ∙ ap (paired x.0) (b.exact.complete x.1 h.0 end h.2 ok)

  pub told_both : Told (both first second) (Both f g) G S L
  unfolding Both
  told_both = record {
    exact = record {
      sound = both_sound;
      complete = both_complete;
      no_longer = λ x before end h. le_trans (b.exact.no_longer x.1 h.0 end h.2) (a.exact.no_longer x.0 before h.0 h.1);
    };
    begins = λ x before end h. a.begins x.0 before h.0 h.1;
    leads_on = λ x before end h ok. a.leads_on x.0 before h.0 h.1 (middle_fits x.1 h.0 end h.2 ok);
  }

-- two forms, of which the second goes by what the first says
module _ {A B : Type 0} {first : Reader A} {f : A → Lexemes → Lexemes → Type 0} {second : A → Reader B}
    {g : A → B → Lexemes → Lexemes → Type 0} {F S L G T M : Test} (a : Told first f F S L) (b : (x : A) → Told (second x) (g x) G T M)
    (fits : covers M F ≡ true) where
  led_fits : (x : A) (y : B) (middle end : Lexemes) → g x y middle end → G (sort end) ≡ true → F (sort middle) ≡ true
  led_fits x y middle end h ok = covered M F (sort middle) fits ((b x).leads_on y middle end h ok)

  led_sound : (x : A × B) (before end : Lexemes) → led first second before ≡ Some (x, end) → Led f g x before end
  unfolding led Led
  led_sound x before end h =
      let one = gone_on (first before) _ _ h in
      let two = paired_from one.0.0 (second one.0.0 one.0.1) _ one.2 in
      subst (λ (z : (A × B) × Lexemes). (middle : Lexemes) × f z.0.0 before middle × g z.0.0 z.0.1 middle z.1) two.2
      (one.0.1, a.exact.sound one.0.0 before one.0.1 one.1, (b one.0.0).exact.sound two.0.0 one.0.1 two.0.1 two.1)

  led_complete : (x : A × B) (before end : Lexemes) → Led f g x before end → G (sort end) ≡ true → led first second before ≡ Some (x, end)
  unfolding led Led going_on paired
  led_complete x before end h ok =
      ap (λ o. going_on o (λ y rest. paired y (second y rest))) (a.exact.complete x.0 before h.0 h.1 (led_fits x.0 x.1 h.0 end h.2 ok))
      ∙ ap (paired x.0) ((b x.0).exact.complete x.1 h.0 end h.2 ok)

  pub told_led : Told (led first second) (Led f g) G S L
  unfolding Led
  told_led = record {
    exact = record {
      sound = led_sound;
      complete = led_complete;
      no_longer = λ x before end h. le_trans ((b x.0).exact.no_longer x.1 h.0 end h.2) (a.exact.no_longer x.0 before h.0 h.1);
    };
    begins = λ x before end h. a.begins x.0 before h.0 h.1;
    leads_on = λ x before end h ok. a.leads_on x.0 before h.0 h.1 (led_fits x.0 x.1 h.0 end h.2 ok);
  }

if_some : {A : Type 0} (b : Bool) (o : Option A) (y : A) → (if b then o else None) ≡ Some y → (b ≡ true) × (o ≡ Some y)
if_some true o y h = (refl, h)
if_some false o y h = absurd (cc)

-- a sort of piece before a form
module _ {A : Type 0} {read : Reader A} {f : A → Lexemes → Lexemes → Type 0} {F S L : Test} (k : Sort) (a : Told read f F S L) where
  after_sound : (x : A) (before end : Lexemes) → after k read before ≡ Some (x, end) → After k f x before end
  unfolding after After
  after_sound x before end h =
      let passed = if_some (same k (sort before)) (read (behind before)) _ h in
      (same_equal k (sort before) passed.0, a.exact.sound x (behind before) end passed.1)

  after_complete : (x : A) (before end : Lexemes) → After k f x before end → F (sort end) ≡ true → after k read before ≡ Some (x, end)
  unfolding after After
  after_complete x before end h ok =
      if_true (same k (sort before)) _ _ (equal_same k (sort before) h.0) ∙ a.exact.complete x (behind before) end h.1 ok

  pub told_after : Told (after k read) (After k f) F (is k) (is k)
  unfolding After
  told_after = record {
    exact = record {
      sound = after_sound;
      complete = after_complete;
      no_longer = λ x before end h. le_trans (a.exact.no_longer x (behind before) end h.1) (shorter before);
    };
    begins = λ x before end h. equal_same k (sort before) h.0;
    leads_on = λ x before end h ok. equal_same k (sort before) h.0;
  }

-- a sort of piece behind a form
module _ {A : Type 0} {read : Reader A} {f : A → Lexemes → Lexemes → Type 0} {F S L : Test} (a : Told read f F S L) (k : Sort)
    (fits : F k ≡ true) where
  up_to_sound : (x : A) (before end : Lexemes) → up_to read k before ≡ Some (x, end) → UpTo f k x before end
  unfolding up_to UpTo up_to_piece
  up_to_sound x before end h =
      let one = gone_on (read before) _ _ h in
      let passed = if_some (same k (sort one.0.1)) (Some (one.0.0, behind one.0.1)) _ one.2 in (
        one.0.1,
        subst (λ y. f y before one.0.1) (same_read _ _ passed.1) (a.exact.sound one.0.0 before one.0.1 one.1),
        same_equal k
            (sort one.0.1) passed.0,
        same_rest _ _ passed.1,
      )

  up_to_complete : (x : A) (before end : Lexemes) → UpTo f k x before end → up_to read k before ≡ Some (x, end)
  unfolding up_to UpTo going_on up_to_piece
  up_to_complete x before end h =
      ap (λ o. going_on o (up_to_piece k)) (a.exact.complete x before h.0 h.1 (subst (λ s. F s ≡ true) (sym h.2) fits))
      ∙ if_true (same k (sort h.0)) _ _ (equal_same k (sort h.0) h.2) ∙ ap (λ r. Some (x, r)) (sym h.3)

  pub told_up_to : Told (up_to read k) (UpTo f k) all S L
  unfolding UpTo
  told_up_to = record {
    exact = record {
      sound = up_to_sound;
      complete = λ x before end h ok. up_to_complete x before end h;
      no_longer = λ x before end h. subst (λ r. length r ≤ length before) (sym h.3)
          (le_trans (shorter h.0) (a.exact.no_longer x before h.0 h.1));
    };
    begins = λ x before end h. a.begins x before h.0 h.1;
    leads_on = λ x before end h ok. a.leads_on x before h.0 h.1 (subst (λ s. F s ≡ true) (sym h.2) fits);
  }

-- in parentheses
pub told_enclosed : {A : Type 0} {read : Reader A} {f : A → Lexemes → Lexemes → Type 0} {F S L : Test} → Told read f F S L
    → F Close ≡ true → Told (enclosed read) (Enclosed f) all (is Open) (is Open)
unfolding enclosed Enclosed
told_enclosed a fits = told_after Open (told_up_to a Close fits)

-- a reader gives nothing where its form cannot begin
pub gives_nothing : {A : Type 0} {read : Reader A} {f : A → Lexemes → Lexemes → Type 0} {F S L : Test} → Told read f F S L
    → (before : Lexemes) → S (sort before) ≡ false → read before ≡ None
gives_nothing {A} {read} {f} {F} {S} a before h = from (read before) refl
  where
    from : (o : Option (A × Lexemes)) → read before ≡ o → read before ≡ None
    from None e = e
    from (Some r) e = let begins = a.begins r.0 before r.1 (a.exact.sound r.0 before r.1 e) in absurd (cc)

otherwise_from : {A : Type 0} (o p : Option A) (y : A) → otherwise o p ≡ Some y → (o ≡ Some y) ⊎ (p ≡ Some y)
unfolding otherwise
otherwise_from None p y h = inr h
otherwise_from (Some x) p y h = inl h

-- one form or the other, where the reader of the first gives nothing at the second
module _ {A : Type 0} {one other : Reader A} {f g : A → Lexemes → Lexemes → Type 0} {F S L G T M : Test} (a : Told one f F S L)
    (b : Told other g G T M) (refuses : (x : A) (before end : Lexemes) → g x before end → G (sort end) ≡ true → one before ≡ None) where
  either_sound : (x : A) (before end : Lexemes) → either one other before ≡ Some (x, end) → Either f g x before end
  unfolding either Either
  either_sound x before end h = from (otherwise_from (one before) (other before) (x, end) h)
    where
      from : (one before ≡ Some (x, end)) ⊎ (other before ≡ Some (x, end)) → f x before end ⊎ g x before end
      from (inl h) = inl (a.exact.sound x before end h)
      from (inr h) = inr (b.exact.sound x before end h)

  either_complete : (x : A) (before end : Lexemes) → Either f g x before end → also F G (sort end) ≡ true
      → either one other before ≡ Some (x, end)
  unfolding either Either otherwise
  either_complete x before end (inl h) ok = ap (λ o. otherwise o (other before))
      (a.exact.complete x before end h (left_true (F (sort end)) (G (sort end)) ok))
  either_complete x before end (inr h) ok =
      ap (λ o. otherwise o (other before)) (refuses x before end h (right_true (F (sort end)) (G (sort end)) ok))
      ∙ b.exact.complete x before end h (right_true (F (sort end)) (G (sort end)) ok)

  either_no_longer : (x : A) (before end : Lexemes) → Either f g x before end → length end ≤ length before
  unfolding Either
  either_no_longer x before end (inl h) = a.exact.no_longer x before end h
  either_no_longer x before end (inr h) = b.exact.no_longer x before end h

  either_begins : (x : A) (before end : Lexemes) → Either f g x before end → or_else S T (sort before) ≡ true
  unfolding Either
  either_begins x before end (inl h) = or_left (S (sort before)) (T (sort before)) (a.begins x before end h)
  either_begins x before end (inr h) = or_right (S (sort before)) (T (sort before)) (b.begins x before end h)

  either_leads_on : (x : A) (before end : Lexemes) → Either f g x before end → also F G (sort end) ≡ true
      → or_else L M (sort before) ≡ true
  unfolding Either
  either_leads_on x before end (inl h) ok = or_left (L (sort before)) (M (sort before))
      (a.leads_on x before end h (left_true (F (sort end)) (G (sort end)) ok))
  either_leads_on x before end (inr h) ok = or_right (L (sort before)) (M (sort before))
      (b.leads_on x before end h (right_true (F (sort end)) (G (sort end)) ok))

  pub told_either_first : Told (either one other) (Either f g) (also F G) (or_else S T) (or_else L M)
  told_either_first = record {
    exact = record { sound = either_sound; complete = either_complete; no_longer = either_no_longer };
    begins = either_begins;
    leads_on = either_leads_on;
  }

-- one form or the other, where they begin with different sorts of pieces
pub told_either : {A : Type 0} {one other : Reader A} {f g : A → Lexemes → Lexemes → Type 0} {F S L G T M : Test} → Told one f F S L
    → Told other g G T M → apart S T ≡ true → Told (either one other) (Either f g) (also F G) (or_else S T) (or_else L M)
told_either {S} {T} a b told_apart =
    told_either_first a b (λ x before end h ok. gives_nothing a before
    (kept_apart S T (sort before) told_apart (b.begins x before end h)))

-- with a comma before it, or without one
pub told_with_comma : {A : Type 0} {read : Reader A} {f : A → Lexemes → Lexemes → Type 0} {F S L : Test} → Told read f F S L
    → apart (is Comma) S ≡ true → Told (with_comma read) (WithComma f) (also F F) (or_else (is Comma) S) (or_else (is Comma) L)
unfolding with_comma WithComma
told_with_comma a told_apart = told_either (told_after Comma a) a told_apart

-- the form or nothing
module _ {A : Type 0} {read : Reader A} {f : A → Lexemes → Lexemes → Type 0} {F S L : Test} (a : Told read f F S L) where
  maybe_sound : (x : Option A) (before end : Lexemes) → maybe read before ≡ Some (x, end) → Maybe f x before end
  unfolding maybe maybe_read Maybe
  maybe_sound x before end h = from (read before) refl x end h
    where
      from : (o : Option (A × Lexemes)) → read before ≡ o → (x : Option A) (end : Lexemes) → maybe_read before o ≡ Some (x, end)
          → Maybe f x before end
      from None e None end h = sym (same_rest _ _ h)
      from None e (Some x) end h = absurd (let c = same_read _ _ h in cc)
      from (Some r) e None end h = absurd (let c = same_read _ _ h in cc)
      from (Some r) e (Some x) end h =
          let says : r.0 ≡ x = (let c = same_read _ _ h in cc) in
          subst (λ y. f y before end) says (subst (λ m. f r.0 before m) (sym (same_rest _ _ h)) (a.exact.sound r.0 before r.1 e))

  maybe_complete : (x : Option A) (before end : Lexemes) → Maybe f x before end → but F S (sort end) ≡ true
      → maybe read before ≡ Some (x, end)
  unfolding maybe Maybe maybe_read
  maybe_complete None before end h ok =
      ap (maybe_read before) (gives_nothing a before (subst (λ b. S (sort b) ≡ false) (sym h)
      (not_true (S (sort end)) (right_true (F (sort end)) (not (S (sort end))) ok))))
      ∙ ap (λ r. Some (None, r)) h
  maybe_complete (Some x) before end h ok =
      ap (maybe_read before) (a.exact.complete x before end h (left_true (F (sort end)) (not (S (sort end))) ok))

  maybe_no_longer : (x : Option A) (before end : Lexemes) → Maybe f x before end → length end ≤ length before
  unfolding Maybe
  maybe_no_longer None before end h = subst (λ r. length r ≤ length before) h (le_refl _)
  maybe_no_longer (Some x) before end h = a.exact.no_longer x before end h

  maybe_leads_on : (x : Option A) (before end : Lexemes) → Maybe f x before end → but F S (sort end) ≡ true
      → or_else L (but F S) (sort before) ≡ true
  unfolding Maybe
  maybe_leads_on None before end h ok = or_right (L (sort before)) (but F S (sort before))
      (subst (λ b. but F S (sort b) ≡ true) (sym h) ok)
  maybe_leads_on (Some x) before end h ok = or_left (L (sort before)) (but F S (sort before))
      (a.leads_on x before end h (left_true (F (sort end)) (not (S (sort end))) ok))

  pub told_maybe : Told (maybe read) (Maybe f) (but F S) all (or_else L (but F S))
  told_maybe = record {
    exact = record { sound = maybe_sound; complete = maybe_complete; no_longer = maybe_no_longer };
    begins = λ x before end h. refl;
    leads_on = maybe_leads_on;
  }

-- in other words
module _ {A B : Type 0} {read : Reader A} {f : A → Lexemes → Lexemes → Type 0} {F S L : Test} (mean : A → B) (a : Told read f F S L) where
  meant_sound : (y : B) (before end : Lexemes) → meant mean read before ≡ Some (y, end) → Meant mean f y before end
  unfolding meant Meant
  meant_sound y before end h =
      let one = gone_on (read before) _ _ h in (
        one.0.0,
        sym (same_read _ _ one.2),
        subst (λ r. f one.0.0 before r) (sym (same_rest _ _ one.2))
            (a.exact.sound one.0.0 before one.0.1 one.1),
      )

  meant_complete : (y : B) (before end : Lexemes) → Meant mean f y before end → F (sort end) ≡ true
      → meant mean read before ≡ Some (y, end)
  unfolding meant Meant going_on
  meant_complete y before end h ok =
      ap (λ o. going_on o (λ x rest. Some (mean x, rest))) (a.exact.complete h.0 before end h.2 ok) ∙ ap (λ z. Some (z, end)) (sym h.1)

  pub told_meant : Told (meant mean read) (Meant mean f) F S L
  unfolding Meant
  told_meant = record {
    exact = record { sound = meant_sound; complete = meant_complete; no_longer = λ y before end h. a.exact.no_longer h.0 before end h.2 };
    begins = λ y before end h. a.begins h.0 before end h.2;
    leads_on = λ y before end h ok. a.leads_on h.0 before end h.2 ok;
  }

-- where a test passes
module _ {A : Type 0} {read : Reader A} {f : A → Lexemes → Lexemes → Type 0} {F S L : Test} (test : A → Bool) (a : Told read f F S L)
  where
    where_sound : (x : A) (before end : Lexemes) → where' test read before ≡ Some (x, end) → Where test f x before end
    unfolding where' where_passes Where
    where_sound x before end h =
        let one = gone_on (read before) _ _ h in
        let passed = if_some (test one.0.0) (Some one.0) _ one.2 in (
          subst (λ y. test y ≡ true) (same_read _ _ passed.1) passed.0,
          subst (λ r. f x before r) (sym (same_rest _ _ passed.1))
              (subst (λ y. f y before one.0.1) (same_read _ _ passed.1) (a.exact.sound one.0.0 before one.0.1 one.1)),
        )

    where_complete : (x : A) (before end : Lexemes) → Where test f x before end → F (sort end) ≡ true
        → where' test read before ≡ Some (x, end)
    unfolding where' Where going_on where_passes
    where_complete x before end h ok =
        ap (λ o. going_on o (where_passes test)) (a.exact.complete x before end h.1 ok) ∙ if_true (test x) _ _ h.0

    pub told_where : Told (where' test read) (Where test f) F S L
    unfolding Where
    told_where = record {
      exact = record { sound = where_sound; complete = where_complete; no_longer = λ y before end h. a.exact.no_longer y before end h.1 };
      begins = λ y before end h. a.begins y before end h.1;
      leads_on = λ y before end h ok. a.leads_on y before end h.1 ok;
    }

-- nothing written
pub told_said : {A : Type 0} (x : A) → Told (said x) (Said x) all all all
unfolding said Said
told_said {A} x = record {
  exact = record {
    sound = λ y before end h. (sym (same_read _ _ h), sym (same_rest _ _ h));
    complete = λ y before end h ok. ap (λ z. Some (z, before)) (sym h.0) ∙ ap (λ r. Some (y, r)) h.1;
    no_longer = λ y before end h. subst (λ r. length r ≤ length before) h.1 (le_refl _);
  };
  begins = λ y before end h. refl;
  leads_on = λ y before end h ok. refl;
}

pub if_false : {A : Type 0} (b : Bool) (x y : A) → b ≡ false → (if b then x else y) ≡ y
if_false true x y h = absurd (cc)
if_false false x y h = refl

-- a comma is a piece
pub comma_shortens : (pieces : Lexemes) → sort pieces ≡ Comma → suc (length (behind pieces)) ≤ length pieces
unfolding sort behind
comma_shortens [] h = absurd (cc)
comma_shortens (p ∷ more) h = le_refl _

pub by_bool : {A : Type 0} (b : Bool) → (b ≡ true → A) → (b ≡ false → A) → A
by_bool true yes' no' = yes' refl
by_bool false yes' no' = no' refl

abbrev Listed : {A : Type 0} → (A → Lexemes → Lexemes → Type 0) → List A → Lexemes → List A × Lexemes → Type 0
Listed {A} f found before read = (xs : List A) × (found ++ xs ≡ read.0) × Separated f xs before read.1

-- a list with commas
module _ {A : Type 0} {read : Reader A} {f : A → Lexemes → Lexemes → Type 0} {F S L : Test} (a : Told read f F S L)
    (fits : F Comma ≡ true) where
  comma_fits : (middle : Lexemes) → sort middle ≡ Comma → F (sort middle) ≡ true
  comma_fits middle h = subst (λ s. F s ≡ true) (sym h) fits

  items_sound : (fuel : ℕ) (found : List A) (before : Lexemes) (r : List A × Lexemes) → items fuel read found before ≡ Some r
      → Listed f found before r
  unfolding items
  items_sound zero found before r h = absurd (cc)
  items_sound (suc fuel) found before r h =
      let one = gone_on (read before) _ _ h in
      let x = one.0.0 in
      let middle = one.0.1 in
      let spelled = a.exact.sound x before middle one.1 in
      by_bool {A = Listed f found before r} (same Comma (sort middle))
      (λ e. let more = items_sound fuel (found ++ x ∷ []) (behind middle) r (sym (if_true _ _ _ e) ∙ one.2) in (
        x ∷ more.0,
        sym (append_assoc found (x ∷ []) more.0) ∙ more.1,
        with_more x more.0 before middle r.1 spelled
            (same_equal Comma (sort middle) e) more.2,
      ))
      (λ e. let ends = sym (if_false _ _ _ e) ∙ one.2 in
      (x ∷ [], same_read _ _ ends, subst (λ m. Separated f (x ∷ []) before m) (sym (same_rest _ _ ends)) (alone x before middle spelled)))

  items_complete : (xs : List A) (before end : Lexemes) → Separated f xs before end → but F (is Comma) (sort end) ≡ true
      → (fuel : ℕ) (found : List A) → length before ≤ fuel → items (suc fuel) read found before ≡ Some (found ++ xs, end)
  unfolding items going_on
  items_complete _ _ _ (alone x before end h) ok fuel found enough =
      ap (λ o. going_on o (λ x rest. if same Comma (sort rest) then items fuel read (found ++ x ∷ []) (behind rest) else Some
      (found ++ x ∷ [], rest)))
      (a.exact.complete x before end h (left_true (F (sort end)) (not (is Comma (sort end))) ok))
      ∙ if_false (same Comma (sort end)) _ _ (not_true (same Comma (sort end)) (right_true (F (sort end)) (not (is Comma (sort end))) ok))
  items_complete _ _ _ (with_more x xs before middle end h comma more) ok zero found enough =
      absurd (let one = a.exact.no_longer x before middle h in let two = comma_shortens middle comma in omega arith)
  items_complete _ _ _ (with_more x xs before middle end h comma more) ok (suc fuel) found enough =
      let one = a.exact.no_longer x before middle h in
      let two = comma_shortens middle comma in
      ap (λ o. going_on o (λ x rest. if same Comma (sort rest) then items (suc fuel) read (found ++ x ∷ []) (behind rest) else Some
      (found ++ x ∷ [], rest)))
      (a.exact.complete x before middle h (comma_fits middle comma))
      ∙ if_true (same Comma (sort middle)) _ _ (equal_same Comma (sort middle) comma)
      ∙ items_complete xs (behind middle) end more ok fuel (found ++ x ∷ []) (omega arith)
      ∙ ap (λ ys. Some (ys, end)) (append_assoc found (x ∷ []) xs)

  separated_no_longer : (xs : List A) (before end : Lexemes) → Separated f xs before end → length end ≤ length before
  separated_no_longer _ _ _ (alone x before end h) = a.exact.no_longer x before end h
  separated_no_longer _ _ _ (with_more x xs before middle end h comma more) =
      le_trans (separated_no_longer xs (behind middle) end more) (le_trans (shorter middle) (a.exact.no_longer x before middle h))

  separated_begins : (xs : List A) (before end : Lexemes) → Separated f xs before end → S (sort before) ≡ true
  separated_begins _ _ _ (alone x before end h) = a.begins x before end h
  separated_begins _ _ _ (with_more x xs before middle end h comma more) = a.begins x before middle h

  separated_leads_on : (xs : List A) (before end : Lexemes) → Separated f xs before end → but F (is Comma) (sort end) ≡ true
      → L (sort before) ≡ true
  separated_leads_on _ _ _ (alone x before end h) ok = a.leads_on x before end h (left_true (F (sort end)) (not (is Comma (sort end))) ok)
  separated_leads_on _ _ _ (with_more x xs before middle end h comma more) ok = a.leads_on x before middle h (comma_fits middle comma)

  separated_sound : (xs : List A) (before end : Lexemes) → separated read before ≡ Some (xs, end) → Separated f xs before end
  unfolding separated
  separated_sound xs before end h =
      let listed = items_sound (length before + 1) [] before (xs, end) h in
      subst (λ ys. Separated f ys before end) listed.1 listed.2

  separated_complete : (xs : List A) (before end : Lexemes) → Separated f xs before end → but F (is Comma) (sort end) ≡ true
      → separated read before ≡ Some (xs, end)
  unfolding separated
  separated_complete xs before end h ok =
      let fuel : length before + 1 ≡ suc (length before) = omega arith in
      subst (λ n. items n read [] before ≡ Some (xs, end)) (sym fuel) (items_complete xs before end h ok (length before) [] (le_refl _))

  pub told_separated : Told (separated read) (Separated f) (but F (is Comma)) S L
  told_separated = record {
    exact = record { sound = separated_sound; complete = separated_complete; no_longer = separated_no_longer };
    begins = separated_begins;
    leads_on = separated_leads_on;
  }

-- one form or the other, by a test of the pieces
module _ {A : Type 0} (test : Lexemes → Bool) {one other : Reader A} {f g : A → Lexemes → Lexemes → Type 0} {F S L G T M : Test}
    (a : Told one f F S L) (b : Told other g G T M) where
  choice_sound : (x : A) (before end : Lexemes) → choice test one other before ≡ Some (x, end) → Choice test f g x before end
  unfolding choice Choice
  choice_sound x before end h =
      by_bool {A = (test before ≡ true) × f x before end ⊎ (test before ≡ false) × g x before end} (test before)
      (λ e. inl (e, a.exact.sound x before end (sym (if_true _ _ _ e) ∙ h)))
      (λ e. inr (e, b.exact.sound x before end (sym (if_false _ _ _ e) ∙ h)))

  choice_complete : (x : A) (before end : Lexemes) → Choice test f g x before end → also F G (sort end) ≡ true
      → choice test one other before ≡ Some (x, end)
  unfolding choice Choice
  choice_complete x before end (inl h) ok = if_true _ _ _ h.0
      ∙ a.exact.complete x before end h.1 (left_true (F (sort end)) (G (sort end)) ok)
  choice_complete x before end (inr h) ok = if_false _ _ _ h.0
      ∙ b.exact.complete x before end h.1 (right_true (F (sort end)) (G (sort end)) ok)

  choice_no_longer : (x : A) (before end : Lexemes) → Choice test f g x before end → length end ≤ length before
  unfolding Choice
  choice_no_longer x before end (inl h) = a.exact.no_longer x before end h.1
  choice_no_longer x before end (inr h) = b.exact.no_longer x before end h.1

  choice_begins : (x : A) (before end : Lexemes) → Choice test f g x before end → or_else S T (sort before) ≡ true
  unfolding Choice
  choice_begins x before end (inl h) = or_left (S (sort before)) (T (sort before)) (a.begins x before end h.1)
  choice_begins x before end (inr h) = or_right (S (sort before)) (T (sort before)) (b.begins x before end h.1)

  choice_leads_on : (x : A) (before end : Lexemes) → Choice test f g x before end → also F G (sort end) ≡ true
      → or_else L M (sort before) ≡ true
  unfolding Choice
  choice_leads_on x before end (inl h) ok = or_left (L (sort before)) (M (sort before))
      (a.leads_on x before end h.1 (left_true (F (sort end)) (G (sort end)) ok))
  choice_leads_on x before end (inr h) ok = or_right (L (sort before)) (M (sort before))
      (b.leads_on x before end h.1 (right_true (F (sort end)) (G (sort end)) ok))

  pub told_choice : Told (choice test one other) (Choice test f g) (also F G) (or_else S T) (or_else L M)
  told_choice = record {
    exact = record { sound = choice_sound; complete = choice_complete; no_longer = choice_no_longer };
    begins = choice_begins;
    leads_on = choice_leads_on;
  }

-- fewer pieces may follow, and more may stand first
pub told_widened : {A : Type 0} {read : Reader A} {f : A → Lexemes → Lexemes → Type 0} {F S L : Test} (G T M : Test) → Told read f F S L
    → covers G F ≡ true → covers S T ≡ true → covers L M ≡ true → Told read f G T M
told_widened {F} {S} {L} G T M a fewer more most = record {
  exact = record {
    sound = a.exact.sound;
    complete = λ x before end h ok. a.exact.complete x before end h (covered G F (sort end) fewer ok);
    no_longer = a.exact.no_longer;
  };
  begins = λ x before end h. covered S T (sort before) more (a.begins x before end h);
  leads_on = λ x before end h ok. covered L M (sort before) most (a.leads_on x before end h (covered G F (sort end) fewer ok));
}

either_way : {A : Type 0} (a b : Bool) → (a || b) ≡ true → (a ≡ true → A) → (b ≡ true → A) → A
either_way true b h f g = f refl
either_way false b h f g = g h

-- forms one behind the other, each of which takes a piece
module _ {A : Type 0} {read : Reader A} {f : A → Lexemes → Lexemes → Type 0} {F S L : Test} (a : Told read f F S L)
    (shortens : (x : A) (before end : Lexemes) → f x before end → suc (length end) ≤ length before) (fits : covers L F ≡ true) where
  abbrev Followed : List A → Lexemes → List A × Lexemes → Type 0
  Followed found before r = (xs : List A) × (found ++ xs ≡ r.0) × Many f xs before r.1

  round_by : (fuel : ℕ) → ((found : List A) (rest : Lexemes) (r : List A × Lexemes) → rounds fuel read found rest ≡ Some r
      → Followed found rest r)
      → (found : List A) (before : Lexemes) (r : List A × Lexemes) (o : Option (A × Lexemes)) → read before ≡ o
      → rounds_on found before (λ x rest. rounds fuel read (found ++ x ∷ []) rest) o ≡ Some r → Followed found before r
  unfolding rounds_on
  round_by fuel again found before r None e h =
      ([], append-nil found ∙ same_read _ _ h, subst (λ m. Many f [] before m) (sym (same_rest _ _ h)) (none before))
  round_by fuel again found before r (Some one) e h =
      let more = again (found ++ one.0 ∷ []) one.1 r h in (
        one.0 ∷ more.0,
        sym (append_assoc found (one.0 ∷ []) more.0)
            ∙ more.1,
        another one.0 more.0 before one.1 r.1 (a.exact.sound one.0 before one.1 e) more.2,
      )

  rounds_sound : (fuel : ℕ) (found : List A) (before : Lexemes) (r : List A × Lexemes) → rounds fuel read found before ≡ Some r
      → Followed found before r
  unfolding rounds
  rounds_sound zero found before r h = absurd (cc)
  rounds_sound (suc fuel) found before r h =
      round_by fuel (λ found rest r h. rounds_sound fuel found rest r h) found before r (read before) refl h

  many_leads_on : (xs : List A) (before end : Lexemes) → Many f xs before end → but F S (sort end) ≡ true
      → or_else L (but F S) (sort before) ≡ true
  many_leads_on _ _ _ (none end) ok = or_right (L (sort end)) (but F S (sort end)) ok
  many_leads_on _ _ _ (another x xs before middle end h more) ok =
      or_left (L (sort before)) (but F S (sort before)) (a.leads_on x before middle h
      (or_fits (sort middle) (many_leads_on xs middle end more ok)))
    where
      or_fits : (s : Sort) → or_else L (but F S) s ≡ true → F s ≡ true
      or_fits s h = either_way (L s) (but F S s) h (λ l. covered L F s fits l) (λ l. left_true (F s) (not (S s)) l)

  middle_follows : (xs : List A) (middle end : Lexemes) → Many f xs middle end → but F S (sort end) ≡ true → F (sort middle) ≡ true
  middle_follows xs middle end more ok =
      either_way (L (sort middle)) (but F S (sort middle)) (many_leads_on xs middle end more ok) (λ l. covered L F (sort middle) fits l)
      (λ l. left_true (F (sort middle)) (not (S (sort middle))) l)

  rounds_complete : (xs : List A) (before end : Lexemes) → Many f xs before end → but F S (sort end) ≡ true
      → (fuel : ℕ) (found : List A) → length before ≤ fuel → rounds (suc fuel) read found before ≡ Some (found ++ xs, end)
  unfolding rounds rounds_on
  rounds_complete _ _ _ (none end) ok fuel found enough =
      ap (rounds_on found end (λ x rest. rounds fuel read (found ++ x ∷ []) rest))
      (gives_nothing a end (not_true (S (sort end)) (right_true (F (sort end)) (not (S (sort end))) ok)))
      ∙ ap (λ ys. Some (ys, end)) (sym (append-nil found))
  rounds_complete _ _ _ (another x xs before middle end h more) ok zero found enough =
      absurd (let one = shortens x before middle h in omega arith)
  rounds_complete _ _ _ (another x xs before middle end h more) ok (suc fuel) found enough =
      let one = shortens x before middle h in
      ap (rounds_on found before (λ x rest. rounds (suc fuel) read (found ++ x ∷ []) rest))
      (a.exact.complete x before middle h (middle_follows xs middle end more ok))
      ∙ rounds_complete xs middle end more ok fuel (found ++ x ∷ []) (omega arith)
      ∙ ap (λ ys. Some (ys, end)) (append_assoc found (x ∷ []) xs)

  many_no_longer : (xs : List A) (before end : Lexemes) → Many f xs before end → length end ≤ length before
  many_no_longer _ _ _ (none end) = le_refl _
  many_no_longer _ _ _ (another x xs before middle end h more) = le_trans (many_no_longer xs middle end more)
      (a.exact.no_longer x before middle h)

  many_sound : (xs : List A) (before end : Lexemes) → many read before ≡ Some (xs, end) → Many f xs before end
  unfolding many
  many_sound xs before end h =
      let listed = rounds_sound (length before + 1) [] before (xs, end) h in
      subst (λ ys. Many f ys before end) listed.1 listed.2

  many_complete : (xs : List A) (before end : Lexemes) → Many f xs before end → but F S (sort end) ≡ true
      → many read before ≡ Some (xs, end)
  unfolding many
  many_complete xs before end h ok =
      let fuel : length before + 1 ≡ suc (length before) = omega arith in
      subst (λ n. rounds n read [] before ≡ Some (xs, end)) (sym fuel) (rounds_complete xs before end h ok (length before) [] (le_refl _))

  pub told_many : Told (many read) (Many f) (but F S) all (or_else L (but F S))
  told_many = record {
    exact = record { sound = many_sound; complete = many_complete; no_longer = many_no_longer };
    begins = λ xs before end h. refl;
    leads_on = many_leads_on;
  }

-- items and commas, and then another form; a name and `=` begin the other, and it alone
pub data Looped {A B : Type 0} (f : A → Lexemes → Lexemes → Type 0) (g : B → Lexemes → Lexemes → Type 0) : List A × B → Lexemes → Lexemes
    → Type 0 where
  last_before : (x : A) (y : B) (before middle after : Lexemes) → f x before middle → sort middle ≡ Comma
      → is_keyed (behind middle) ≡ true → g y (behind middle) after → Looped f g (x ∷ [], y) before after
  one_before : (x : A) (xs : List A) (y : B) (before middle after : Lexemes) → f x before middle → sort middle ≡ Comma
      → is_keyed (behind middle) ≡ false → Looped f g (xs, y) (behind middle) after → Looped f g (x ∷ xs, y) before after

-- items up to a comma with a name and `=` behind it
module _ {A B : Type 0} {first : Reader A} {f : A → Lexemes → Lexemes → Type 0} {second : Reader B} {g : B → Lexemes → Lexemes → Type 0}
    {F S L G T M : Test} (a : Told first f F S L) (b : Told second g G T M) (fits : F Comma ≡ true) where
  abbrev LoopedOn : List A → Lexemes → (List A × B) × Lexemes → Type 0
  LoopedOn found before r = (xs : List A) × (found ++ xs ≡ r.0.0) × Looped f g (xs, r.0.1) before r.1

  ended_from : (found : List A) (o : Option (B × Lexemes)) (r : (List A × B) × Lexemes) → ended_by found o ≡ Some r
      → (read : B × Lexemes) × (o ≡ Some read) × (((found, read.0), read.1) ≡ r)
  unfolding ended_by
  ended_from found None r h = absurd (cc)
  ended_from found (Some read) r h = (read, refl, cc)

  looped_sound : (fuel : ℕ) (found : List A) (before : Lexemes) (r : (List A × B) × Lexemes)
      → looped_items fuel first second found before ≡ Some r → LoopedOn found before r
  unfolding looped_items
  looped_sound zero found before r h = absurd (cc)
  looped_sound (suc fuel) found before r h =
      let one = gone_on (first before) _ _ h in
      let x = one.0.0 in
      let middle = one.0.1 in
      let spelled = a.exact.sound x before middle one.1 in
      let comma = if_some (same Comma (sort middle)) _ r one.2 in
      let stands = same_equal Comma (sort middle) comma.0 in
      by_bool {A = LoopedOn found before r} (is_keyed (behind middle))
      (λ e. let ends = ended_from (found ++ x ∷ []) (second (behind middle)) r (sym (if_true _ _ _ e) ∙ comma.1) in
      subst (LoopedOn found before) ends.2 (
        x ∷ [],
        refl,
        last_before x ends.0.0 before middle ends.0.1 spelled stands e
            (b.exact.sound ends.0.0 (behind middle) ends.0.1 ends.1),
      ))
      (λ e. let more = looped_sound fuel (found ++ x ∷ []) (behind middle) r (sym (if_false _ _ _ e) ∙ comma.1) in (
        x ∷ more.0,
        sym (append_assoc found (x ∷ []) more.0) ∙ more.1,
        one_before x more.0 r.0.1 before middle r.1 spelled stands e
            more.2,
      ))

  abbrev step_on : ℕ → List A → A → Lexemes → Option ((List A × B) × Lexemes)
  step_on fuel found x rest =
      if same Comma (sort rest)
      then (if is_keyed (behind rest) then ended_by (found ++ x ∷ []) (second (behind rest)) else looped_items fuel first second
      (found ++ x ∷ []) (behind rest))
      else None

  stepped : (x : A) (before middle : Lexemes) (fuel : ℕ) (found : List A) → f x before middle → sort middle ≡ Comma
      → looped_items (suc fuel) first second found before ≡ (if is_keyed (behind middle) then ended_by (found ++ x ∷ [])
      (second (behind middle)) else looped_items fuel first second (found ++ x ∷ []) (behind middle))
  unfolding looped_items going_on
  stepped x before middle fuel found h comma =
      ap (λ o. going_on o (step_on fuel found)) (a.exact.complete x before middle h (subst (λ s. F s ≡ true) (sym comma) fits))
      ∙ if_true (same Comma (sort middle)) _ _ (equal_same Comma (sort middle) comma)

  looped_complete : (p : List A × B) (before end : Lexemes) → Looped f g p before end → G (sort end) ≡ true
      → (fuel : ℕ) (found : List A) → length before ≤ fuel → looped_items (suc fuel) first second found before ≡ Some
      ((found ++ p.0, p.1), end)
  unfolding ended_by
  looped_complete _ _ _ (last_before x y before middle end h comma keyed next) ok fuel found enough =
      stepped x before middle fuel found h comma ∙ if_true (is_keyed (behind middle)) _ _ keyed
      ∙ ap (ended_by (found ++ x ∷ [])) (b.exact.complete y (behind middle) end next ok)
  looped_complete _ _ _ (one_before x xs y before middle end h comma keyed more) ok zero found enough =
      absurd (let one = a.exact.no_longer x before middle h in let two = comma_shortens middle comma in omega arith)
  looped_complete _ _ _ (one_before x xs y before middle end h comma keyed more) ok (suc fuel) found enough =
      let one = a.exact.no_longer x before middle h in
      let two = comma_shortens middle comma in
      stepped x before middle (suc fuel) found h comma ∙ if_false (is_keyed (behind middle)) _ _ keyed
      ∙ looped_complete (xs, y) (behind middle) end more ok fuel (found ++ x ∷ []) (omega arith)
      ∙ ap (λ ys. Some ((ys, y), end)) (append_assoc found (x ∷ []) xs)

  looped_no_longer : (p : List A × B) (before end : Lexemes) → Looped f g p before end → length end ≤ length before
  looped_no_longer _ _ _ (last_before x y before middle end h comma keyed next) =
      le_trans (b.exact.no_longer y (behind middle) end next) (le_trans (shorter middle) (a.exact.no_longer x before middle h))
  looped_no_longer _ _ _ (one_before x xs y before middle end h comma keyed more) =
      le_trans (looped_no_longer (xs, y) (behind middle) end more) (le_trans (shorter middle) (a.exact.no_longer x before middle h))

  pub looped_first : {C : Type 0} (p : List A × B) (before end : Lexemes) → Looped f g p before end
      → ((x : A) (middle : Lexemes) → f x before middle → sort middle ≡ Comma → C) → C
  looped_first _ _ _ (last_before x y before middle end h comma keyed next) give = give x middle h comma
  looped_first _ _ _ (one_before x xs y before middle end h comma keyed more) give = give x middle h comma

  looped_exactly_sound : (p : List A × B) (before end : Lexemes) → looped first second before ≡ Some (p, end) → Looped f g p before end
  unfolding looped
  looped_exactly_sound p before end h =
      let read = looped_sound (length before + 1) [] before (p, end) h in
      subst (λ ys. Looped f g (ys, p.1) before end) read.1 read.2

  looped_exactly_complete : (p : List A × B) (before end : Lexemes) → Looped f g p before end → G (sort end) ≡ true
      → looped first second before ≡ Some (p, end)
  unfolding looped
  looped_exactly_complete p before end h ok =
      let fuel : length before + 1 ≡ suc (length before) = omega arith in
      subst (λ n. looped_items n first second [] before ≡ Some (p, end)) (sym fuel)
      (looped_complete p before end h ok (length before) [] (le_refl _))

  pub told_looped : Told (looped first second) (Looped f g) G S L
  told_looped = record {
    exact = record { sound = looped_exactly_sound; complete = looped_exactly_complete; no_longer = looped_no_longer };
    begins = λ p before end h. looped_first p before end h (λ x middle spelled comma. a.begins x before middle spelled);
    leads_on = λ p before end h ok. looped_first p before end h
        (λ x middle spelled comma. a.leads_on x before middle spelled (subst (λ s. F s ≡ true) (sym comma) fits));
  }

-- the form or nothing, before what a test of its own passes
pub told_maybe_before : {A : Type 0} {read : Reader A} {f : A → Lexemes → Lexemes → Type 0} {F S L : Test} (a : Told read f F S L)
    (G : Test) → covers G (but F S) ≡ true → Told (maybe read) (Maybe f) G all (or_else L G)
unfolding Maybe
told_maybe_before {A} {read} {f} {F} {S} {L} a G fewer = record {
  exact = record {
    sound = (told_maybe a).exact.sound;
    complete = λ x before end h ok. (told_maybe a).exact.complete x before end h (covered G (but F S) (sort end) fewer ok);
    no_longer = (told_maybe a).exact.no_longer;
  };
  begins = λ x before end h. refl;
  leads_on = leads;
}
  where
    leads : (x : Option A) (before end : Lexemes) → Maybe f x before end → G (sort end) ≡ true → or_else L G (sort before) ≡ true
    leads None before end h ok = or_right (L (sort before)) (G (sort before)) (subst (λ b. G (sort b) ≡ true) (sym h) ok)
    leads (Some x) before end h ok = or_left (L (sort before)) (G (sort before))
        (a.leads_on x before end h (left_true (F (sort end)) (not (S (sort end))) (covered G (but F S) (sort end) fewer ok)))

-- a list, a comma and another form, where a name and `=` begin the other alone
module _ {A B : Type 0} {first : Reader A} {f : A → Lexemes → Lexemes → Type 0} {second : Reader B} {g : B → Lexemes → Lexemes → Type 0}
    {F S L G T M : Test} (a : Told first f F S L) (b : Told second g G T M) (fits : F Comma ≡ true)
    (unkeyed : (x : A) (before middle : Lexemes) → f x before middle → sort middle ≡ Comma → is_keyed before ≡ false)
    (keyed : (y : B) (before end : Lexemes) → g y before end → is_keyed before ≡ true) where
  abbrev ListAndOther : List A × B → Lexemes → Lexemes → Type 0
  ListAndOther = Both (UpTo (Separated f) Comma) g

  first_unkeyed : (xs : List A) (before middle : Lexemes) → Separated f xs before middle → sort middle ≡ Comma → is_keyed before ≡ false
  first_unkeyed _ _ _ (alone x before middle h) comma = unkeyed x before middle h comma
  first_unkeyed _ _ _ (with_more x xs before middle end h between more) comma = unkeyed x before middle h between

  to_looped : (xs : List A) (y : B) (before middle end : Lexemes) → Separated f xs before middle → sort middle ≡ Comma
      → g y (behind middle) end
      → Looped f g (xs, y) before end
  to_looped _ y _ _ end (alone x before middle h) comma next =
      last_before x y before middle end h comma (keyed y (behind middle) end next) next
  to_looped _ y _ _ end (with_more x xs before middle last h between more) comma next =
      one_before x xs y before middle end h between (first_unkeyed xs (behind middle) last more comma)
      (to_looped xs y (behind middle) last end more comma next)

  from_looped : (p : List A × B) (before end : Lexemes) → Looped f g p before end → ListAndOther p before end
  unfolding Both UpTo
  from_looped _ _ _ (last_before x y before middle end h comma is_other next) =
      (behind middle, (middle, alone x before middle h, comma, refl), next)
  from_looped _ _ _ (one_before x xs y before middle end h comma is_item more) =
      let rest = from_looped (xs, y) (behind middle) end more in
      (rest.0, (rest.1.0, with_more x xs before middle rest.1.0 h comma rest.1.1, rest.1.2, rest.1.3), rest.2)

  as_looped : (p : List A × B) (before end : Lexemes) → ListAndOther p before end → Looped f g p before end
  unfolding Both UpTo
  as_looped p before end h = to_looped p.0 p.1 before h.1.0 end h.1.1 h.1.2 (subst (λ m. g p.1 m end) h.1.3 h.2)

  pub told_list_and_other : Told (looped first second) (Both (UpTo (Separated f) Comma) g) G S L
  told_list_and_other = record {
    exact = record {
      sound = λ p before end h. from_looped p before end ((told_looped a b fits).exact.sound p before end h);
      complete = λ p before end h ok. (told_looped a b fits).exact.complete p before end (as_looped p before end h) ok;
      no_longer = λ p before end h. (told_looped a b fits).exact.no_longer p before end (as_looped p before end h);
    };
    begins = λ p before end h. (told_looped a b fits).begins p before end (as_looped p before end h);
    leads_on = λ p before end h ok. (told_looped a b fits).leads_on p before end (as_looped p before end h) ok;
  }

-- one form or the other, told by a test of the pieces
module _ {A : Type 0} (test : Lexemes → Bool) {one other : Reader A} {f g : A → Lexemes → Lexemes → Type 0} {F S L G T M : Test}
    (a : Told one f F S L) (b : Told other g G T M)
    (passes : (x : A) (before end : Lexemes) → f x before end → F (sort end) ≡ true → test before ≡ true)
    (fails : (x : A) (before end : Lexemes) → g x before end → G (sort end) ≡ true → test before ≡ false) where
  decided_sound : (x : A) (before end : Lexemes) → choice test one other before ≡ Some (x, end) → Either f g x before end
  unfolding choice Either
  decided_sound x before end h =
      by_bool {A = f x before end ⊎ g x before end} (test before)
      (λ e. inl (a.exact.sound x before end (sym (if_true _ _ _ e) ∙ h)))
      (λ e. inr (b.exact.sound x before end (sym (if_false _ _ _ e) ∙ h)))

  decided_complete : (x : A) (before end : Lexemes) → Either f g x before end → also F G (sort end) ≡ true
      → choice test one other before ≡ Some (x, end)
  unfolding choice Either
  decided_complete x before end (inl h) ok =
      let ends = left_true (F (sort end)) (G (sort end)) ok in
      if_true _ _ _ (passes x before end h ends) ∙ a.exact.complete x before end h ends
  decided_complete x before end (inr h) ok =
      let ends = right_true (F (sort end)) (G (sort end)) ok in
      if_false _ _ _ (fails x before end h ends) ∙ b.exact.complete x before end h ends

  decided_no_longer : (x : A) (before end : Lexemes) → Either f g x before end → length end ≤ length before
  unfolding Either
  decided_no_longer x before end (inl h) = a.exact.no_longer x before end h
  decided_no_longer x before end (inr h) = b.exact.no_longer x before end h

  decided_begins : (x : A) (before end : Lexemes) → Either f g x before end → or_else S T (sort before) ≡ true
  unfolding Either
  decided_begins x before end (inl h) = or_left (S (sort before)) (T (sort before)) (a.begins x before end h)
  decided_begins x before end (inr h) = or_right (S (sort before)) (T (sort before)) (b.begins x before end h)

  decided_leads_on : (x : A) (before end : Lexemes) → Either f g x before end → also F G (sort end) ≡ true
      → or_else L M (sort before) ≡ true
  unfolding Either
  decided_leads_on x before end (inl h) ok =
      or_left (L (sort before)) (M (sort before)) (a.leads_on x before end h (left_true (F (sort end)) (G (sort end)) ok))
  decided_leads_on x before end (inr h) ok =
      or_right (L (sort before)) (M (sort before)) (b.leads_on x before end h (right_true (F (sort end)) (G (sort end)) ok))

  pub told_decided : Told (choice test one other) (Either f g) (also F G) (or_else S T) (or_else L M)
  told_decided = record {
    exact = record { sound = decided_sound; complete = decided_complete; no_longer = decided_no_longer };
    begins = decided_begins;
    leads_on = decided_leads_on;
  }
