-- How an output grows by one text: in place, behind a complete record, and by a piece.
use Rattle.std.proofs.Common.{◌≡◌, ℕ, zero, suc, ◌+◌, ◌-◌, ◌/◌, ◌<◌, ◌≤◌, List, [], ◌∷◌, ◌++◌, length, take, drop, refl, sym, ap, ◌∙◌, arith, length-drop, append_assoc, append-nil}
use Rattle.std.proofs.Common.{◌⊎◌, inl, inr, Bool, false, true, if◌then◌else◌, nat_le}
use Rattle.std.proofs.lemmas.Bool.{cases_lt}
use Rattle.std.proofs.lemmas.Bool.Decides.{nat_tests}
use Rattle.edit_meaning.specs.Listed.{ListedValue, shown, Listing, begun, next_record, extended, in_pieces, followed_by, pieces, cut_in}
use Rattle.edit_rules.specs.Writer.{only, behind, making_of, done_by, used_by, Puts, Fills, Stands, GoesOn}
use Rattle.edit_rules.specs.declared.list_writer.ListWriter.{ListWriter}
use Rattle.edit_rules.specs.declared.list_writer.ListPut.{ListPut}
use Rattle.edit_rules.specs.declared.list_writer.ListPut.TheVariants.{Placed, Full}

-- what follows where the text does not pass column 80
pub in_place : (out : Listing) (text : List ℕ) → length out.making + length text ≤ 80 → followed_by out text ≡ record out { making = out.making ++ text }
unfolding followed_by extended
in_place out text h = grind (arith, nat_tests)

in_pieces-behind : (first : List ℕ) (out : Listing) (ps : List (List ℕ)) → in_pieces (behind first out) ps ≡ behind first (in_pieces out ps)
unfolding in_pieces extended next_record
in_pieces-behind first out [] = refl
in_pieces-behind first out (p ∷ []) = refl
in_pieces-behind first out (p ∷ q ∷ ps) = in_pieces-behind first (next_record (extended out p)) (q ∷ ps)

one_piece : (text : List ℕ) → length text ≤ 79 → pieces text ≡ text ∷ []
unfolding pieces
one_piece text h = let e : (length text - 1) / 79 ≡ 0 = omega arith in rw e refl

more_pieces : (text : List ℕ) → 79 < length text → pieces text ≡ take 79 text ∷ pieces (drop 79 text)
unfolding pieces
more_pieces text h =
    let e : (length text - 1) / 79 ≡ suc ((length (drop 79 text) - 1) / 79) = rw length-drop (omega arith) in rw e refl

past : (out : Listing) (text : List ℕ) → 80 < length out.making + length text → followed_by out text ≡ in_pieces (if nat_le (length out.making) 1 then out else next_record out) (pieces text)
unfolding followed_by
past out text h = grind (arith, nat_tests)

afresh_by : (text : List ℕ) → (79 < length text) ⊎ (length text ≤ 79) → followed_by begun text ≡ in_pieces begun (pieces text)
unfolding begun in_pieces extended
afresh_by text (inr short) = rw (one_piece text short) (in_place begun text (omega arith))
afresh_by text (inl long) = past begun text (omega arith)

-- a record that holds its blank alone takes the pieces in any case
pub afresh : (text : List ℕ) → followed_by begun text ≡ in_pieces begun (pieces text)
afresh text = afresh_by text (cases_lt 79 (length text))

-- where the text passes column 80, a record with more than its blank is complete, and the text follows in a new one
pub in_next_record : (making text : List ℕ) → 80 < length making + length text → 1 < length making
    → followed_by (only making) text ≡ behind making (followed_by begun text)
unfolding next_record begun
in_next_record making text h more =
    let e : nat_le (length making) 1 ≡ false = grind (arith, nat_tests) in
    past (only making) text h ∙ rw e (in_pieces-behind making begun (pieces text) ∙ ap (behind making) (sym (afresh text)))

first_of_more : (k : ℕ) (first text : List ℕ) (out : Listing) → in_pieces out (first ∷ cut_in k text) ≡ in_pieces (next_record (extended out first)) (cut_in k text)
unfolding in_pieces
first_of_more zero first text out = refl
first_of_more (suc k) first text out = refl

first_piece : (first text : List ℕ) (out : Listing) → in_pieces out (first ∷ pieces text) ≡ in_pieces (next_record (extended out first)) (pieces text)
unfolding pieces
first_piece first text out = first_of_more _ first text out

-- where a text is longer than a record, its first piece is a complete record, and the rest follows in a new one
pub by_a_piece : (text : List ℕ) → 79 < length text
    → followed_by (only (32 ∷ [])) text ≡ behind (32 ∷ take 79 text) (followed_by begun (drop 79 text))
unfolding begun next_record extended
by_a_piece text h =
    afresh text ∙ rw (more_pieces text h) (first_piece (take 79 text) (drop 79 text) begun
    ∙ in_pieces-behind (32 ∷ take 79 text) begun (pieces (drop 79 text)) ∙ ap (behind (32 ∷ take 79 text)) (sym (afresh (drop 79 text))))

-- complete records stand before an output
abbrev pub after : List (List ℕ) → Listing → Listing
after complete out = record out { complete = complete ++ out.complete }

in_pieces-after : (c : List (List ℕ)) (out : Listing) (ps : List (List ℕ)) → in_pieces (after c out) ps ≡ after c (in_pieces out ps)
unfolding in_pieces extended next_record
in_pieces-after c out [] = refl
in_pieces-after c out (p ∷ []) = refl
in_pieces-after c out (p ∷ q ∷ ps) =
    ap (λ cs. in_pieces (record { complete = cs; making = 32 ∷ [] }) (q ∷ ps)) (append_assoc c out.complete _) ∙ in_pieces-after c (next_record (extended out p)) (q ∷ ps)

after_by : (fits : Bool) (blank : Bool) (c : List (List ℕ)) (out : Listing) (text : List ℕ) (ps : List (List ℕ))
    → (if fits then extended (after c out) text else in_pieces (if blank then after c out else next_record (after c out)) ps)
    ≡ after c (if fits then extended out text else in_pieces (if blank then out else next_record out) ps)
unfolding extended next_record
after_by true blank c out text ps = refl
after_by false true c out text ps = in_pieces-after c out ps
after_by false false c out text ps =
    ap (λ cs. in_pieces (record { complete = cs; making = 32 ∷ [] }) ps) (append_assoc c out.complete _) ∙ in_pieces-after c (next_record out) ps

-- the complete records before an output do not matter to it
pub followed_by-after : (c : List (List ℕ)) (out : Listing) (text : List ℕ) → followed_by (after c out) text ≡ after c (followed_by out text)
unfolding followed_by
followed_by-after c out text = after_by _ _ c out text (pieces text)

-- an output with these complete records
pub followed_by-record : (complete : List (List ℕ)) (making text : List ℕ)
    → followed_by (record { complete = complete; making = making }) text ≡ after complete (followed_by (only making) text)
followed_by-record complete making text =
    ap (λ cs. followed_by (record { complete = cs; making = making }) text) (sym (append-nil complete)) ∙ followed_by-after complete (only making) text

after-only : (complete : List (List ℕ)) (making : List ℕ) → after complete (only making) ≡ record { complete = complete; making = making }
after-only complete making = ap (λ cs. record { complete = cs; making = making }) (append-nil complete)

record_is : (used : ℕ) (line : List ℕ) → used ≡ 1 → take 1 line ≡ 32 ∷ [] → take used line ≡ 32 ∷ []
record_is used line u b = rw u b

moved : (complete : List (List ℕ)) (first : List ℕ) (out : Listing) → after (complete ++ first ∷ []) out ≡ after complete (behind first out)
moved complete first out = ap (λ cs. record out { complete = cs }) (append_assoc complete (first ∷ []) out.complete)

puts-full : (old : ListWriter) (line : List ℕ) (text : List ℕ) (used : ℕ) (new : ListWriter) (line' : List ℕ)
    → Fills old line text used new line' → take 1 line' ≡ 32 ∷ [] → (complete : List (List ℕ))
    → followed_by (record { complete = complete ++ take used line' ∷ []; making = making_of new line' }) (drop (done_by new) text)
    ≡ followed_by (record { complete = complete; making = making_of old line }) (drop (done_by old) text)
unfolding begun
puts-full old line text used new line' p b complete =
    ap (λ m. followed_by (record { complete = complete ++ take used line' ∷ []; making = m }) (drop (done_by new) text)) (record_is (used_by new) line' p.new_record b)
    ∙ followed_by-record (complete ++ take used line' ∷ []) (32 ∷ []) (drop (done_by new) text)
    ∙ moved complete (take used line') (followed_by begun (drop (done_by new) text))
    ∙ ap (after complete) (sym p.goes_on)
    ∙ sym (followed_by-record complete (making_of old line) (drop (done_by old) text))

-- a put keeps to the output
pub puts-listed : (old : ListWriter) (line : List ℕ) (item : ListedValue) (put : ListPut) (new : ListWriter) (line' : List ℕ)
    → Puts old line (shown item) put new line' → take 1 line' ≡ 32 ∷ []
    → (values : List ListedValue) (complete : List (List ℕ)) → Stands values item complete old line → GoesOn values item complete put new line'
puts-listed old line item Placed new line' p b values complete s =
    sym s.output ∙ followed_by-record complete (making_of old line) (drop (done_by old) (shown item)) ∙ ap (after complete) p.goes_in ∙ after-only complete (making_of new line')
puts-listed old line item (Full used) new line' p b values complete s = record { output = puts-full old line (shown item) used new line' p b complete ∙ s.output }
