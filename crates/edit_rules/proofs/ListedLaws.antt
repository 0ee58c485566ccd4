-- Laws of list-directed output that callers of the writer use.
use Rattle.std.proofs.Common.{◌≡◌, ℕ, true, false, List, [], ◌∷◌, ◌++◌, take, drop, refl, sym, ap, ◌∙◌}
use Rattle.edit_meaning.specs.Listed.{ListedValue, shown, Listing, begun, followed_by, listing_from, listing, listed, in_making}
use Rattle.edit_rules.specs.Writer.{used_by, done_by, making_of, Stands}
use Rattle.edit_rules.specs.declared.list_writer.ListWriter.{ListWriter}

listing_from-append : (out : Listing) (values later : List ListedValue) → listing_from out (values ++ later) ≡ listing_from (listing_from out values) later
unfolding listing_from
listing_from-append out [] later = refl
listing_from-append out (value ∷ values) later = listing_from-append (followed_by out (shown value)) values later

-- one value more
pub listing-append : (values : List ListedValue) (value : ListedValue) → listing (values ++ value ∷ []) ≡ followed_by (listing values) (shown value)
unfolding listing listing_from
listing-append values value = listing_from-append begun values (value ∷ [])

-- the complete records of an output that goes on
pub listed-open : (values : List ListedValue) → listed values false ≡ (listing values).complete
unfolding listed
listed-open values = refl

-- the records of an output that has ended
pub listed-closed : (values : List ListedValue) → listed values true ≡ listed values false ++ in_making values ∷ []
unfolding listed in_making
listed-closed values = refl

pub in_making-is : (values : List ListedValue) → in_making values ≡ (listing values).making
unfolding in_making
in_making-is values = refl

-- at the start of an output the writer stands before its first value
pub stands-start : (item : ListedValue) (writer : ListWriter) (line : List ℕ) → used_by writer ≡ 1 → done_by writer ≡ 0 → take 1 line ≡ 32 ∷ []
    → Stands [] item [] writer line
unfolding listing listing_from begun
stands-start item writer line used done blank = record {
  output = ap (λ n. followed_by (record { complete = []; making = take n line }) (drop (done_by writer) (shown item))) used
      ∙ ap (λ m. followed_by (record { complete = []; making = m }) (drop (done_by writer) (shown item))) blank
      ∙ ap (λ n. followed_by begun (drop n (shown item))) done;
}

-- where the values stand in the records, the writer stands before a further value
pub stands-next : (values : List ListedValue) (item : ListedValue) (complete : List (List ℕ)) (writer : ListWriter) (line : List ℕ)
    → listing values ≡ record { complete = complete; making = making_of writer line } → done_by writer ≡ 0 → Stands values item complete writer line
stands-next values item complete writer line is done = record {
  output = ap (λ n. followed_by (record { complete = complete; making = making_of writer line }) (drop n (shown item))) done
      ∙ ap (λ out. followed_by out (shown item)) (sym is) ∙ sym (listing-append values item);
}
