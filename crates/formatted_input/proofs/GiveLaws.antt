-- The items of a call, one by one.
use Rattle.std.proofs.Common.{◌≡◌, ℕ, ℤ, suc, List, Option, None, refl, ap, sym, ◌∙◌, subst}
use Rattle.std.specs.Prelude.{Result, Ok, Err}
use Rattle.c_tree.specs.run_state.Units.{Units}
use Rattle.c_tree.specs.declared.outcome.CValue.{CValue}
use Rattle.c_tree.specs.Faults.{Or, failing}
use Rattle.c_tree.specs.Objects.{Object}
use Rattle.c_tree.specs.World.{Transfer, Reply}
use Rattle.c_tree.specs.LibraryArguments.{shifted}
use Rattle.c_tree.specs.Transfers.{numbered}
use Rattle.c_tree.specs.TransferInput.{formatted_item}
use Rattle.c_tree.specs.TransferCalls.{each_item}
use Rattle.taken_items.proofs.NextLaws.{from-next}
use Rattle.edit_rules.specs.edit_meaning.Formats.{Format}
use Rattle.edit_rules.specs.Walks.{StandsIn}
use Rattle.f2c_outside.specs.Table.{Row}
use Rattle.f2c_outside.specs.Meaning.{Tells, units_of}
use Rattle.unit_answers.specs.Answers.{world_with}
use Rattle.listed_output.specs.Writing.{StayedOn}
use Rattle.listed_output.proofs.RowLaws.{stays-stays, stays-same}
use Rattle.formatted_input.specs.declared.calls.FormattedInput.{FormattedInput}
use Rattle.formatted_input.specs.declared.acts.Stop.{Stop}
use Rattle.formatted_input.specs.declared.acts.Stop.TheVariants as stop
use Rattle.formatted_input.specs.Acting.{ReadsFrom}
use Rattle.formatted_input.specs.Transferring.{StandsFor}
use Rattle.formatted_input.specs.Giving.{SameInput, GivesOn, ItemMeans, GivesItem, ItemsMean, GivesItems}
use Rattle.formatted_input.proofs.ReadLaws.{devices-then}

-- the transfer once some items have their values, and those from a pointer on that are left
pub record Along (text : List ℕ) (given : FormattedInput) (format : Format) (meaning : Or Reply) (objects : List Object) (going : Option Transfer) (units : Units) (size left : ℕ) (pointer : CValue) : Type 0 where
  pub transfer : Transfer
  pub stands : StandsFor text given transfer
  pub same : stands.format ≡ format
  pub means : meaning ≡ each_item size (formatted_item format size) left pointer transfer (world_with objects going units)

pub record Giving (text : List ℕ) (first_input given : FormattedInput) (objects objects' : List Object) (count size : ℕ) (first : CValue) (left : ℕ) (pointer : CValue) (rows rows' : List Row) : Type 0 where
  pub same : SameInput first_input given
  pub inside : StandsIn given.walk text
  pub tells : Tells rows → Tells rows'
  pub stays : StayedOn first_input.unit rows rows'
  pub means : Tells rows → (transfer : Transfer) → (stands : StandsFor text first_input transfer) → (going : Option Transfer) →
      Along text given stands.format (each_item size (formatted_item stands.format size) count first transfer (world_with objects going (units_of rows))) objects' going (units_of rows') size left pointer

pub giving-starts : (text : List ℕ) (given : FormattedInput) (objects : List Object) (count size : ℕ) (first : CValue) (left : ℕ) (rows : List Row) → left ≡ count → StandsIn given.walk text →
    Giving text given given objects objects count size first left first rows rows
giving-starts text given objects count size first left rows all inside = record {
  same = record { unit = refl; on_error = refl; on_end = refl };
  inside = inside;
  tells = λ tells. tells;
  stays = stays-same given.unit rows;
  means = λ tells transfer stands going. record {
    transfer = transfer;
    stands = stands;
    same = refl;
    means = ap (λ (n : ℕ). each_item size (formatted_item stands.format size) n first transfer (world_with objects going (units_of rows))) (sym all);
  };
}

same-then : (a b c : FormattedInput) → SameInput a b → SameInput b c → SameInput a c
same-then a b c one two = record { unit = two.unit ∙ one.unit; on_error = two.on_error ∙ one.on_error; on_end = two.on_end ∙ one.on_end }

-- what the next item means, under the format of the call
next-means :
    (text : List ℕ) (given given' : FormattedInput) (format : Format) (objects objects' : List Object) (pointer : CValue) (size : ℕ) (before after_it : Units) (result : Result (Unit {0}) Stop) (transfer : Transfer)
    (going : Option Transfer) → (stands : StandsFor text given transfer) → stands.format ≡ format →
    ItemMeans (formatted_item stands.format size pointer transfer (world_with objects going before)) objects' going after_it text stands.format given given' result →
    ItemMeans (formatted_item format size pointer transfer (world_with objects going before)) objects' going after_it text format given given' result
next-means text given given' format objects objects' pointer size before after_it result transfer going stands same means =
    subst (λ (one : Format). ItemMeans (formatted_item one size pointer transfer (world_with objects going before)) objects' going after_it text one given given' result) same means

pub giving-goes_on :
    (text : List ℕ) (first_input given given' : FormattedInput) (objects objects' objects'' : List Object) (count size : ℕ) (first : CValue) (left less : ℕ) (pointer next : CValue) (rows rows' rows'' : List Row) →
    left ≡ suc less → next ≡ shifted size pointer → GivesItem text given given' objects' objects'' pointer size rows' rows'' (Ok tt) →
    Giving text first_input given objects objects' count size first left pointer rows rows' → Giving text first_input given' objects objects'' count size first less next rows rows''
giving-goes_on text first_input given given' objects objects' objects'' count size first left less pointer next rows rows' rows'' more moved gives before = record {
  same = same-then first_input given given' before.same gives.same;
  inside = gives.inside;
  tells = λ tells. gives.tells (before.tells tells);
  stays = stays-stays first_input.unit rows rows' rows'' before.stays (subst (λ (number : ℤ). StayedOn number rows' rows'') before.same.unit gives.devices);
  means = λ tells transfer stands going.
      let along = before.means tells transfer stands going in
      let one : GivesOn (formatted_item stands.format size pointer along.transfer (world_with objects' going (units_of rows'))) objects'' going (units_of rows'') text stands.format given' =
      next-means text given given' stands.format objects' objects'' pointer size (units_of rows') (units_of rows'') (Ok tt) along.transfer going along.stands along.same
      (gives.means (before.tells tells) along.transfer along.stands going) in
      record {
        transfer = one.transfer;
        stands = one.stands;
        same = one.same;
        means = along.means
            ∙ from-next stands.format size left less pointer along.transfer (world_with objects' going (units_of rows')) _ more one.means
            ∙ ap (λ (at : CValue). each_item size (formatted_item stands.format size) less at one.transfer (world_with objects'' going (units_of rows''))) (sym moved);
      };
}

pub giving-ends :
    (text : List ℕ) (first_input given : FormattedInput) (objects objects' : List Object) (count size : ℕ) (first : CValue) (left : ℕ) (pointer : CValue) (rows rows' : List Row) → left ≡ 0 →
    Giving text first_input given objects objects' count size first left pointer rows rows' → GivesItems text first_input given objects objects' count size first rows rows' (Ok tt)
giving-ends text first_input given objects objects' count size first left pointer rows rows' none before = record {
  same = before.same;
  inside = before.inside;
  tells = before.tells;
  means = λ tells transfer stands going.
      let along = before.means tells transfer stands going in
      record {
        transfer = along.transfer;
        stands = along.stands;
        replies = along.means ∙ ap (λ (n : ℕ). each_item size (formatted_item stands.format size) n pointer along.transfer (world_with objects' going (units_of rows'))) none;
      };
  devices = before.stays;
}

stopped-then :
    (text : List ℕ) (objects objects' : List Object) (going : Option Transfer) (before after_it : Units) (first_input given given' : FormattedInput) (format : Format) (size left less : ℕ) (pointer : CValue)
    (transfer : Transfer) (meaning : Or Reply) (why : Stop) → SameInput first_input given → left ≡ suc less →
    meaning ≡ each_item size (formatted_item format size) left pointer transfer (world_with objects going before) →
    ItemMeans (formatted_item format size pointer transfer (world_with objects going before)) objects' going after_it text format given given' (Err why) →
    ItemsMean meaning objects' after_it text first_input given' (Err why)
stopped-then text objects objects' going before after_it first_input given given' format size left less pointer transfer meaning (stop.Number number) same more is means =
    is ∙ from-next format size left less pointer transfer (world_with objects going before) _ more means
    ∙ ap (λ (n : ℤ). Ok (numbered number n given.on_end (world_with objects' None after_it))) same.on_error
    ∙ ap (λ (n : ℤ). Ok (numbered number first_input.on_error n (world_with objects' None after_it))) same.on_end
stopped-then text objects objects' going before after_it first_input given given' format size left less pointer transfer meaning stop.Device same more is means = tt
stopped-then text objects objects' going before after_it first_input given given' format size left less pointer transfer meaning (stop.Fault fault) same more is means =
    is ∙ from-next format size left less pointer transfer (world_with objects going before) (failing fault) more means

pub giving-stops :
    (text : List ℕ) (first_input given given' : FormattedInput) (objects objects' objects'' : List Object) (count size : ℕ) (first : CValue) (left less : ℕ) (pointer : CValue) (rows rows' rows'' : List Row)
    (why : Stop) → left ≡ suc less → GivesItem text given given' objects' objects'' pointer size rows' rows'' (Err why) →
    Giving text first_input given objects objects' count size first left pointer rows rows' → GivesItems text first_input given' objects objects'' count size first rows rows'' (Err why)
giving-stops text first_input given given' objects objects' objects'' count size first left less pointer rows rows' rows'' why more gives before = record {
  same = same-then first_input given given' before.same gives.same;
  inside = gives.inside;
  tells = λ tells. gives.tells (before.tells tells);
  means = λ tells transfer stands going.
      let along = before.means tells transfer stands going in
      stopped-then text objects' objects'' going (units_of rows') (units_of rows'') first_input given given' stands.format size left less pointer along.transfer
      (each_item size (formatted_item stands.format size) count first transfer (world_with objects going (units_of rows))) why before.same more along.means
      (next-means text given given' stands.format objects' objects'' pointer size (units_of rows') (units_of rows'') (Err why) along.transfer going along.stands along.same
      (gives.means (before.tells tells) along.transfer along.stands going));
  devices = devices-then (Unit {0}) (Unit {0}) first_input.unit rows rows' rows'' why before.stays
      (subst (λ (number : ℤ). ReadsFrom number rows' rows'' (let r : Result (Unit {0}) Stop = Err why in r)) before.same.unit gives.devices);
}
