-- The items of a call, one by one.
use Rattle.std.proofs.Common.{◌≡◌, ℕ, ℤ, suc, pos, List, Option, None, refl, ap, sym, ◌∙◌, subst}
use Rattle.std.specs.Prelude.{Result, Ok, Err}
use Rattle.c_tree.specs.run_state.Units.{Units}
use Rattle.run_state.specs.declared.refusals.UnitRefusal.TheVariants.{NotConnected, NotOffered, Taken, PastEnd, Failed}
use Rattle.c_tree.specs.declared.outcome.CValue.{CValue}
use Rattle.c_tree.specs.Faults.{Or, after, failing}
use Rattle.c_tree.specs.Objects.{Object}
use Rattle.c_tree.specs.World.{Transfer, World, Reply}
use Rattle.c_tree.specs.LibraryArguments.{shifted}
use Rattle.c_tree.specs.Transfers.{Passage, numbered}
use Rattle.c_tree.specs.TransferOutput.{formatted_put}
use Rattle.c_tree.specs.TransferCalls.{each_item, then_later}
use Rattle.edit_rules.specs.edit_meaning.Formats.{Format}
use Rattle.edit_rules.specs.Walks.{StandsIn}
use Rattle.f2c_outside.specs.Table.{Row}
use Rattle.f2c_outside.specs.Meaning.{Tells, units_of}
use Rattle.unit_answers.specs.Answers.{world_with}
use Rattle.listed_output.specs.Items.{StandsThere}
use Rattle.listed_output.specs.Writing.{StayedOn, FailsOn}
use Rattle.listed_output.proofs.RowLaws.{stays-stays, stays-fails, stays-same}
use Rattle.formatted_output.specs.declared.calls.FormattedOutput.{FormattedOutput}
use Rattle.formatted_output.specs.declared.acts.Stop.{Stop}
use Rattle.formatted_output.specs.declared.acts.Stop.TheVariants as stop
use Rattle.formatted_output.specs.Acting.{writing}
use Rattle.formatted_output.specs.Transferring.{StandsFor}
use Rattle.formatted_output.specs.Putting.{SameOutput, PutsOn, Answered, ItemMeans, PutsItem, Numbered, ItemsMean, PutsItems}

-- the transfer once some items are put, and those from a pointer on that are left
pub record Along (text : List ℕ) (output : FormattedOutput) (format : Format) (meaning : Or Reply) (objects : List Object) (going : Option Transfer) (units : Units) (size left : ℕ) (pointer : CValue) : Type 0 where
  pub transfer : Transfer
  pub stands : StandsFor text output transfer
  pub same : stands.format ≡ format
  pub means : meaning ≡ each_item size (formatted_put format size) left pointer transfer (world_with objects going units)

pub record Putting (text : List ℕ) (first_output output : FormattedOutput) (objects : List Object) (count size : ℕ) (first : CValue) (left : ℕ) (pointer : CValue) (rows rows' : List Row) : Type 0 where
  pub same : SameOutput first_output output
  pub inside : StandsIn output.walk text
  pub tells : Tells rows → Tells rows'
  pub stays : StayedOn first_output.unit rows rows'
  pub means : Tells rows → (transfer : Transfer) → (stands : StandsFor text first_output transfer) → (going : Option Transfer) →
      Along text output stands.format (each_item size (formatted_put stands.format size) count first transfer (world_with objects going (units_of rows))) objects going (units_of rows') size left pointer

pub putting-starts : (text : List ℕ) (output : FormattedOutput) (objects : List Object) (count size : ℕ) (first : CValue) (left : ℕ) (rows : List Row) → left ≡ count → StandsIn output.walk text →
    Putting text output output objects count size first left first rows rows
putting-starts text output objects count size first left rows all inside = record {
  same = record { unit = refl; on_error = refl; on_end = refl };
  inside = inside;
  tells = λ tells. tells;
  stays = stays-same output.unit rows;
  means = λ tells transfer stands going. record {
    transfer = transfer;
    stands = stands;
    same = refl;
    means = ap (λ (n : ℕ). each_item size (formatted_put stands.format size) n first transfer (world_with objects going (units_of rows))) (sym all);
  };
}

same-then : (a b c : FormattedOutput) → SameOutput a b → SameOutput b c → SameOutput a c
same-then a b c one two = record { unit = two.unit ∙ one.unit; on_error = two.on_error ∙ one.on_error; on_end = two.on_end ∙ one.on_end }

-- what the next item means, under the format of the call
next-means :
    (text : List ℕ) (output output' : FormattedOutput) (format : Format) (objects : List Object) (pointer : CValue) (size : ℕ) (before after_it : Units) (result : Result (Unit {0}) Stop) (transfer : Transfer)
    (going : Option Transfer) → (stands : StandsFor text output transfer) → stands.format ≡ format →
    ItemMeans (formatted_put stands.format size pointer transfer (world_with objects going before)) pointer size objects going after_it text stands.format output output' result →
    ItemMeans (formatted_put format size pointer transfer (world_with objects going before)) pointer size objects going after_it text format output output' result
next-means text output output' format objects pointer size before after_it result transfer going stands same means =
    subst (λ (one : Format). ItemMeans (formatted_put one size pointer transfer (world_with objects going before)) pointer size objects going after_it text one output output' result) same means

-- the items from the next on
from-next : (format : Format) (size left less : ℕ) (pointer : CValue) (transfer : Transfer) (world : World) (passage : Or Passage) → left ≡ suc less →
    formatted_put format size pointer transfer world ≡ passage →
    each_item size (formatted_put format size) left pointer transfer world
    ≡ after passage (λ one. then_later one (λ changed after_it. each_item size (formatted_put format size) less (shifted size pointer) changed after_it))
from-next format size left less pointer transfer world passage more is =
    ap (λ (n : ℕ). each_item size (formatted_put format size) n pointer transfer world) more
    ∙ ap (λ (one : Or Passage). after one (λ one. then_later one (λ changed after_it. each_item size (formatted_put format size) less (shifted size pointer) changed after_it))) is

pub putting-goes_on :
    (text : List ℕ) (first_output output output' : FormattedOutput) (objects : List Object) (count size : ℕ) (first : CValue) (left less : ℕ) (pointer next : CValue) (rows rows' rows'' : List Row) →
    left ≡ suc less → (StandsThere size objects pointer → next ≡ shifted size pointer) → PutsItem text output output' objects pointer size rows' rows'' (Ok tt) →
    Putting text first_output output objects count size first left pointer rows rows' → Putting text first_output output' objects count size first less next rows rows''
putting-goes_on text first_output output output' objects count size first left less pointer next rows rows' rows'' more moved puts before = record {
  same = same-then first_output output output' before.same puts.same;
  inside = puts.inside;
  tells = λ tells. puts.tells (before.tells tells);
  stays = stays-stays first_output.unit rows rows' rows'' before.stays (subst (λ (number : ℤ). StayedOn number rows' rows'') before.same.unit puts.devices);
  means = λ tells transfer stands going.
      let along = before.means tells transfer stands going in
      let put : PutsOn (formatted_put stands.format size pointer along.transfer (world_with objects going (units_of rows'))) pointer size objects going (units_of rows'') text stands.format output' =
      next-means text output output' stands.format objects pointer size (units_of rows') (units_of rows'') (Ok tt) along.transfer going along.stands along.same
      (puts.means (before.tells tells) along.transfer along.stands going) in
      record {
        transfer = put.transfer;
        stands = put.stands;
        same = put.same;
        means = along.means
            ∙ from-next stands.format size left less pointer along.transfer (world_with objects going (units_of rows')) _ more put.means
            ∙ ap (λ (at : CValue). each_item size (formatted_put stands.format size) less at put.transfer (world_with objects going (units_of rows''))) (sym (moved put.there));
      };
}

pub putting-ends :
    (text : List ℕ) (first_output output : FormattedOutput) (objects : List Object) (count size : ℕ) (first : CValue) (left : ℕ) (pointer : CValue) (rows rows' : List Row) → left ≡ 0 →
    Putting text first_output output objects count size first left pointer rows rows' → PutsItems text first_output output objects count size first rows rows' (Ok tt)
putting-ends text first_output output objects count size first left pointer rows rows' none before = record {
  same = before.same;
  inside = before.inside;
  tells = before.tells;
  means = λ tells transfer stands going.
      let along = before.means tells transfer stands going in
      record {
        transfer = along.transfer;
        stands = along.stands;
        replies = along.means ∙ ap (λ (n : ℕ). each_item size (formatted_put stands.format size) n pointer along.transfer (world_with objects going (units_of rows'))) none;
      };
  devices = before.stays;
}

-- a number that an item answers
numbered-then :
    (objects : List Object) (going : Option Transfer) (before after_it : Units) (first_output output : FormattedOutput) (format : Format) (size left less : ℕ) (pointer : CValue) (transfer : Transfer)
    (meaning : Or Reply) (number : ℤ) → SameOutput first_output output → left ≡ suc less →
    meaning ≡ each_item size (formatted_put format size) left pointer transfer (world_with objects going before) →
    Answered (formatted_put format size pointer transfer (world_with objects going before)) objects going after_it output number → Numbered meaning objects after_it first_output number
numbered-then objects going before after_it first_output output format size left less pointer transfer meaning number same more is answered =
    is ∙ from-next format size left less pointer transfer (world_with objects going before) _ more answered
    ∙ ap (λ (n : ℤ). Ok (numbered number n output.on_end (world_with objects None after_it))) same.on_error
    ∙ ap (λ (n : ℤ). Ok (numbered number first_output.on_error n (world_with objects None after_it))) same.on_end

stopped-then :
    (text : List ℕ) (objects : List Object) (going : Option Transfer) (before after_it : Units) (first_output output output' : FormattedOutput) (format : Format) (size left less : ℕ) (pointer : CValue)
    (transfer : Transfer) (meaning : Or Reply) (why : Stop) → SameOutput first_output output → left ≡ suc less →
    meaning ≡ each_item size (formatted_put format size) left pointer transfer (world_with objects going before) →
    ItemMeans (formatted_put format size pointer transfer (world_with objects going before)) pointer size objects going after_it text format output output' (Err why) →
    ItemsMean meaning objects after_it text first_output output' (Err why)
stopped-then text objects going before after_it first_output output output' format size left less pointer transfer meaning (stop.Number number) same more is means =
    numbered-then objects going before after_it first_output output format size left less pointer transfer meaning number same more is means
stopped-then text objects going before after_it first_output output output' format size left less pointer transfer meaning (stop.Refused NotConnected) same more is means =
    numbered-then objects going before after_it first_output output format size left less pointer transfer meaning (pos 6) same more is means
stopped-then text objects going before after_it first_output output output' format size left less pointer transfer meaning (stop.Refused NotOffered) same more is means =
    numbered-then objects going before after_it first_output output format size left less pointer transfer meaning (pos 7) same more is means
stopped-then text objects going before after_it first_output output output' format size left less pointer transfer meaning (stop.Refused Taken) same more is means =
    numbered-then objects going before after_it first_output output format size left less pointer transfer meaning (pos 8) same more is means
stopped-then text objects going before after_it first_output output output' format size left less pointer transfer meaning (stop.Refused PastEnd) same more is means =
    numbered-then objects going before after_it first_output output format size left less pointer transfer meaning (pos 9) same more is means
stopped-then text objects going before after_it first_output output output' format size left less pointer transfer meaning (stop.Refused Failed) same more is means = tt
stopped-then text objects going before after_it first_output output output' format size left less pointer transfer meaning (stop.Fault fault) same more is means =
    is ∙ from-next format size left less pointer transfer (world_with objects going before) (failing fault) more means

-- the devices where the last item stops
fails-behind : (unit own : ℤ) (x y z : List Row) (why : Stop) → own ≡ unit → StayedOn unit x y → FailsOn own y z (let r : Result (Unit {0}) Stop = Err why in writing r) →
    FailsOn unit x z (let r : Result (Unit {0}) Stop = Err why in writing r)
fails-behind unit own x y z why same first second' =
    by why (subst (λ (number : ℤ). FailsOn number y z (let r : Result (Unit {0}) Stop = Err why in writing r)) same second')
  where
    by : (one : Stop) → FailsOn unit y z (let r : Result (Unit {0}) Stop = Err one in writing r) → FailsOn unit x z (let r : Result (Unit {0}) Stop = Err one in writing r)
    by (stop.Number number) second = stays-stays unit x y z first second
    by (stop.Refused NotConnected) second = stays-stays unit x y z first second
    by (stop.Refused NotOffered) second = stays-stays unit x y z first second
    by (stop.Refused Taken) second = stays-stays unit x y z first second
    by (stop.Refused PastEnd) second = stays-stays unit x y z first second
    by (stop.Refused Failed) second = stays-fails unit x y z first second
    by (stop.Fault fault) second = stays-stays unit x y z first second

pub putting-stops :
    (text : List ℕ) (first_output output output' : FormattedOutput) (objects : List Object) (count size : ℕ) (first : CValue) (left less : ℕ) (pointer : CValue) (rows rows' rows'' : List Row) (why : Stop) →
    left ≡ suc less → PutsItem text output output' objects pointer size rows' rows'' (Err why) →
    Putting text first_output output objects count size first left pointer rows rows' → PutsItems text first_output output' objects count size first rows rows'' (Err why)
putting-stops text first_output output output' objects count size first left less pointer rows rows' rows'' why more puts before = record {
  same = same-then first_output output output' before.same puts.same;
  inside = puts.inside;
  tells = λ tells. puts.tells (before.tells tells);
  means = λ tells transfer stands going.
      let along = before.means tells transfer stands going in
      stopped-then text objects going (units_of rows') (units_of rows'') first_output output output' stands.format size left less pointer along.transfer
      (each_item size (formatted_put stands.format size) count first transfer (world_with objects going (units_of rows))) why before.same more along.means
      (next-means text output output' stands.format objects pointer size (units_of rows') (units_of rows'') (Err why) along.transfer going along.stands along.same
      (puts.means (before.tells tells) along.transfer along.stands going));
  devices = fails-behind first_output.unit output.unit rows rows' rows'' why before.same.unit before.stays puts.devices;
}
