use Rattle.named_items.proofs.WrittenAlike.{written_alike}
use Rattle.named_items.proofs.Agreeing.{items_are_structured}
use Rattle.named_items.proofs.agreement.items_are_structured.Goals as goal

pub returns : goal.returns
returns c = record { alike = written_alike; statements = items_are_structured }
