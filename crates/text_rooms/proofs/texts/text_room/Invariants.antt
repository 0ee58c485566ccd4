use Rattle.text_rooms.proofs.TextLaws.{FirstHaveRoom}
use Rattle.text_rooms.proofs.texts.text_room.Given as goal

abbrev pub invariant-loop-number : goal.invariant-loop-number
invariant-loop-number l = FirstHaveRoom l.room l.number l.objects
