use Rattle.pack.proofs.Wholes.{image_room, others_room, end_reached, last_byte, whole_put}
use Rattle.pack.proofs.pack.Goals as goal

pub write_first-p-requires : goal.write_first-p-requires
write_first-p-requires c = search image_room

pub write_rest-q-requires : goal.write_rest-q-requires
write_rest-q-requires c = search others_room

pub write_filling-requires : goal.write_filling-requires
write_filling-requires c = search (end_reached, last_byte)

pub returns : goal.returns
returns c = search whole_put
