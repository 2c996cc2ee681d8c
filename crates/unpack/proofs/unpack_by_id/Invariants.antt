-- `unpack::unpack_by_id` meets its contract. Invariant: the values of the first records are in their places. Assumes nothing.
use Rattle.unpack.proofs.ById.{Placing}
use Rattle.unpack.proofs.unpack_by_id.Given as goal

abbrev pub invariant-loop : goal.invariant-loop
invariant-loop l = Placing l.s l.at l.n l.id_bits l.value_bits l.from l.initial.mem l.next.at l.counter l.mem
