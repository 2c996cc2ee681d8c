-- `unpack::unpack_relations` meets its contract. Assumes nothing.
use Rattle.unpack.proofs.Whole.{assignments_reached, associations_reached, second_fits, third_fits, relations_laid}
use Rattle.unpack.proofs.unpack_relations.Goals as goal

pub overflow_add-second : goal.overflow_add-second
overflow_add-second c = record { fits = search second_fits }

pub overflow_add-third : goal.overflow_add-third
overflow_add-third c = record { fits = search third_fits }

pub unpack_assignments-requires-clause-reaches : goal.unpack_assignments-requires-clause-reaches
unpack_assignments-requires-clause-reaches c = search assignments_reached

pub unpack_associations-requires-clause-reaches : goal.unpack_associations-requires-clause-reaches
unpack_associations-requires-clause-reaches c = search associations_reached

pub returns : goal.returns
returns c = search relations_laid
