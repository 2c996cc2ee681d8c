use Rattle.std.proofs.lemmas.Iterator.{first_from_Range}
use Rattle.std.proofs.Common.{◌≡◌, true, false, rules}
use Rattle.table.specs.View.{policy_of}
use Rattle.rule.specs.Sight.{seen}
use Rattle.rule.specs.Parts.{class_of}
use Rattle.held.proofs.Passing.{byte_zero, byte_other, ids_found}
use Rattle.held.proofs.class_in_byte.Goals as goal
use Rattle.held.proofs.class_in_byte.Goals.{then-is_zero_byte-via-then-is_zero_byte, then-is_zero_byte-via-else-is_zero_byte+then-not-has_class}

pub returns-then-is_zero_byte : goal.returns-then-is_zero_byte
returns-then-is_zero_byte c = elim c.then-is_zero_byte.branch [
  | then-is_zero_byte-via-then-is_zero_byte w ↦ byte_zero _ _ _ c.requires.end_value c.is_zero_byte.ensures w.if-is_zero_byte.true
  | then-is_zero_byte-via-else-is_zero_byte+then-not-has_class w ↦ byte_other _ _ _ c.requires.end_value w.has_class.ensures w.if-not-has_class.true
]

pub returns : goal.returns
returns c = ids_found _ _ _ _ _ c.find.result (first_from_Range _ _ _ c.find.result
    (λ y. class_of (seen c.args.rows.now true c.args.x) (policy_of c.args.mem.now) y ≡ true)
    (λ y. class_of (seen c.args.rows.now true c.args.x) (policy_of c.args.mem.now) y ≡ false)
    c.find.ensures.ran (λ x q k. search rules) (λ x q k. search rules))
