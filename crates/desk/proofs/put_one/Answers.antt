-- `desk::put_one` meets its contract: the line of a request that is cut short, or of five bytes.
-- Assumes nothing.
use Rattle.std.proofs.Common.{arith, sym, ap, ◌∙◌}
use lib.Seq.{take_all}
use Rattle.model.specs.Bits.{bits_of}
use Rattle.model.specs.Desk.{request_line}
use Rattle.table.specs.View.{policy_of}
use Rattle.lines.proofs.Texts.{typed_as}
use Rattle.desk.proofs.Requests.{whole_line}
use Rattle.desk.proofs.put_one.Goals as goal

pub returns-else-s-lt-REQUEST : goal.returns-else-s-lt-REQUEST
returns-else-s-lt-REQUEST c =
    typed_as
    (sym (whole_line (policy_of c.args.mem.now) c.args.s.now (omega arith) ∙ ap (λ l. request_line (policy_of c.args.mem.now) (bits_of l)) (take_all 5 c.args.s.now (omega arith))))
    c.put_answer.ensures
