-- `lines::put_digits` meets its contract: no digit, one digit, or the digits of the tenth and one more.
-- Assumes nothing.
use Rattle.lines.proofs.Turns.{digits_none, digit_put, last_put}
use Rattle.lines.proofs.+put_digits.Goals as goal

pub returns-then-most-eq0-clause-typed : goal.returns-then-most-eq0-clause-typed
returns-then-most-eq0-clause-typed t c = search digits_none

pub returns-then-n-lt10-clause-typed : goal.returns-then-n-lt10-clause-typed
returns-then-n-lt10-clause-typed t c = search digit_put

pub returns-clause-typed : goal.returns-clause-typed
returns-clause-typed t c = search last_put
