use Rattle.desk.proofs.Reading.{request_read}
use Rattle.desk.proofs.request_in.Goals as goal

pub returns : goal.returns
returns c = search request_read
