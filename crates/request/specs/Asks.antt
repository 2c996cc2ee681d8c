-- What a request is, as 01 has it.
-- Assumes nothing.
use Rattle.std.specs.Prelude.{true, List, ℕ, ◌≤◌, ◌<◌}
use Rattle.model.specs.Policy.{user_of}
use Rattle.model.specs.Refusal.{None, refusal}
use Rattle.model.specs.Request.{Request as Asked, request_lines}
use Rattle.table.specs.View.{policy_of}
use Rattle.request.specs.declared.Request.{Request}

-- the request that the five numbers are
abbrev pub request_of : Request → Asked
request_of q = record { process = q.process; operation = q.operation; first = q.first; second = q.second; third = q.third }

-- the number of the request's refusal where the memory holds a table, 0 where it is not refused
abbrev pub refusal_of : (mem : List ℕ) → Request → ℕ
refusal_of mem q = refusal (request_lines true (policy_of mem) (request_of q))

-- what is known of a request that is not refused
pub record Accepted (mem : List ℕ) (q : Request) : Type 0 where
  pub lines : None (request_lines true (policy_of mem) (request_of q))
  pub process : q.process ≤ 255
  pub operation : q.operation ≤ 9
  pub first : q.first < 512
  pub second : q.second < 512
  pub third : q.third < 512
  pub user : user_of (policy_of mem) q.process < 512
