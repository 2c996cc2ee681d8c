-- How long the lines are: 64 bytes suffice for each.
-- Assumes nothing.
use mathlib.Core.Bool.{Bool, true, false, cond}
use mathlib.Core.List.{List, [], ◌∷◌}
use Prim.Native.Nat.{ℕ, ◌≤◌}
use native.Mathlib.Omega.{arith}
use lib.Dec.{eqb, ltb}
use lib.ListN.{length, take}
use Rattle.model.specs.Policy.{Policy}
use Rattle.model.specs.Contain.{contained}
use Rattle.model.specs.Refusal.{Answer, refused, accepted}
use Rattle.model.specs.Request.{Verdict, grant, deny, decision}
use Rattle.model.specs.Explain.{Row, rows}
use Rattle.model.specs.Bits.{bits_of, num_at}
use Rattle.model.specs.Desk.{L, P, G, D, R, counts_line, request_in, deny_line, answer_line, request_line}
use Rattle.table.specs.View.{policy_of}
use Rattle.lines.proofs.Lengths.{line_length}
use Rattle.desk.specs.Printing.{first_line, head_line}

-- the line of a deny
deny_short : (l : List Row) → length (deny_line l) ≤ 57
unfolding deny_line
deny_short [] = line_length D [] (omega arith)
deny_short (r ∷ l) = line_length D (r.argument ∷ r.right ∷ r.cause ∷ r.number ∷ []) (omega arith)

-- the line of an answer
answer_short : (why : List Row) (a : Answer Verdict) → length (answer_line why a) ≤ 57
unfolding answer_line
answer_short why (refused n) = line_length R (n ∷ []) (omega arith)
answer_short why (accepted (grant k)) = line_length G (k ∷ []) (omega arith)
answer_short why (accepted deny) = deny_short why

-- one of two lines
either_short : (b : Bool) (x y : List ℕ) → length x ≤ 57 → length y ≤ 57 → length (cond b x y) ≤ 57
either_short true x y h k = h
either_short false x y h k = k

-- the line of a request has at most 57 bytes
pub first_short : (p : Policy) (s : List ℕ) → length (first_line p s) ≤ 57
unfolding first_line request_line
first_short p s =
    let l = bits_of (take 5 s) in
    either_short (eqb (length s) 0) _ _ (omega arith)
    (either_short (ltb (length s) 5) _ _ (line_length R (12 ∷ []) (omega arith))
    (either_short (eqb (num_at l 39 1) 1) _ _ (line_length R (2 ∷ []) (omega arith))
    (answer_short (rows (contained p) p (request_in l)) (decision (contained p) true p (request_in l)))))

-- the first line has at most 57 bytes
pub head_short : (a : Answer (List ℕ)) → length (head_line a) ≤ 57
unfolding head_line counts_line
head_short (refused n) = line_length L (n ∷ []) (omega arith)
head_short (accepted words) =
    let p = policy_of words in
    line_length P (length p.elements ∷ length p.assignments ∷ length p.associations ∷ length p.prohibitions ∷ length p.processes ∷ []) (omega arith)
