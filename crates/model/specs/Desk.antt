-- 01, "The desk program": what it prints, as a function of the bytes that it reads.
-- Assumes nothing.
use Rattle.std.specs.Prelude.{Bool, true, cond, List, [], ◌∷◌, ◌++◌, ℕ, zero, suc, ◌+◌, ◌*◌, ◌/◌, ◌%◌, eqb, ltb, length, take, drop}
use Rattle.model.specs.Policy.{Policy}
use Rattle.model.specs.Contain.{contained}
use Rattle.model.specs.Refusal.{Answer, refused, accepted}
use Rattle.model.specs.Request.{Request, Verdict, grant, deny, decision}
use Rattle.model.specs.Explain.{Row, rows}
use Rattle.model.specs.Bits.{bits_of, num_at}
use Rattle.model.specs.Image.{read_image}

-- Numbers in decimal, as bytes of text: at most ten digits.
unfoldable pub digits : (most : ℕ) → ℕ → List ℕ
digits zero n = []
digits (suc most) n =
    let higher = digits most (n / 10) in
    cond (ltb n 10) ((48 + n) ∷ []) (higher ++ ((48 + n % 10) ∷ []))

-- a number in decimal
unfoldable pub decimal : ℕ → List ℕ
decimal n = digits 10 n

-- numbers, each behind a space, and the line's end
unfoldable pub numbers : List ℕ → List ℕ
numbers [] = 10 ∷ []
numbers (n ∷ l) = 32 ∷ (decimal n ++ numbers l)

-- one line: its letter and its numbers
abbrev pub line : (letter : ℕ) → List ℕ → List ℕ
line letter l = letter ∷ numbers l

-- the letters of the lines
abbrev pub L : ℕ
L = 76

abbrev pub P : ℕ
P = 80

abbrev pub G : ℕ
G = 71

abbrev pub D : ℕ
D = 68

abbrev pub R : ℕ
R = 82

-- "`P` and the five counts in image order"
unfoldable pub counts_line : Policy → List ℕ
counts_line p =
    line P (length p.elements ∷ length p.assignments ∷ length p.associations ∷ length p.prohibitions ∷ length p.processes ∷ [])

-- "requests of 40 bits: process 8, operation 4, arguments 9, 9, 9, one zero bit"
unfoldable pub request_in : List Bool → Request
request_in l = record { process = num_at l 0 8; operation = num_at l 8 4; first = num_at l 12 9; second = num_at l 21 9; third = num_at l 30 9 }

-- "`D argument right cause number` for alternative 1": a deny's first row
unfoldable pub deny_line : List Row → List ℕ
deny_line [] = line D []
deny_line (r ∷ l) = line D (r.argument ∷ r.right ∷ r.cause ∷ r.number ∷ [])

-- "`G alternative`; `D argument right cause number` ..; or `R refusal`"
unfoldable pub answer_line : List Row → Answer Verdict → List ℕ
answer_line why (refused n) = line R (n ∷ [])
answer_line why (accepted (grant k)) = line G (k ∷ [])
answer_line why (accepted deny) = deny_line why

-- "A set fortieth bit is `R 2`"
unfoldable pub request_line : Policy → List Bool → List ℕ
request_line p l =
    cond (eqb (num_at l 39 1) 1) (line R (2 ∷ []))
    (answer_line (rows (contained p) p (request_in l)) (decision (contained p) true p (request_in l)))

-- "then a line a request .. a last request cut short is `R 12`"
unfoldable pub requests_of : Policy → List ℕ → List ℕ
requests_of p [] = []
requests_of p (a ∷ []) = line R (12 ∷ [])
requests_of p (a ∷ b ∷ []) = line R (12 ∷ [])
requests_of p (a ∷ b ∷ c ∷ []) = line R (12 ∷ [])
requests_of p (a ∷ b ∷ c ∷ d ∷ []) = line R (12 ∷ [])
requests_of p (a ∷ b ∷ c ∷ d ∷ e ∷ more) = request_line p (bits_of (a ∷ b ∷ c ∷ d ∷ e ∷ [])) ++ requests_of p more

-- "An image refused is `L number` and nothing more"
unfoldable pub printed : Answer Policy → (requests : List ℕ) → List ℕ
printed (refused n) requests = line L (n ∷ [])
printed (accepted p) requests = counts_line p ++ requests_of p requests

-- "image length in two bytes (high first), the image, then requests"; "too few bytes for length or image is `L 12`, of any form"
unfoldable pub desk : List ℕ → List ℕ
desk [] = line L (12 ∷ [])
desk (a ∷ []) = line L (12 ∷ [])
desk (a ∷ b ∷ s) = cond (ltb (length s) (256 * a + b)) (line L (12 ∷ [])) (printed (read_image (take (256 * a + b) s)) (drop (256 * a + b) s))
