-- 01, "Containment and the decision": rights, the operation table, requests and what they are answered.
-- Assumes nothing.
use Rattle.std.specs.Prelude.{Bool, false, not, cond, ◌&&◌, ◌||◌, List, [], ◌∷◌, ◌++◌, map, ℕ, suc, eqb, leb, get_or}
use Rattle.model.specs.Lists.{all_of, member, one, two, three}
use Rattle.model.specs.Policy.{Policy, user, user_attribute, object, object_attribute, is_element_id, is_process_id, kind_of, is_there, user_of, is_process}
use Rattle.model.specs.Rule.{held, restricted}
use Rattle.model.specs.Refusal.{Line, ◌when◌, Lent, no_table, bad_index, Answer, answer}

-- "Rights: 0 read, 1 write, 2 find, 3 print, 4 move, 5 take-out, 6 put-in, 7 assign-from, 8 assign-to, 9 deassign-from, 10 deassign-to,
-- 11 assoc-from, 12 assoc-to; the rest are spare."
abbrev pub read : ℕ
read = 0

abbrev pub write : ℕ
write = 1

abbrev pub find : ℕ
find = 2

abbrev pub print : ℕ
print = 3

abbrev pub move : ℕ
move = 4

abbrev pub take_out : ℕ
take_out = 5

abbrev pub put_in : ℕ
put_in = 6

abbrev pub assign_from : ℕ
assign_from = 7

abbrev pub assign_to : ℕ
assign_to = 8

abbrev pub deassign_from : ℕ
deassign_from = 9

abbrev pub deassign_to : ℕ
deassign_to = 10

abbrev pub assoc_from : ℕ
assoc_from = 11

abbrev pub assoc_to : ℕ
assoc_to = 12

-- An argument in the operation table is a list of the kinds that it may be of.
abbrev pub Kinds : Type 0
Kinds = List ℕ

-- the kinds that the operation table names
abbrev pub an_object : Kinds
an_object = one object

abbrev pub an_object_attribute : Kinds
an_object_attribute = one object_attribute

abbrev pub a_user_attribute : Kinds
a_user_attribute = one user_attribute

-- "attribute" alone means kinds 2, 3 and 4
abbrev pub an_attribute : Kinds
an_attribute = three user_attribute object object_attribute

-- "non-class elements"
abbrev pub a_non_class : Kinds
a_non_class = user ∷ user_attribute ∷ object ∷ object_attribute ∷ []

-- An alternative is a right set per argument.
abbrev pub Rights : Type 0
Rights = List ℕ

-- an alternative: for each argument the rights that it asks
abbrev pub Alternative : Type 0
Alternative = List Rights

-- a line of the operation table
pub record Operation : Type 0 where
  pub arguments : List Kinds
  pub alternatives : List Alternative

-- "arguments", and the alternatives that they are asked
infix 20 ◌asks◌
abbrev pub ◌asks◌ : List Kinds → List Alternative → Operation
ks asks alts = record { arguments = ks; alternatives = alts }

-- a number that names no operation takes no argument and has no alternative
abbrev pub no_operation : Operation
no_operation = [] asks []

-- The operation table. After `asks` stand the alternatives: outermost the alternatives, in each the arguments, in each of those the rights.
unfoldable pub operations : List Operation
operations =
    -- 1 read
    (one an_object asks one (one (one read)))
    -- 2 write
    ∷ (one an_object asks one (one (one write)))
    -- 3 find
    ∷ (one an_object asks two (one (one find)) (one (one read)))
    -- 4 print
    ∷ (one an_object asks one (one (two read print)))
    -- 5 move
    ∷ (three an_object an_object_attribute an_object_attribute
    asks two (three (one move) (one take_out) (one put_in)) (three (one write) (one take_out) (one put_in)))
    -- 6 copy
    ∷ (two an_object an_object_attribute asks two (two (one read) (one put_in)) (two (one print) (one write)))
    -- 7 assign
    ∷ (two a_non_class a_non_class asks one (two (one assign_from) (one assign_to)))
    -- 8 deassign
    ∷ (two a_non_class a_non_class asks one (two (one deassign_from) (one deassign_to)))
    -- 9 associate
    ∷ (two a_user_attribute an_attribute asks one (two (one assoc_from) (one assoc_to)))
    ∷ []

-- the operation with this number
unfoldable pub operation_of : ℕ → Operation
operation_of n = get_or (no_operation ∷ operations) n no_operation

-- "operation not 1..9"
unfoldable pub is_operation : ℕ → Bool
is_operation n = leb 1 n && leb n 9

-- Requests carry three arguments always; those that the operation does not use are 0.
pub record Request : Type 0 where
  pub process : ℕ
  pub operation : ℕ
  pub first : ℕ
  pub second : ℕ
  pub third : ℕ

-- its three arguments
abbrev pub arguments_of : Request → List ℕ
arguments_of q = three q.first q.second q.third

-- the kinds of the arguments that its operation uses
abbrev pub kinds_of : Request → List Kinds
kinds_of q = (operation_of q.operation).arguments

-- the alternatives of its operation
abbrev pub alternatives_of : Request → List Alternative
alternatives_of q = (operation_of q.operation).alternatives

-- "element not 1..511 .. unused argument not 0", over the arguments in their places
unfoldable pub bad_arguments : List Kinds → List ℕ → Bool
bad_arguments ks [] = false
bad_arguments [] (e ∷ es) = not (eqb e 0) || bad_arguments [] es
bad_arguments (k ∷ ks) (e ∷ es) = not (is_element_id e) || bad_arguments ks es

-- "named element .. absent", over the arguments that are used
unfoldable pub absent_arguments : Policy → List Kinds → List ℕ → Bool
absent_arguments p ks [] = false
absent_arguments p [] (e ∷ es) = false
absent_arguments p (k ∷ ks) (e ∷ es) = not (is_there p e) || absent_arguments p ks es

-- "In a request, 5 looks only at the kinds in the operation table."
unfoldable pub wrong_kinds : Policy → List Kinds → List ℕ → Bool
wrong_kinds p ks [] = false
wrong_kinds p [] (e ∷ es) = false
wrong_kinds p (k ∷ ks) (e ∷ es) = not (member (kind_of p e) k) || wrong_kinds p ks es

-- The lines of a request. The plain decision and the explanation take no index.
unfoldable pub out_of_range : Request → Bool
out_of_range q = not (is_process_id q.process) || not (is_operation q.operation) || bad_arguments (kinds_of q) (arguments_of q)

-- 4: the process, or an argument that is used, is absent
unfoldable pub absent : Policy → Request → Bool
absent p q = not (is_process p q.process) || absent_arguments p (kinds_of q) (arguments_of q)

-- 5: an argument that is used is of another kind
unfoldable pub mismatched : Policy → Request → Bool
mismatched p q = wrong_kinds p (kinds_of q) (arguments_of q)

-- the lines of a request, lowest first
abbrev pub request_lines : (holds_table : Bool) → Policy → Request → List Line
request_lines holds_table p q = (1 when not holds_table) ∷ (2 when out_of_range q) ∷ (4 when absent p q) ∷ (5 when mismatched p q) ∷ []

-- the same with an index
abbrev pub indexed_lines : Lent → Policy → Request → List Line
indexed_lines m p q = (1 when no_table m) ∷ (2 when bad_index m || out_of_range q) ∷ (4 when absent p q) ∷ (5 when mismatched p q) ∷ []

-- One right asked of one argument: the argument's position, counted from 1, the element there, the right.
pub record Asked : Type 0 where
  pub argument : ℕ
  pub element : ℕ
  pub right : ℕ

-- what an alternative asks of the arguments, argument by argument and right by right; the first position is given
unfoldable pub asked : ℕ → Alternative → List ℕ → List Asked
asked i [] es = []
asked i (rs ∷ more) [] = []
asked i (rs ∷ more) (e ∷ es) = map (λ r. record { argument = i; element = e; right = r }) rs ++ asked (suc i) more es

-- what an alternative asks in a request
abbrev pub asked_of : Alternative → Request → List Asked
asked_of alternative q = asked 1 alternative (arguments_of q)

-- What a request that is not refused gets: granted, by the lowest alternative that allows it, or denied.
pub data Verdict : Type 0 where
  grant : ℕ → Verdict
  deny : Verdict

module _ (W : ℕ → ℕ → Bool) (p : Policy) (q : Request) where
  -- "the right held and not restricted"
  unfoldable pub permitted : Asked → Bool
  permitted a =
      held W p (user_of p q.process) a.right a.element
      && not (restricted W p q.process (user_of p q.process) a.right a.element)

  -- "one alternative has, for each argument and each right in that argument's set, the right held and not restricted"
  unfoldable pub satisfied : Alternative → Bool
  satisfied alternative = all_of permitted (asked_of alternative q)

  -- "The answer names the lowest such alternative": the first number is given
  unfoldable pub lowest_satisfied : ℕ → List Alternative → Verdict
  lowest_satisfied k [] = deny
  lowest_satisfied k (a ∷ more) = cond (satisfied a) (grant k) (lowest_satisfied (suc k) more)

  -- the verdict on a request that is not refused
  unfoldable pub verdict : Verdict
  verdict = lowest_satisfied 1 (alternatives_of q)

-- The decision by the containment W. The plain call takes `contained p` for it, the indexed call what the index's bits say (`Calls`).
unfoldable pub decision : (W : ℕ → ℕ → Bool) (holds_table : Bool) → Policy → Request → Answer Verdict
decision W holds_table p q = answer (request_lines holds_table p q) (verdict W p q)

-- the decision with an index lent
unfoldable pub indexed_decision : (W : ℕ → ℕ → Bool) → Lent → Policy → Request → Answer Verdict
indexed_decision W m p q = answer (indexed_lines m p q) (verdict W p q)
