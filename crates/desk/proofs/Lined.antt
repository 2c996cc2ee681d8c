-- The lines of requests, put one behind the other: before each turn those of the bytes before the rest were put.
-- Assumes nothing.
use mathlib.Core.Path.{◌≡◌, refl, sym, ap, ap₂, ◌∙◌}
use mathlib.Core.List.{List, [], ◌∷◌, ◌++◌, append_assoc, append-nil}
use Prim.Native.Nat.{ℕ, min, ◌+◌, ◌-◌, ◌*◌, ◌≤◌, ◌<◌}
use native.Mathlib.Omega.{arith}
use native.Mathlib.Decide.{dec_le}
use borrow.Rule.Slice.PartMut.{post_of}
use lib.ListN.{length, take, drop, length-append, drop_of_length-le}
use lib.Seq.{take_all, take_at, drop_at}
use Rattle.model.specs.Policy.{Policy}
use Rattle.model.specs.Desk.{requests_of}
use Rattle.lines.specs.Typing.{Typed}
use Rattle.lines.proofs.Texts.{typed_none, typed_then, typed_as}
use Rattle.desk.specs.Printing.{line_room, first_line, request_count}
use Rattle.desk.proofs.Front.{at_place}
use Rattle.desk.proofs.Lengths.{first_short}
use Rattle.desk.proofs.Requests.{first_then, five_line}

-- Of the bytes s those before the rest have their lines put among the bytes out, which became t; they have `used` bytes, at most 57 a request.
pub record Lined (p : Policy) (s out t rest : List ℕ) (used : ℕ) : Type 0 where
  pub text : List ℕ
  pub all : text ++ requests_of p rest ≡ requests_of p s
  pub typed : Typed text 0 out t used
  pub short : used + 57 * request_count rest ≤ 57 * request_count s

-- none yet
pub lined_none : (p : Policy) (s out : List ℕ) → Lined p s out out s 0
lined_none p s out = record { text = []; all = refl; typed = typed_none out 0; short = omega arith }

-- a list of no length is empty
no_rest : (l : List ℕ) → length l ≡ 0 → l ≡ []
no_rest [] e = refl
no_rest (a ∷ l) e = absurd (omega arith)

-- five bytes, or all that are left, are the first five, and the others stand behind them
cut_five : (piece rest more : List ℕ) → rest ≡ piece ++ more → length piece ≡ min 5 (length rest) → (take 5 rest ≡ piece) × (drop 5 rest ≡ more)
cut_five piece rest more parts size =
    let l : length rest ≡ length piece + length more = ap length parts ∙ length-append piece more in
    elim (dec_le 5 (length rest)) [
      | yes h ↦
          let five : length piece ≡ 5 = omega arith in
          (rw parts (take_at piece more 5 five), rw parts (drop_at piece more 5 five))
      | no h ↦
          let none : more ≡ [] = no_rest more (omega arith) in
          let whole : rest ≡ piece = parts ∙ ap (λ (m : List ℕ). piece ++ m) none ∙ append-nil piece in
          (take_all 5 rest (omega arith) ∙ whole, drop_of_length-le rest {i = 5} (omega arith) ∙ sym none)
    ]

-- There is room for 64 bytes a request.
module _ {p : Policy} {s out t rest : List ℕ} {used : ℕ} (l : Lined p s out t rest used) (room : line_room * request_count s ≤ length out) where
  module _ (some : 0 < length rest) where
    -- a request or a part of one is left, and there is room for its line
    used_room : used + 64 ≤ length t
    used_room = let k = l.typed.long in let m = l.short in omega arith

    module _ (piece more : List ℕ) (parts : rest ≡ piece ++ more) (size : length piece ≡ min 5 (length rest))
        {part : List ℕ} {n : ℕ} (w : Typed (first_line p piece) 0 (take (length t - used) (drop used t)) part n) where
      -- the line of the next request, and those of what is behind it
      next_all : first_line p piece ++ requests_of p more ≡ requests_of p rest
      next_all =
          let c = cut_five piece rest more parts size in
          ap₂ (λ (a b : List ℕ). first_line p a ++ requests_of p b) (sym c.0) (sym c.1) ∙ rw (five_line p rest) (first_then p rest)

      -- a turn: the line of one request more
      pub lined_turn : Lined p s out (take used t ++ (part ++ post_of used (length t - used) t)) more (used + n)
      lined_turn =
          let k = used_room in
          let e = l.typed.next_is in
          let f = l.typed.long in
          let g = w.next_is in
          let m = l.short in
          let d : length rest ≡ length piece + length more = ap length parts ∙ length-append piece more in
          record {
            text = l.text ++ first_line p piece;
            all = append_assoc l.text (first_line p piece) (requests_of p more) ∙ ap (λ (b : List ℕ). l.text ++ b) next_all ∙ l.all;
            typed = typed_then (omega arith) l.typed (at_place t used w);
            short = omega (arith, first_short p piece);
          }

  -- after the last turn nothing is left
  pub lines_end : length rest ≡ 0 → Typed (requests_of p s) 0 out t used
  unfolding requests_of
  lines_end e =
      let r : l.text ++ requests_of p rest ≡ l.text = ap (λ (m : List ℕ). l.text ++ requests_of p m) (no_rest rest e) ∙ append-nil l.text in
      typed_as (sym r ∙ l.all) l.typed
