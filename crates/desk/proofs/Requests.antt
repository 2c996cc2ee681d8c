-- The lines of requests, one after another, are those of the definition.
-- Assumes nothing.
use mathlib.Core.Path.{◌≡◌, refl, sym, ◌∙◌}
use mathlib.Core.Bool.{true}
use mathlib.Core.List.{List, [], ◌∷◌, ◌++◌, append_assoc, append-nil}
use mathlib.Core.Logic.{◌⊎◌, inl, inr}
use Prim.Native.Nat.{ℕ, zero, suc, ◌*◌, ◌%◌, ◌≤◌}
use native.Mathlib.Omega.{arith}
use native.Mathlib.Decide.{dec_le}
use borrow.Author.Tests.{ne_eqb, lt-ltb, le-ltb, eqb-true, leb-true}
use lib.Dec.{eqb, leb}
use lib.ListN.{length, take, drop, length-append, length-drop}
use lib.Seq.{length-take-le, take_all, take-append-le, take-take}
use Rattle.model.specs.Policy.{Policy}
use Rattle.model.specs.Explain.{joined}
use Rattle.model.specs.Bits.{bits_of}
use Rattle.model.specs.Desk.{line, R, request_line, requests_of}
use Rattle.desk.specs.Printing.{first_line, request_count, requests_in}
use Rattle.desk.specs.Running.{AtHand}
use Rattle.desk.proofs.Lengths.{first_short}

module _ (p : Policy) where
  -- of one to four bytes the line is that of a request cut short
  pub cut_line : (s : List ℕ) → 1 ≤ length s → length s ≤ 4 → first_line p s ≡ line R (12 ∷ [])
  unfolding first_line
  cut_line s a b = rw (ne_eqb (length s) 0 (λ z. omega arith), lt-ltb (length s) 5 (omega arith))

  -- of five or more it is that of the first five
  pub whole_line : (s : List ℕ) → 5 ≤ length s → first_line p s ≡ request_line p (bits_of (take 5 s))
  unfolding first_line
  whole_line s a = rw (ne_eqb (length s) 0 (λ z. omega arith), le-ltb (length s) 5 a)

  -- the first line, and the lines of what is behind the first five bytes, are all lines
  pub first_then : (s : List ℕ) → first_line p s ++ requests_of p (drop 5 s) ≡ requests_of p s
  unfolding requests_of first_line
  first_then [] = refl
  first_then (a ∷ []) = rw (cut_line (a ∷ []) (omega arith) (omega arith)) (append-nil (line R (12 ∷ [])))
  first_then (a ∷ b ∷ []) = rw (cut_line (a ∷ b ∷ []) (omega arith) (omega arith)) (append-nil (line R (12 ∷ [])))
  first_then (a ∷ b ∷ c ∷ []) = rw (cut_line (a ∷ b ∷ c ∷ []) (omega arith) (omega arith)) (append-nil (line R (12 ∷ [])))
  first_then (a ∷ b ∷ c ∷ d ∷ []) = rw (cut_line (a ∷ b ∷ c ∷ d ∷ []) (omega arith) (omega arith)) (append-nil (line R (12 ∷ [])))
  first_then (a ∷ b ∷ c ∷ d ∷ e ∷ more) = rw (whole_line (a ∷ b ∷ c ∷ d ∷ e ∷ more) (omega arith))

  -- the lines of whole requests, and those of what is behind them, are all lines
  pub whole_then : (s more : List ℕ) → length s % 5 ≡ 0 → requests_of p (s ++ more) ≡ requests_of p s ++ requests_of p more
  unfolding requests_of
  whole_then [] more h = refl
  whole_then (a ∷ []) more h = absurd (omega arith)
  whole_then (a ∷ b ∷ []) more h = absurd (omega arith)
  whole_then (a ∷ b ∷ c ∷ []) more h = absurd (omega arith)
  whole_then (a ∷ b ∷ c ∷ d ∷ []) more h = absurd (omega arith)
  whole_then (a ∷ b ∷ c ∷ d ∷ e ∷ s) more h =
      rw (whole_then s more (omega arith)) (sym (append_assoc (request_line p (bits_of (a ∷ b ∷ c ∷ d ∷ e ∷ []))) (requests_of p s) (requests_of p more)))

  -- as many requests as there are have each a line of at most 57 bytes
  short_by_count : (n : ℕ) (s : List ℕ) → n ≡ request_count s → length (requests_of p s) ≤ 57 * n
  unfolding requests_of
  short_by_count zero [] e = omega arith
  short_by_count zero (a ∷ s) e = absurd (omega arith)
  short_by_count (suc n) s e =
      let m : n ≡ request_count (drop 5 s) = omega (arith, length-drop 5 s) in
      let k = short_by_count n (drop 5 s) m in
      rw (← first_then s, length-append (first_line p s) (requests_of p (drop 5 s))) (omega (arith, first_short p s))

  -- the same of all bytes
  pub requests_short : (s : List ℕ) → length (requests_of p s) ≤ 57 * request_count s
  requests_short s = short_by_count (request_count s) s refl

  -- the line is known by what is at hand: all of the bytes, or five of them
  pub hand_line : {hand more s : List ℕ} → AtHand (leb 5 (length hand)) hand more s → first_line p hand ≡ first_line p s
  hand_line {hand} {more} {s} a = go a.enough
    where
      go : (leb 5 (length hand) ≡ true) ⊎ (more ≡ []) → first_line p hand ≡ first_line p s
      go (inl h) =
          let five : 5 ≤ length hand = leb-true 5 (length hand) h in
          let all : 5 ≤ length (hand ++ more) = omega (arith, length-append hand more) in
          rw (a.parts, whole_line hand five, whole_line (hand ++ more) all, take-append-le 5 hand more five)
      go (inr h) = rw (a.parts, h, append-nil hand)

  -- the lines of whole requests at hand, or of all bytes, and those of what is behind them
  pub hand_lines : {hand more s : List ℕ} → AtHand (eqb (length hand % 5) 0) hand more s → requests_of p hand ++ requests_of p more ≡ requests_of p s
  unfolding requests_of
  hand_lines {hand} {more} {s} a = go a.enough
    where
      go : (eqb (length hand % 5) 0 ≡ true) ⊎ (more ≡ []) → requests_of p hand ++ requests_of p more ≡ requests_of p s
      go (inl h) = rw a.parts (sym (whole_then hand more (eqb-true (length hand % 5) 0 h)))
      go (inr h) = rw (a.parts, h, append-nil hand) (append-nil (requests_of p hand))

  -- the line of a request is known by its five bytes
  pub five_line : (s : List ℕ) → first_line p (take 5 s) ≡ first_line p s
  five_line s = elim (dec_le 5 (length s)) [
    | yes l ↦
        let e : length (take 5 s) ≡ 5 = length-take-le 5 s l in
        rw (whole_line (take 5 s) (omega arith), whole_line s l, take-take 5 5 s (omega arith))
    | no l ↦ rw (take_all 5 s (omega (arith, l)))
  ]

  -- all lines are the lines of as many requests as there are, one by one
  by_count : (n : ℕ) (s : List ℕ) → n ≡ request_count s → requests_of p s ≡ joined (first_line p) (requests_in n s)
  unfolding joined requests_in requests_of
  by_count zero [] e = refl
  by_count zero (a ∷ s) e = absurd (omega arith)
  by_count (suc n) s e =
      let m : n ≡ request_count (drop 5 s) = omega (arith, length-drop 5 s) in
      sym (first_then s) ∙ rw (five_line s, by_count n (drop 5 s) m)

  -- the same of all bytes
  pub one_by_one : (s : List ℕ) → requests_of p s ≡ joined (first_line p) (requests_in (request_count s) s)
  one_by_one s = by_count (request_count s) s refl
