-- The whole output by what the call that begins is lent and answers.
-- Assumes nothing.
use mathlib.Core.Path.{◌≡◌, refl, ap}
use mathlib.Core.Bool.{Bool, true, false, not, cond}
use mathlib.Core.List.{List, [], ◌∷◌, ◌++◌, append-nil}
use mathlib.Core.Logic.{◌⊎◌, inl, inr}
use Prim.Native.Nat.{ℕ, suc, ◌+◌, ◌-◌, ◌*◌}
use native.Mathlib.Omega.{arith}
use native.Mathlib.Decide.{dec_lt}
use borrow.Author.Tests.{eq-eqb, lt-ltb, le-ltb}
use lib.Dec.{eqb, ltb}
use lib.ListN.{length, take, drop, length-append, length-drop, get_or-append}
use lib.Seq.{take-append-le, drop-append-le}
use Rattle.model.specs.Refusal.{Line, First, now, next, refused, accepted, answer}
use Rattle.model.specs.Image.{policy_in, image_lines, load_lines, read_image}
use Rattle.model.specs.Calls.{kept}
use Rattle.model.specs.Desk.{line, L, counts_line, requests_of, printed, desk}
use Rattle.model.proofs.Truth.{clash}
use Rattle.model.proofs.Refusals.{first_refused, refused_first, accepted_none}
use Rattle.std.specs.Prelude.{Ok}
use Rattle.answer.specs.Answers as answers
use Rattle.table.specs.Layout.{word_count}
use Rattle.table.specs.View.{holds_table, policy_of}
use Rattle.table.specs.Answers.{left}
use Rattle.table.proofs.Outcomes.{never}
use Rattle.image.specs.Answers.{load_table}
use Rattle.image.proofs.Theorems.{load_table_lem, load_reads}
use Rattle.desk.specs.Printing.{image_length, is_short, image_answer}
use Rattle.desk.specs.Running.{AtHand}
use Rattle.desk.proofs.Reading.{enough}

-- the image, where the bytes are not too few
abbrev pub image_in : List ℕ → List ℕ
image_in s = take (image_length s) (drop 2 s)

-- one number is below another exactly if it is with two more on both sides
shifted : (a b : ℕ) → ltb (suc (suc a)) (2 + b) ≡ ltb a b
shifted a b = elim (dec_lt a b) [
  | yes l ↦ rw (lt-ltb (suc (suc a)) (2 + b) (omega arith), lt-ltb a b l)
  | no l ↦ rw (le-ltb (suc (suc a)) (2 + b) (omega (arith, l)), le-ltb a b (omega (arith, l)))
]

-- what stands n bytes behind the first two
behind_two : (n a b : ℕ) (s : List ℕ) → drop (2 + n) (a ∷ b ∷ s) ≡ drop n s
behind_two n a b s = let z : 2 + n ≡ suc (suc n) = omega arith in rw z

-- "too few bytes for length or image is `L 12`"; else the image is read and what stands behind it are the requests
pub desk_is : (s : List ℕ) → desk s ≡ cond (is_short s) (line L (12 ∷ [])) (printed (read_image (image_in s)) (drop (2 + image_length s) s))
unfolding desk is_short
desk_is [] = refl
desk_is (a ∷ []) = refl
desk_is (a ∷ b ∷ s) =
    let h : ltb (suc (suc (length s))) 2 ≡ false = le-ltb (suc (suc (length s))) 2 (omega arith) in
    rw (h, shifted (length s) (256 * a + b), behind_two (256 * a + b) a b s)

-- The bytes at hand suffice for the length and the image.
module _ (hand more : List ℕ) (e : is_short hand ≡ false) where
  -- the length is in them
  length_in : image_length (hand ++ more) ≡ image_length hand
  length_in =
      let n = (enough hand e).0 in
      rw (get_or-append hand more 0 0 (omega arith), get_or-append hand more 0 1 (omega arith))

  -- with more behind them they still suffice
  short_in : is_short (hand ++ more) ≡ false
  unfolding is_short
  short_in =
      let n = enough hand e in
      let l = length-append hand more in
      rw (le-ltb (length (hand ++ more)) 2 (omega arith), length_in) (le-ltb (length (hand ++ more)) (2 + image_length hand) (omega arith))

  -- the image is in them
  image_in_lem : image_in (hand ++ more) ≡ image_in hand
  image_in_lem =
      let n = enough hand e in
      let d : length (drop 2 hand) ≡ length hand - 2 = length-drop 2 hand in
      rw (length_in, drop-append-le 2 hand more (omega arith)) (take-append-le (image_length hand) (drop 2 hand) more (omega arith))

-- The image as it is answered on words of the published length is the image as it is read.
module _ (image words : List ℕ) (fits : length words ≡ word_count) where
  -- an acceptance by lines is a result of load
  as_done : (ls : List Line) (a : List ℕ) {made : List ℕ} → answer ls a ≡ accepted made → left (Ok tt) made ≡ record { answers = answer ls a; words = kept (answer ls a) a words }
  unfolding answers.told kept
  as_done ls a {made} e = rw (e, ← (accepted_none a ls e).1)

  -- refused alike
  pub read_refused : {k : ℕ} → (load_table image words).answers ≡ refused k → read_image image ≡ refused k
  unfolding load_table read_image
  read_refused {k} e = go (refused_first _ (load_lines (eqb (length words) word_count) image) e)
    where
      go : First k (load_lines (eqb (length words) word_count) image) → answer (image_lines image) (policy_in image) ≡ refused k
      go (now q h) = absurd (clash h (ap not (eq-eqb (length words) word_count fits)))
      go (next h f) = first_refused (policy_in image) f

  -- accepted alike: the words hold a table, whose policy is what the image is read as
  pub read_accepted : {made : List ℕ} → (load_table image words).answers ≡ accepted made → (holds_table made ≡ true) × (read_image image ≡ accepted (policy_of made))
  unfolding load_table
  read_accepted {made} e =
      let c : left (Ok tt) made ≡ load_table image words = as_done _ _ e in
      (load_table_lem image words (Ok tt) made c refl, load_reads image words (Ok tt) made c refl)

-- an accepted image is there
pub accepted_whole : (s words : List ℕ) {made : List ℕ} → image_answer s words ≡ accepted made → is_short s ≡ false
unfolding image_answer
accepted_whole s words {made} a = go (is_short s) refl
  where
    go : (b : Bool) → is_short s ≡ b → b ≡ false
    go true e = let z : refused 12 ≡ accepted made = rw e at a in never (cc)
    go false e = refl

-- What is at hand when the call begins says what the whole output is.
module _ (words : List ℕ) (fits : length words ≡ word_count) {hand more s : List ℕ} (lent : AtHand (not (is_short hand)) hand more s) where
  -- bytes at hand that are too few are all that there are
  desk_short : is_short hand ≡ true → desk s ≡ line L (12 ∷ [])
  desk_short e = go lent.enough
    where
      go : (not (is_short hand) ≡ true) ⊎ (more ≡ []) → desk s ≡ line L (12 ∷ [])
      go (inl h) = absurd (clash h (ap not e))
      go (inr h) = rw (lent.parts, h, append-nil hand, desk_is hand, e)

  -- else the image is read of them
  desk_whole : is_short hand ≡ false → desk s ≡ printed (read_image (image_in hand)) (drop (2 + image_length hand) s)
  desk_whole e = rw (lent.parts, desk_is (hand ++ more), short_in hand more e, image_in_lem hand more e, length_in hand more e)

  -- "An image refused is `L number` and nothing more"
  pub desk_refused : {k : ℕ} → image_answer hand words ≡ refused k → desk s ≡ line L (k ∷ [])
  unfolding image_answer printed
  desk_refused {k} a = go (is_short hand) refl
    where
      go : (b : Bool) → is_short hand ≡ b → desk s ≡ line L (k ∷ [])
      go true e = let z : refused 12 ≡ refused k = rw e at a in let q : 12 ≡ k = cc in rw (← q) (desk_short e)
      go false e = rw (desk_whole e, read_refused (image_in hand) words fits (rw e at a))

  -- "It prints `P` and the five counts in image order, then a line a request"
  pub desk_accepted : {made : List ℕ} → image_answer hand words ≡ accepted made
      → (holds_table made ≡ true) × (desk s ≡ counts_line (policy_of made) ++ requests_of (policy_of made) (drop (2 + image_length hand) s))
  unfolding image_answer printed
  desk_accepted a =
      let e = accepted_whole hand words a in
      let q = read_accepted (image_in hand) words fits (rw e at a) in
      (q.0, rw (desk_whole e, q.1))

-- its words hold a table
pub accepted_table : (s words : List ℕ) → length words ≡ word_count → {made : List ℕ} → image_answer s words ≡ accepted made → holds_table made ≡ true
unfolding image_answer
accepted_table s words fits a = (read_accepted (image_in s) words fits (rw (accepted_whole s words a) at a)).0
