-- From the answer and the numbers of its rows to the explanation.
-- Assumes nothing.
use mathlib.Core.Path.{◌≡◌, refl, sym, ap, ◌∙◌}
use mathlib.Core.List.{List, [], ◌∷◌, ◌++◌, map, map-append}
use Prim.Native.Nat.{ℕ, zero, suc}
use lib.ListN.{length, take, drop, length-map}
use Rattle.model.specs.Contain.{contained}
use Rattle.model.specs.Refusal.{Answer, refused, accepted}
use Rattle.model.specs.Request.{Request as Asks}
use Rattle.model.specs.Explain.{Explained, rows, explanation}
use Rattle.model.specs.Explain as explain
use Rattle.model.specs.Calls.{Memory, kept, over}
use Rattle.model.specs.Calls as calls
use Rattle.std.specs.Prelude.{Result, Err}
use Rattle.answer.specs.declared.Refusal.{Refusal}
use Rattle.explain.specs.Answers.{told, numbers, numbers_of}
use Rattle.explain.specs.declared.Explanation.{Explanation}
use Rattle.rows.specs.Rows.{from_numbers, row_of, leaving, count_in, Tells}
use Rattle.rows.specs.declared.Row.{Row}

-- a row's numbers are the row again
numbered : (rs : List explain.Row) → map row_of (map from_numbers (map numbers_of rs)) ≡ rs
numbered [] = refl
numbered (r ∷ rs) = ap (λ l. r ∷ l) (numbered rs)

module _ {A B : Type 0} (f : A → B) where
  -- what f makes of those that are left
  map_drop : (n : ℕ) (l : List A) → map f (drop n l) ≡ drop n (map f l)
  map_drop zero l = refl
  map_drop (suc n) [] = refl
  map_drop (suc n) (a ∷ l) = map_drop n l

  -- what f makes of those in front and of the others
  pub map_over : (new old : List A) → map f (over new old) ≡ over (map f new) (map f old)
  map_over new old = map-append f new (drop (length new) old) ∙ ap (λ l. map f new ++ l) (map_drop (length new) old) ∙ ap (λ n. map f new ++ drop n (map f old)) (sym (length-map new f))

-- the rows that are stored are those of the answer
stored : (a : Answer Explained) (rs : List explain.Row) (ys : List Row) (ns : List (List ℕ)) → ns ≡ kept a (map numbers_of rs) []
    → map row_of (over (map from_numbers ns) ys) ≡ kept a (over rs (map row_of ys)) (map row_of ys)
unfolding kept
stored (refused n) rs ys ns e = rw e
stored (accepted a) rs ys ns e = map_over row_of (map from_numbers ns) ys ∙ ap (λ l. over (map row_of (map from_numbers l)) (map row_of ys)) e ∙ ap (λ l. over l (map row_of ys)) (numbered rs)

-- the explanation, whole
pub answered : (m : Memory) (q : Asks) (ys zs : List Row) (before ns : List (List ℕ)) (r : Result Explanation Refusal) (n : ℕ)
    → Tells m q (length ys) r before ns → n ≡ count_in r → zs ≡ over (map from_numbers (take n ns)) ys → leaving r zs ≡ calls.explain m q (map row_of ys)
unfolding calls.explain numbers
answered m q ys zs before ns r n t c e =
    let front : take n ns ≡ kept (told r) (map numbers_of (rows (contained m.policy) m.policy q)) [] = ap (λ k. take k ns) c ∙ t.rows in
    let left : map row_of zs ≡ kept (told r) (over (rows (contained m.policy) m.policy q) (map row_of ys)) (map row_of ys) =
    ap (map row_of) e ∙ stored (told r) (rows (contained m.policy) m.policy q) ys (take n ns) front in
    let answers : told r ≡ explanation (contained m.policy) m.holds_table (length (map row_of ys)) m.policy q =
    t.answers ∙ ap (λ k. explanation (contained m.policy) m.holds_table k m.policy q) (sym (length-map ys row_of)) in
    λ i. record { answers = answers i; leaves = (left ∙ ap (λ a. kept a (over (rows (contained m.policy) m.policy q) (map row_of ys)) (map row_of ys)) answers) i }

-- a refused one leaves the rows as they were
pub answered_refused : (m : Memory) (q : Asks) (ys : List Row) (before ns : List (List ℕ)) (x : Refusal)
    → Tells m q (length ys) (Err x) before ns → leaving (Err x) ys ≡ calls.explain m q (map row_of ys)
answered_refused m q ys before ns x t = answered m q ys ys before ns (Err x) 0 t refl refl
