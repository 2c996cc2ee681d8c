-- Rows stored one after another from the front.
-- Assumes nothing.
use mathlib.Core.Path.{◌≡◌, refl, sym, ap, ◌∙◌}
use mathlib.Core.List.{List, [], ◌∷◌, ◌++◌, map, map-append}
use Prim.Native.Nat.{ℕ, zero, suc, ◌≤◌, ◌<◌}
use native.Mathlib.Numerals.{add-one}
use native.Mathlib.Omega.{arith}
use lib.ListN.{length, get_or, set, take, drop, length-set, length-map, length-append}
use lib.Seq.{drop-cons, append_snoc, set-append_seam, length-take-le, take-suc}
use Rattle.model.specs.Calls.{over}
use Rattle.rows.specs.Rows.{from_numbers}
use Rattle.rows.specs.declared.Row.{Row}

-- the rows with the first k stored anew, in order
abbrev pub filled : List Row → List (List ℕ) → ℕ → List Row
filled rs ns zero = rs
filled rs ns (suc k) = set (filled rs ns k) k (from_numbers (get_or ns k []))

-- there are as many rows as before
pub filled_length : (rs : List Row) (ns : List (List ℕ)) (k : ℕ) → length (filled rs ns k) ≡ length rs
filled_length rs ns zero = refl
filled_length rs ns (suc k) = length-set (filled rs ns k) k (from_numbers (get_or ns k [])) ∙ filled_length rs ns k

-- one row more behind those that are new
next_over : (new old : List Row) (x : Row) → length new < length old → set (over new old) (length new) x ≡ over (new ++ (x ∷ [])) old
next_over new old x h =
    let seam : length (new ++ (x ∷ [])) ≡ suc (length new) = length-append new (x ∷ []) ∙ add-one (length new) in
    rw (seam, drop-cons old (length new) x h, append_snoc) (set-append_seam new (get_or old (length new) x) (drop (suc (length new)) old) x)

-- the first k are those of the numbers, the others are as they were
pub filled_over : (rs : List Row) (ns : List (List ℕ)) (k : ℕ) → k ≤ length rs → k ≤ length ns → filled rs ns k ≡ over (map from_numbers (take k ns)) rs
filled_over rs ns zero h f = refl
filled_over rs ns (suc k) h f =
    let len : length (map from_numbers (take k ns)) ≡ k = length-map (take k ns) from_numbers ∙ length-take-le k ns (omega arith) in
    let less : length (map from_numbers (take k ns)) < length rs = omega arith in
    let more : map from_numbers (take (suc k) ns) ≡ map from_numbers (take k ns) ++ (from_numbers (get_or ns k []) ∷ []) =
    ap (map from_numbers) (take-suc ns k [] f) ∙ map-append from_numbers (take k ns) (get_or ns k [] ∷ []) in
    ap (λ l. set l k (from_numbers (get_or ns k []))) (filled_over rs ns k (omega arith) (omega arith))
    ∙ ap (λ i. set (over (map from_numbers (take k ns)) rs) i (from_numbers (get_or ns k []))) (sym len)
    ∙ next_over (map from_numbers (take k ns)) rs (from_numbers (get_or ns k [])) less
    ∙ ap (λ l. over l rs) (sym more)
