-- Records out of words, and words out of records.
-- Assumes nothing.
use mathlib.Core.Path.{◌≡◌, refl, sym, ap, ap₂, ◌∙◌}
use mathlib.Core.List.{List, [], ◌∷◌, ◌++◌, append_assoc}
use Prim.Native.Nat.{ℕ, zero, suc, ◌+◌, ◌*◌, ◌-◌, ◌≤◌, ◌<◌}
use native.Mathlib.Nat.{mul-zero, mul-suc}
use native.Mathlib.Omega.{arith}
use lib.ListN.{length, take, drop, get_or, length-append}
use lib.Seq.{take-add, take-take, take-nil, take_at, drop_at, drop-drop}
use Rattle.model.specs.Lists.{first, tabulate}
use Rattle.model.proofs.Indexed.{get_d_tabulate}
use Rattle.group.specs.Group.{records, flat, Wide}
use Rattle.group.proofs.Wide.{wide_rest}

-- there are as many records as asked for
pub length_records : (width n : ℕ) (l : List ℕ) → length (records width n l) ≡ n
unfolding records
length_records width zero l = refl
length_records width (suc n) l = ap suc (length_records width n (drop width l))

-- the width of one record more, first
more_first : (width i : ℕ) → width + width * i ≡ width * suc i
more_first width i = omega (arith, mul-suc width i)

-- the words of records are the words that they came from
pub flat_records : (width n : ℕ) (l : List ℕ) → flat (records width n l) ≡ take (width * n) l
unfolding records flat
flat_records width zero l = rw (mul-zero width)
flat_records width (suc n) l =
    ap (λ (x : List ℕ). take width l ++ x) (flat_records width n (drop width l)) ∙ sym (take-add width (width * n) l) ∙ ap (λ (k : ℕ). take k l) (more_first width n)

-- the first i of n records are i records
pub take_records : (width i n : ℕ) (l : List ℕ) → i ≤ n → take i (records width n l) ≡ records width i l
unfolding records
take_records width zero n l h = refl
take_records width (suc i) zero l h = absurd (omega arith)
take_records width (suc i) (suc n) l h = ap (λ (x : List (List ℕ)). take width l ∷ x) (take_records width i n (drop width l) (omega arith))

-- the others are those from i widths on
pub drop_records : (width i n : ℕ) (l : List ℕ) → i ≤ n → drop i (records width n l) ≡ records width (n - i) (drop (width * i) l)
unfolding records
drop_records width zero n l h = let e : n - 0 ≡ n = omega arith in rw (e, mul-zero width)
drop_records width (suc i) zero l h = absurd (omega arith)
drop_records width (suc i) (suc n) l h =
    let e : suc n - suc i ≡ n - i = omega arith in
    drop_records width i n (drop width l) (omega arith)
    ∙ rw e (ap (records width (n - i)) (drop-drop (width * i) width l ∙ ap (λ (k : ℕ). drop k l) (more_first width i)))

-- the words of records behind records
pub flat_append : (g h : List (List ℕ)) → flat (g ++ h) ≡ flat g ++ flat h
unfolding flat
flat_append [] h = refl
flat_append (r ∷ g) h = ap (λ (x : List ℕ). r ++ x) (flat_append g h) ∙ sym (append_assoc r (flat g) (flat h))

-- a part by its end, or by its length
pub part_ends : (from n : ℕ) (l : List ℕ) → drop from (take (from + n) l) ≡ take n (drop from l)
part_ends zero n l = let e : 0 + n ≡ n = omega arith in rw e
part_ends (suc from) n [] = let e : suc from + n ≡ suc (from + n) = omega arith in rw e (sym (take-nil n))
part_ends (suc from) n (x ∷ l) = let e : suc from + n ≡ suc (from + n) = omega arith in rw e (part_ends from n l)

-- records come from as many words as they have
pub records_front : (width n : ℕ) (l : List ℕ) → records width n (take (width * n) l) ≡ records width n l
unfolding records
records_front width zero l = refl
records_front width (suc n) l =
    let e : width * suc n ≡ width + width * n = omega (arith, more_first width n) in
    let h : width ≤ width + width * n = omega arith in
    rw (e, take-take width (width + width * n) l h, part_ends width (width * n) l) (ap (λ (x : List (List ℕ)). take width l ∷ x) (records_front width n (drop width l)))

-- so equal words give equal records
pub records_alike : (width n : ℕ) (l m : List ℕ) → take (width * n) l ≡ take (width * n) m → records width n l ≡ records width n m
records_alike width n l m e = sym (records_front width n l) ∙ ap (records width n) e ∙ records_front width n m

-- lists told off from the same are the same
pub tabulate_alike : {A : Type 0} (n : ℕ) (f g : ℕ → A) → ((i : ℕ) → i < n → f i ≡ g i) → tabulate n f ≡ tabulate n g
unfolding tabulate
tabulate_alike zero f g h = refl
tabulate_alike (suc n) f g h = ap₂ ◌∷◌ (h 0 (omega arith)) (tabulate_alike n (λ i. f (suc i)) (λ i. g (suc i)) (λ i l. h (suc i) (omega arith)))

-- record i starts i widths on
pub records_at : (width n : ℕ) (l : List ℕ) → records width n l ≡ tabulate n (λ i. take width (drop (width * i) l))
unfolding records tabulate
records_at width zero l = refl
records_at width (suc n) l =
    ap₂ ◌∷◌ (rw (mul-zero width))
    (records_at width n (drop width l)
    ∙ tabulate_alike n (λ i. take width (drop (width * i) (drop width l))) (λ i. take width (drop (width * suc i) l))
    (λ i h. ap (take width) (drop-drop (width * i) width l ∙ ap (λ (k : ℕ). drop k l) (more_first width i))))

-- the same, of one record
pub record_at_lem : (width n : ℕ) (l : List ℕ) (i : ℕ) (d : List ℕ) → i < n → get_or (records width n l) i d ≡ take width (drop (width * i) l)
record_at_lem width n l i d h = ap (λ (g : List (List ℕ)). get_or g i d) (records_at width n l) ∙ get_d_tabulate n (λ j. take width (drop (width * j) l)) i d h

-- records of one width have so many words
pub length_flat : (width : ℕ) (g : List (List ℕ)) → Wide width g → length (flat g) ≡ width * length g
unfolding flat
length_flat width [] w = sym (mul-zero width)
length_flat width (r ∷ g) w =
    let e : length (flat g) ≡ width * length g = length_flat width g (wide_rest w) in
    simp length-append (omega (arith, w.each r first, more_first width (length g)))

-- records that were laid down are there again
pub records_flat : (width : ℕ) (g : List (List ℕ)) (rest : List ℕ) → Wide width g → records width (length g) (flat g ++ rest) ≡ g
unfolding records flat
records_flat width [] rest w = refl
records_flat width (r ∷ g) rest w =
    let e : length r ≡ width = w.each r first in
    rw (append_assoc r (flat g) rest, take_at r (flat g ++ rest) width e, drop_at r (flat g ++ rest) width e)
    (ap (λ (x : List (List ℕ)). r ∷ x) (records_flat width g rest (wide_rest w)))
