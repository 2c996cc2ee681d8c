-- A group and zeros behind it say each word of its room: equal groups lie in equal words.
-- Assumes nothing.
use mathlib.Core.Path.{◌≡◌, sym, ap, ◌∙◌}
use mathlib.Core.List.{List, ◌++◌}
use Prim.Native.Nat.{ℕ, ◌+◌, ◌*◌, ◌-◌, ◌≤◌, ◌<◌}
use native.Mathlib.Omega.{arith}
use lib.ListN.{length, take, drop, get_or, replicate, length-replicate, get_or-replicate}
use lib.Seq.{get_or-drop, get_or-take, take-add, drop-drop, ext_get_or}
use Rattle.group.specs.Group.{records, flat, group, Fits, Clear}
use Rattle.group.proofs.Widths.{width_split}
use Rattle.group.proofs.Laid.{length_part}
use Rattle.group.proofs.Records.{flat_records}
use Rattle.group.proofs.Rooms.{group_within}

-- words that are each 0
zeros : (from n : ℕ) (l : List ℕ) → from + n ≤ length l → ((i : ℕ) → from ≤ i → i < from + n → get_or l i 0 ≡ 0) → take n (drop from l) ≡ replicate n 0
zeros from n l h z =
    let len : length (take n (drop from l)) ≡ n = length_part n from l h in
    ext_get_or 0 (take n (drop from l)) (replicate n 0) (len ∙ sym (length-replicate {A = ℕ} n 0))
    (λ i k. let b : i < n = omega arith in get_or-take n (drop from l) i 0 b ∙ get_or-drop from l i 0 ∙ z (from + i) (omega arith) (omega arith) ∙ sym (get_or-replicate n i 0 0 b))

-- the words of a group's room: its records, then zeros
pub words_of_group : {base width counter most : ℕ} {l : List ℕ} → Fits base width counter most l → Clear base width counter most l
    → take (width * most) (drop base l) ≡ flat (group base width counter l) ++ replicate (width * most - length (flat (group base width counter l))) 0
unfolding group
words_of_group {base} {width} {counter} {most} {l} f c =
    let n : ℕ = get_or l counter 0 in
    let split : width * most ≡ width * n + width * (most - n) = width_split width n most f.few in
    let whole : flat (records width n (drop base l)) ≡ take (width * n) (drop base l) = flat_records width n (drop base l) in
    let len : length (flat (records width n (drop base l))) ≡ width * n = ap length whole ∙ length_part (width * n) base l (group_within f) in
    let free : width * most - length (flat (records width n (drop base l))) ≡ width * (most - n) = omega arith in
    let rest : take (width * (most - n)) (drop (base + width * n) l) ≡ replicate (width * (most - n)) 0 =
    zeros (base + width * n) (width * (most - n)) l (omega (arith, f.room)) (λ i h k. c.zero_at i h (omega arith)) in
    ap (λ (k : ℕ). take k (drop base l)) split ∙ take-add (width * n) (width * (most - n)) (drop base l)
    ∙ rw (drop-drop (width * n) base l, rest, ← whole, free)

-- equal groups lie in equal words
pub equal_groups : {base width counter most : ℕ} {l m : List ℕ} → Fits base width counter most l → Clear base width counter most l → Fits base width counter most m
    → Clear base width counter most m → group base width counter l ≡ group base width counter m → take (width * most) (drop base l) ≡ take (width * most) (drop base m)
equal_groups {width = width} {most = most} f c f' c' e =
    words_of_group f c ∙ ap (λ (g : List (List ℕ)). flat g ++ replicate (width * most - length (flat g)) 0) e ∙ sym (words_of_group f' c')
