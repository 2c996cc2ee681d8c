-- The group that stands in words: its number, its width, and that in its own place it changes nothing.
-- Assumes nothing.
use mathlib.Core.Path.{◌≡◌, ap, ◌∙◌}
use mathlib.Core.Bool.{Bool}
use mathlib.Core.List.{List, [], ◌++◌, append-nil}
use Prim.Native.Nat.{ℕ, ◌*◌, ◌-◌, ◌≤◌, ◌<◌}
use native.Mathlib.Omega.{arith}
use lib.ListN.{length, drop, get_or, length-drop}
use lib.Seq.{set-get_or}
use Rattle.model.specs.Lists.{put, less_first}
use Rattle.model.proofs.Groups.{put_length, less_length}
use Rattle.group.specs.Group.{records, flat, group, laid, regroup, Fits, Wide}
use Rattle.group.proofs.Rooms.{group_within}
use Rattle.group.proofs.Wide.{wide_records}
use Rattle.group.proofs.Laid.{length_part, laid_itself}
use Rattle.group.proofs.Records.{length_records, flat_records}

-- the group has as many records as its counter says
pub length_group : (base width counter : ℕ) (l : List ℕ) → length (group base width counter l) ≡ get_or l counter 0
unfolding group
length_group base width counter l = length_records width (get_or l counter 0) (drop base l)

-- each of its records has the width
pub wide_group : {base width counter most : ℕ} {l : List ℕ} → Fits base width counter most l → Wide width (group base width counter l)
unfolding group
wide_group {base} {width} {counter} {most} {l} f = wide_records width (get_or l counter 0) (drop base l) (simp length-drop (omega (arith, group_within f)))

-- no more stand in it than there is room for
pub group_few : {base width counter most : ℕ} {l : List ℕ} → Fits base width counter most l → length (group base width counter l) ≤ most
group_few {base} {width} {counter} {most} {l} f = omega (arith, f.few, length_group base width counter l)

-- nor with one put in, where there is room for it
pub put_few : {base width counter most : ℕ} {l : List ℕ} (key : List ℕ → List ℕ) (rec : List ℕ) → Fits base width counter most l → get_or l counter 0 < most
    → length (put key rec (group base width counter l)) ≤ most
put_few {base} {width} {counter} {most} {l} key rec f h = omega (arith, put_length key rec (group base width counter l), length_group base width counter l)

-- nor with one taken out
pub less_few : {base width counter most : ℕ} {l : List ℕ} (test : List ℕ → Bool) → Fits base width counter most l
    → length (less_first test (group base width counter l)) ≤ most
less_few {base} {width} {counter} {most} {l} test f = omega (arith, less_length test (group base width counter l), group_few f)

-- a group put into its own place leaves the words
pub regroup_same : {base width counter most : ℕ} {l : List ℕ} → Fits base width counter most l → regroup base width counter (group base width counter l) l ≡ l
unfolding regroup group
regroup_same {base} {width} {counter} {most} {l} f =
    let n : ℕ = get_or l counter 0 in
    let g : List (List ℕ) = records width n (drop base l) in
    let len : length (flat g) ≡ width * n = ap length (flat_records width n (drop base l)) ∙ length_part (width * n) base l (group_within f) in
    let none : width * n - length (flat g) ≡ 0 = omega arith in
    let whole : laid base (flat g ++ []) l ≡ l =
    ap (λ (x : List ℕ). laid base x l) (append-nil (flat g) ∙ flat_records width n (drop base l)) ∙ laid_itself base (width * n) l (group_within f) in
    rw (none, length_records width n (drop base l), whole) (set-get_or l counter 0)
