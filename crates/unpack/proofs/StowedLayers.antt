-- A group laid into words that held none of it: the words are those of the group put anew, and groups that lie apart may be laid in either order.
-- Assumes nothing.
use mathlib.Core.Path.{◌≡◌, refl, sym, ap, ◌∙◌}
use mathlib.Core.List.{List, [], ◌∷◌, ◌++◌, map, append-nil}
use Prim.Native.Nat.{ℕ, ◌+◌, ◌*◌, ◌-◌, ◌≤◌, ◌<◌}
use native.Mathlib.Omega.{arith}
use lib.ListN.{length, take, drop, get_or, set, length-append, length-set, length-map}
use lib.Seq.{set_comm, set-append_left, take-set-lt, drop-set-lt, length-take-le}
use Rattle.model.specs.Lists.{In}
use Rattle.model.proofs.Truth.{map_in}
use Rattle.group.specs.Group.{flat, laid, regroup, Wide}
use Rattle.group.proofs.Laid.{length_part, laid_length, laid_wider, laid_before, laid_behind, drop_laid}
use Rattle.group.proofs.Records.{length_flat}
use Rattle.unpack.specs.Words.{words_of, stowed}

-- a word set before laid words, before or after they are laid
set_laid : (at c v : ℕ) (x l : List ℕ) → c < at → at ≤ length l → set (laid at x l) c v ≡ laid at x (set l c v)
unfolding laid
set_laid at c v x l h k =
    set-append_left (take at l) (x ++ drop (at + length x) l) c v (rw (length-take-le at l k) h)
    ∙ rw (take-set-lt at l c v h, drop-set-lt (at + length x) l c v (omega arith)) refl

-- words laid behind others, in either order
laid_apart : (at to : ℕ) (x y l : List ℕ) → at + length x ≤ to → to + length y ≤ length l → laid to y (laid at x l) ≡ laid at x (laid to y l)
laid_apart at to x y l h k =
    let j : ℕ = to - (at + length x) in
    let e : to ≡ at + length x + j = omega arith in
    let fits : at + length x ≤ length l = omega arith in
    let long : length (laid at x l) ≡ length l = laid_length at x l fits in
    let gap : List ℕ = take j (drop (at + length x) l) in
    let room : at + length x + length (gap ++ y) ≤ length l = simp (length-append, length_part j (at + length x) l (omega arith)) (omega arith) in
    let left : laid to y (laid at x l) ≡ laid at (x ++ (gap ++ y)) l =
    ap (λ (i : ℕ). laid i y (laid at x l)) e ∙ laid_wider (at + length x) j y (laid at x l) (omega arith)
    ∙ ap (λ (z : List ℕ). laid (at + length x) (take j z ++ y) (laid at x l)) (drop_laid at x l fits (at + length x) (omega arith))
    ∙ laid_behind at x (gap ++ y) l room in
    let right : laid at x (laid to y l) ≡ laid at (x ++ (gap ++ y)) l =
    ap (λ (i : ℕ). laid at x (laid i y l)) e ∙ ap (laid at x) (laid_wider (at + length x) j y l (omega arith)) ∙ laid_before at x (gap ++ y) l room in
    left ∙ sym right

-- two groups' words and counts laid, the one behind the other, in either order
layers_apart : (at to c d m n : ℕ) (x y l : List ℕ) → c < at → d < at → (c ≡ d → ⊥) → at + length x ≤ to → to + length y ≤ length l
    → set (laid to y (set (laid at x l) c m)) d n ≡ set (laid at x (set (laid to y l) d n)) c m
layers_apart at to c d m n x y l hc hd ne h k =
    let fits : at + length x ≤ length l = omega arith in
    let long : length (laid at x l) ≡ length l = laid_length at x l fits in
    let long' : length (laid to y l) ≡ length l = laid_length to y l k in
    ap (λ (z : List ℕ). set z d n) (sym (set_laid to c m y (laid at x l) (omega arith) (omega arith)) ∙ ap (λ (z : List ℕ). set z c m) (laid_apart at to x y l h k))
    ∙ set_comm (laid at x (laid to y l)) c d m n ne
    ∙ ap (λ (z : List ℕ). set z c m) (set_laid at d n x (laid to y l) hd (omega arith))

module _ {A : Type 0} (record_of : A → List ℕ) where
  -- records as words are the words of the group of them
  words_flat : (l : List A) → words_of record_of l ≡ flat (map record_of l)
  unfolding words_of flat
  words_flat [] = refl
  words_flat (a ∷ l) = ap (λ (x : List ℕ). record_of a ++ x) (words_flat l)

  -- records of one width, as a group
  pub records_wide : (width : ℕ) (l : List A) → ((a : A) → In a l → length (record_of a) ≡ width) → Wide width (map record_of l)
  records_wide width l h = record { each = λ r i. let m = map_in record_of l i in ap length (sym m.is) ∙ h m.from m.there }

  -- so many words they are
  pub length_words : (width : ℕ) (l : List A) → ((a : A) → In a l → length (record_of a) ≡ width) → length (words_of record_of l) ≡ width * length l
  length_words width l h = ap length (words_flat l) ∙ length_flat width (map record_of l) (records_wide width l h) ∙ ap (λ (n : ℕ). width * n) (length-map l record_of)

  -- a group laid in leaves as many words
  pub length_layer : (base counter : ℕ) (l : List A) (mem : List ℕ) → base + length (words_of record_of l) ≤ length mem → length (stowed record_of base counter l mem) ≡ length mem
  unfolding stowed
  length_layer base counter l mem h = length-set (laid base (words_of record_of l) mem) counter (length l) ∙ laid_length base (words_of record_of l) mem h

  -- where none of it stood, a group laid in is the group put anew
  pub layer_regroup : (base width counter : ℕ) (l : List A) (mem : List ℕ) → get_or mem counter 0 ≡ 0
      → stowed record_of base counter l mem ≡ regroup base width counter (map record_of l) mem
  unfolding stowed regroup
  layer_regroup base width counter l mem z =
      let none : width * get_or mem counter 0 - length (flat (map record_of l)) ≡ 0 = rw z (omega arith) in
      rw (none, length-map l record_of, append-nil (flat (map record_of l)), words_flat l) refl

-- two groups that lie apart, laid in either order
pub layers_swap : {A B : Type 0} (f : A → List ℕ) (g : B → List ℕ) (at to c d : ℕ) (l : List A) (m : List B) (mem : List ℕ) → c < at → d < at → (c ≡ d → ⊥)
    → at + length (words_of f l) ≤ to → to + length (words_of g m) ≤ length mem
    → stowed g to d m (stowed f at c l mem) ≡ stowed f at c l (stowed g to d m mem)
unfolding stowed
layers_swap f g at to c d l m mem hc hd ne h k = layers_apart at to c d (length l) (length m) (words_of f l) (words_of g m) mem hc hd ne h k
