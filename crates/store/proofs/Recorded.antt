-- A prohibition's record of eleven words: which prohibition it is; that the words that count are in the order of the fields, and the same where the
-- fields are; and that the words behind them decide nothing.
-- Assumes nothing.
use mathlib.Core.Path.{◌≡◌, refl, sym, ap, ap₂, ◌∙◌}
use mathlib.Core.Bool.{Bool, true, false, ◌&&◌}
use mathlib.Core.List.{List, [], ◌∷◌, ◌++◌, append_assoc}
use Prim.Native.Nat.{ℕ, zero, suc, ◌+◌, ◌*◌, ◌-◌, ◌/◌, ◌%◌, ◌≤◌, ◌<◌}
use native.Mathlib.Omega.{arith}
use borrow.Author.Tests.{eqb-true, eq-eqb}
use lib.Dec.{eqb}
use lib.ListN.{length, take, drop, get_or, replicate, length-append, length-replicate, take-append-drop, get_or-append}
use lib.Seq.{length-take-le, take-append-add, get_or-append-add}
use Rattle.model.specs.Lists.{tabulate, before, same}
use Rattle.model.specs.Policy.{Prohibition, prohibition_fields}
use Rattle.model.specs.Sound.{listed}
use Rattle.model.proofs.Truth.{clash, and_alike}
use Rattle.model.proofs.Indexed.{length_tabulate}
use Rattle.table.specs.Layout.{word}
use Rattle.table.specs.View.{inclusion_count, exclusion_count}
use Rattle.table.specs.Facts.{ShortLists}
use Rattle.group.specs.Group.{begins}
use Rattle.store.specs.ProhibitionWords.{Storable, prohibition_front, prohibition_record}
use Rattle.group.proofs.Records.{tabulate_alike}
use Rattle.store.proofs.Mapped.{field_alike, fields_packed, same_packed}

-- the prohibition whose words start there
abbrev pub prohibition_from : List ℕ → (start : ℕ) → Prohibition
prohibition_from mem start = record {
  sort = word mem start / 1024;
  subject = word mem start / 2 % 512;
  form = word mem start % 2;
  rights = word mem (start + 1);
  inclusion = tabulate (inclusion_count mem start) (λ k. word mem (start + 3 + k));
  exclusion = tabulate (exclusion_count mem start) (λ k. word mem (start + 3 + inclusion_count mem start + k));
}

-- the prohibition that a record is
abbrev pub prohibition_in : List ℕ → Prohibition
prohibition_in r = prohibition_from r 0

-- the fields go into words side by side
pub record Narrow (b : Prohibition) : Type 0 where
  pub low_subject : b.subject < 512
  pub low_form : b.form < 2
  pub few_inclusions : length b.inclusion ≤ 4
  pub few_exclusions : length b.exclusion ≤ 4

-- so do those of a prohibition that is to be stored
pub storable_narrow : {b : Prohibition} → Storable b → Narrow b
storable_narrow s = record { low_subject = s.low_subject; low_form = omega (arith, s.low_form); few_inclusions = s.few_inclusions; few_exclusions = s.few_exclusions }

-- and of one that a record with short lists is
short_narrow : {r : List ℕ} → ShortLists r 0 → Narrow (prohibition_in r)
short_narrow {r} y = record {
  low_subject = omega arith;
  low_form = omega arith;
  few_inclusions = rw (length_tabulate (inclusion_count r 0) (λ k. word r (3 + k))) y.few_inclusions;
  few_exclusions = rw (length_tabulate (exclusion_count r 0) (λ k. word r (3 + inclusion_count r 0 + k))) y.few_exclusions;
}

-- the rest matters only where the first fields are the same
same_alike : (x y : ℕ) (xs ys us vs : List ℕ) → (x ≡ y → same xs ys ≡ same us vs) → same (x ∷ xs) (y ∷ ys) ≡ same (x ∷ us) (y ∷ vs)
unfolding same
same_alike x y xs ys us vs h = and_alike (eqb x y) (λ t. h (eqb-true x y t))

-- a comparison that goes field by field: it takes two fields as one number, and looks at the rest only where the first fields are the same
record Compares (T : List ℕ → List ℕ → Bool) : Type 0 where
  packed : (m a b x y : ℕ) (us vs : List ℕ) → b < m → y < m → T (a ∷ b ∷ us) (x ∷ y ∷ vs) ≡ T ((a * m + b) ∷ us) ((x * m + y) ∷ vs)
  alike : (x y : ℕ) (xs ys us vs : List ℕ) → (x ≡ y → T xs ys ≡ T us vs) → T (x ∷ xs) (y ∷ ys) ≡ T (x ∷ us) (y ∷ vs)

module _ {T : List ℕ → List ℕ → Bool} (o : Compares T) {b c : Prohibition} (u : Narrow b) (v : Narrow c) where
  -- the first three fields are one word
  first_kept : (us vs : List ℕ) → T (b.sort ∷ b.subject ∷ b.form ∷ us) (c.sort ∷ c.subject ∷ c.form ∷ vs)
      ≡ T ((b.sort * 1024 + b.subject * 2 + b.form) ∷ us) ((c.sort * 1024 + c.subject * 2 + c.form) ∷ vs)
  first_kept us vs =
      let p : (b.sort * 512 + b.subject) * 2 + b.form ≡ b.sort * 1024 + b.subject * 2 + b.form = omega arith in
      let q : (c.sort * 512 + c.subject) * 2 + c.form ≡ c.sort * 1024 + c.subject * 2 + c.form = omega arith in
      o.packed 512 b.sort b.subject c.sort c.subject (b.form ∷ us) (c.form ∷ vs) u.low_subject v.low_subject
      ∙ o.packed 2 (b.sort * 512 + b.subject) b.form (c.sort * 512 + c.subject) c.form us vs u.low_form v.low_form
      ∙ ap₂ (λ (x y : ℕ). T (x ∷ us) (y ∷ vs)) p q

  -- the words that count compare as the fields do
  compared : T (prohibition_front b) (prohibition_front c) ≡ T (prohibition_fields b) (prohibition_fields c)
  unfolding prohibition_front
  compared =
      let ls : List ℕ = length b.inclusion ∷ length b.exclusion ∷ listed b in
      let ms : List ℕ = length c.inclusion ∷ length c.exclusion ∷ listed c in
      let xs : List ℕ = (length b.inclusion * 8 + length b.exclusion) ∷ listed b in
      let ys : List ℕ = (length c.inclusion * 8 + length c.exclusion) ∷ listed c in
      sym (first_kept (b.rights ∷ ls) (c.rights ∷ ms)
      ∙ o.alike (b.sort * 1024 + b.subject * 2 + b.form) (c.sort * 1024 + c.subject * 2 + c.form) (b.rights ∷ ls) (c.rights ∷ ms) (b.rights ∷ xs) (c.rights ∷ ys)
      (λ _. o.alike b.rights c.rights ls ms xs ys
      (λ _. o.packed 8 (length b.inclusion) (length b.exclusion) (length c.inclusion) (length c.exclusion) (listed b) (listed c)
      (omega (arith, u.few_exclusions)) (omega (arith, v.few_exclusions)))))

-- the order goes field by field
before_compares : Compares before
before_compares = record { packed = fields_packed; alike = field_alike }

-- so does the test whether fields are the same
same_compares : Compares same
same_compares = record { packed = same_packed; alike = same_alike }

-- the words that count are three and the ids
pub length_front : (b : Prohibition) → length (prohibition_front b) ≡ 3 + length (listed b)
unfolding prohibition_front
length_front b = omega arith

-- so they are three, the inclusions and the exclusions
pub front_counted : (b : Prohibition) → length (prohibition_front b) ≡ 3 + length b.inclusion + length b.exclusion
front_counted b = omega (arith, length_front b, length-append b.inclusion b.exclusion)

-- which is at most eleven
front_few : {b : Prohibition} → Narrow b → length (prohibition_front b) ≤ 11
front_few {b} u = omega (arith, front_counted b, u.few_inclusions, u.few_exclusions)

-- a record is the words that count, and zeros
pub record_front : (b : Prohibition) → prohibition_record b ≡ prohibition_front b ++ replicate (8 - length (listed b)) 0
unfolding prohibition_record
record_front b = refl

-- a record has eleven words
pub length_record : {b : Prohibition} → Narrow b → length (prohibition_record b) ≡ 11
unfolding prohibition_record
length_record {b} u = simp (length-append, length-replicate) (omega (arith, front_counted b, u.few_inclusions, u.few_exclusions))

-- a list told off by its places
tabulate_get_d : (l : List ℕ) → tabulate (length l) (λ k. get_or l k 0) ≡ l
unfolding tabulate
tabulate_get_d [] = refl
tabulate_get_d (x ∷ l) = ap (λ m. x ∷ m) (tabulate_get_d l)

-- a part of a list, behind n others
tabulate_behind : (n : ℕ) (l m z : List ℕ) → length l ≡ n → tabulate (length m) (λ k. get_or (l ++ (m ++ z)) (n + k) 0) ≡ m
tabulate_behind n l m z e =
    tabulate_alike (length m) (λ k. get_or (l ++ (m ++ z)) (n + k) 0) (λ k. get_or m k 0)
    (λ k h. ap (λ (i : ℕ). get_or (l ++ (m ++ z)) (i + k) 0) (sym e) ∙ get_or-append-add l (m ++ z) k 0 ∙ get_or-append m z 0 k h) ∙ tabulate_get_d m

-- the record of a prohibition is that prohibition
pub record_is : {b : Prohibition} → Narrow b → prohibition_in (prohibition_record b) ≡ b
unfolding prohibition_record prohibition_front
record_is {b} u =
    let w : ℕ = b.sort * 1024 + b.subject * 2 + b.form in
    let c : ℕ = length b.inclusion * 8 + length b.exclusion in
    let z : List ℕ = replicate (8 - length (listed b)) 0 in
    let s : w / 1024 ≡ b.sort = omega (arith, u.low_subject, u.low_form) in
    let j : w / 2 % 512 ≡ b.subject = omega (arith, u.low_subject, u.low_form) in
    let f : w % 2 ≡ b.form = omega (arith, u.low_form) in
    let n : c / 8 ≡ length b.inclusion = omega (arith, u.few_exclusions) in
    let m : c % 8 ≡ length b.exclusion = omega (arith, u.few_exclusions) in
    let p = tabulate_behind 3 (w ∷ b.rights ∷ c ∷ []) b.inclusion (b.exclusion ++ z) refl in
    let q = tabulate_behind (3 + length b.inclusion) (w ∷ b.rights ∷ c ∷ b.inclusion) b.exclusion z (omega arith) in
    rw (s, j, f, n, m, append_assoc b.inclusion b.exclusion z, p, q) refl

-- and its lists are short
pub record_short : {b : Prohibition} → Narrow b → ShortLists (prohibition_record b) 0
unfolding prohibition_record prohibition_front
record_short {b} u = record {
  few_inclusions = omega (arith, u.few_inclusions, u.few_exclusions);
  few_exclusions = omega (arith, u.few_exclusions);
}

-- a list told off in two parts
tabulate_parts : (n m : ℕ) (f : ℕ → ℕ) → tabulate n f ++ tabulate m (λ k. f (n + k)) ≡ tabulate (n + m) f
unfolding tabulate
tabulate_parts zero m f = let e : 0 + m ≡ m = omega arith in rw e (tabulate_alike m (λ k. f (0 + k)) f (λ k h. ap f (omega arith)))
tabulate_parts (suc n) m f =
    let e : suc n + m ≡ suc (n + m) = omega arith in
    rw e (ap (λ l. f 0 ∷ (tabulate n (λ k. f (suc k)) ++ l)) (tabulate_alike m (λ k. f (suc n + k)) (λ k. f (suc (n + k))) (λ k h. ap f (omega arith)))
    ∙ ap (λ l. f 0 ∷ l) (tabulate_parts n m (λ k. f (suc k))))

-- the first of a list told off
tabulate_take : (n : ℕ) (l : List ℕ) → n ≤ length l → tabulate n (λ k. get_or l k 0) ≡ take n l
unfolding tabulate
tabulate_take zero l h = refl
tabulate_take (suc n) [] h = absurd (omega arith)
tabulate_take (suc n) (x ∷ l) h = ap (λ m. x ∷ m) (tabulate_take n l (omega arith))

-- the words that count, packed from what they say
words_packed : (w s c : ℕ) (l a b : List ℕ) → length a ≡ c / 8 → length b ≡ c % 8 → l ≡ a ++ b
    → w ∷ s ∷ c ∷ l ≡ (w / 1024 * 1024 + w / 2 % 512 * 2 + w % 2) ∷ s ∷ (length a * 8 + length b) ∷ (a ++ b)
words_packed w s c l a b n m e =
    let first : w ≡ w / 1024 * 1024 + w / 2 % 512 * 2 + w % 2 = omega arith in
    let counts : c ≡ length a * 8 + length b = omega arith in
    ap₂ ◌∷◌ first (ap (λ (t : List ℕ). s ∷ t) (ap₂ ◌∷◌ counts e))

-- the first words of a record, as many as its counts say, are those that count of the prohibition that it is
front_of : (r : List ℕ) → length r ≡ 11 → ShortLists r 0 → take (3 + (inclusion_count r 0 + exclusion_count r 0)) r ≡ prohibition_front (prohibition_in r)
unfolding prohibition_front
front_of [] e y = absurd (omega arith)
front_of (w ∷ []) e y = absurd (omega arith)
front_of (w ∷ s ∷ []) e y = absurd (omega arith)
front_of (w ∷ s ∷ c ∷ l) e y =
    let n : ℕ = c / 8 in
    let m : ℕ = c % 8 in
    let r : List ℕ = w ∷ s ∷ c ∷ l in
    let at : (i k : ℕ) → i ≡ 3 + k → get_or r i 0 ≡ get_or l k 0 = λ i k q. ap (λ (j : ℕ). get_or r j 0) q ∙ get_or-append-add (w ∷ s ∷ c ∷ []) l k 0 in
    let p : tabulate n (λ k. get_or l k 0) ≡ tabulate n (λ k. get_or r (3 + k) 0) =
    tabulate_alike n (λ k. get_or l k 0) (λ k. get_or r (3 + k) 0) (λ k h. sym (at (3 + k) k refl)) in
    let q : tabulate m (λ k. get_or l (n + k) 0) ≡ tabulate m (λ k. get_or r (3 + n + k) 0) =
    tabulate_alike m (λ k. get_or l (n + k) 0) (λ k. get_or r (3 + n + k) 0) (λ k h. sym (at (3 + n + k) (n + k) (omega arith))) in
    take-append-add (w ∷ s ∷ c ∷ []) l (n + m)
    ∙ words_packed w s c (take (n + m) l) (tabulate n (λ k. get_or r (3 + k) 0)) (tabulate m (λ k. get_or r (3 + n + k) 0))
    (length_tabulate n (λ k. get_or r (3 + k) 0)) (length_tabulate m (λ k. get_or r (3 + n + k) 0))
    (sym (tabulate_parts n m (λ k. get_or l k 0) ∙ tabulate_take (n + m) l (omega (arith, y.few_inclusions, y.few_exclusions)))
    ∙ ap₂ ◌++◌ p q)

-- where the counts are the same, so is how many words count
counts_alike : {T : List ℕ → List ℕ → Bool} → Compares T → (w s c i : ℕ) (ids r : List ℕ) → length r ≡ 11
    → (c ≡ word r 2 → length ids ≡ i)
    → T (w ∷ s ∷ c ∷ ids) (take (3 + length ids) r) ≡ T (w ∷ s ∷ c ∷ ids) (take (3 + i) r)
counts_alike o w s c i ids [] e h = absurd (omega arith)
counts_alike o w s c i ids (x ∷ []) e h = absurd (omega arith)
counts_alike o w s c i ids (x ∷ y ∷ []) e h = absurd (omega arith)
counts_alike {T} o w s c i ids (x ∷ y ∷ z ∷ l) e h =
    ap (T (w ∷ s ∷ c ∷ ids)) (take-append-add (x ∷ y ∷ z ∷ []) l (length ids))
    ∙ o.alike w x (s ∷ c ∷ ids) (y ∷ z ∷ take (length ids) l) (s ∷ c ∷ ids) (y ∷ z ∷ take i l)
    (λ _. o.alike s y (c ∷ ids) (z ∷ take (length ids) l) (c ∷ ids) (z ∷ take i l)
    (λ _. o.alike c z ids (take (length ids) l) ids (take i l) (λ q. ap (λ (k : ℕ). T ids (take k l)) (h q))))
    ∙ ap (T (w ∷ s ∷ c ∷ ids)) (sym (take-append-add (x ∷ y ∷ z ∷ []) l i))

-- the words that count, compared with as many of a record, compare as the fields do
front_compared : {T : List ℕ → List ℕ → Bool} → Compares T → {b : Prohibition} → Narrow b → (r : List ℕ) → length r ≡ 11 → ShortLists r 0
    → T (prohibition_front b) (take (length (prohibition_front b)) r) ≡ T (prohibition_fields b) (prohibition_fields (prohibition_in r))
unfolding prohibition_front
front_compared {T} o {b} u r e y =
    ap (λ (k : ℕ). T (prohibition_front b) (take k r)) (length_front b)
    ∙ same_many
    ∙ ap (T (prohibition_front b)) (front_of r e y)
    ∙ compared o u (short_narrow y)
  where
    same_many : T (prohibition_front b) (take (3 + length (listed b)) r) ≡ T (prohibition_front b) (take (3 + (inclusion_count r 0 + exclusion_count r 0)) r)
    same_many = counts_alike o (b.sort * 1024 + b.subject * 2 + b.form) b.rights (length b.inclusion * 8 + length b.exclusion)
        (inclusion_count r 0 + exclusion_count r 0) (listed b) r e
        (λ q. omega (arith, length-append b.inclusion b.exclusion, u.few_inclusions, u.few_exclusions, y.few_inclusions, y.few_exclusions))

-- lists of one length that are not the same are in the order that they have alone, whatever is behind them
before_joined : (l m u v : List ℕ) → length l ≡ length m → same l m ≡ false → before (l ++ u) (m ++ v) ≡ before l m
unfolding before same
before_joined [] [] u v e d = absurd (clash {b = true} refl d)
before_joined [] (y ∷ m) u v e d = absurd (omega arith)
before_joined (x ∷ l) [] u v e d = absurd (omega arith)
before_joined (x ∷ l) (y ∷ m) u v e d =
    field_alike x y (l ++ u) (m ++ v) l m (λ q. before_joined l m u v (omega arith) (sym (ap (λ (t : Bool). t && same l m) (eq-eqb x y q)) ∙ d))

-- Of a prohibition whose fields go into words and a record of eleven words with short lists.
module _ {b : Prohibition} (u : Narrow b) (r : List ℕ) (e : length r ≡ 11) (y : ShortLists r 0) where
  -- the record begins with the words of the prohibition exactly if it is that prohibition
  pub front_same : begins (prohibition_front b) r ≡ same (prohibition_fields b) (prohibition_fields (prohibition_in r))
  unfolding begins
  front_same = front_compared same_compares u r e y

  -- where it is not, the records are in the order of the fields
  pub record_order : same (prohibition_fields b) (prohibition_fields (prohibition_in r)) ≡ false
      → before (prohibition_record b) r ≡ before (prohibition_fields b) (prohibition_fields (prohibition_in r))
  record_order d =
      let f : List ℕ = prohibition_front b in
      ap₂ before (record_front b) (sym (take-append-drop (length f) r))
      ∙ before_joined f (take (length f) r) (replicate (8 - length (listed b)) 0) (drop (length f) r)
      (sym (length-take-le (length f) r (omega (arith, front_few u)))) (front_compared same_compares u r e y ∙ d)
      ∙ front_compared before_compares u r e y

-- the first words of two records, as many as the first one's counts say, are in the order of the fields
pub fronts_order : (r s : List ℕ) → length r ≡ 11 → length s ≡ 11 → ShortLists r 0 → ShortLists s 0
    → before (take (3 + (inclusion_count r 0 + exclusion_count r 0)) r) (take (3 + (inclusion_count r 0 + exclusion_count r 0)) s)
    ≡ before (prohibition_fields (prohibition_in r)) (prohibition_fields (prohibition_in s))
fronts_order r s d e y z =
    let k : ℕ = 3 + (inclusion_count r 0 + exclusion_count r 0) in
    let n : length (prohibition_front (prohibition_in r)) ≡ k = ap length (sym (front_of r d y)) ∙ length-take-le k r (omega (arith, y.few_inclusions, y.few_exclusions)) in
    ap₂ (λ (a : List ℕ) (i : ℕ). before a (take i s)) (front_of r d y) (sym n) ∙ front_compared before_compares (short_narrow y) s e z
