-- Whom a prohibition restricts, and whether some prohibition does: one law for each answer of the code.
-- Assumes nothing.
use mathlib.Core.Path.{◌≡◌, refl, sym, ◌∙◌}
use mathlib.Core.Bool.{Bool, true, false, ◌&&◌, and-true, or-false}
use Prim.Native.Nat.{ℕ}
use borrow.Author.Tests.{ne_eqb}
use Rattle.model.proofs.Truth.{and_cut}
use lib.Dec.{eqb}
use Rattle.model.specs.Policy.{Policy, Prohibition, has_right}
use Rattle.model.specs.Rule.{in_range, is_subject, restricts}

-- whose prohibition it is, by the sort
module _ (U : ℕ → Bool) (process u : ℕ) (b : Prohibition) {s : ℕ} (sort : s ≡ b.sort) {j : ℕ} (subject : j ≡ b.subject) where
  -- a user's
  pub subject_user : s ≡ 1 → eqb j u ≡ is_subject U process u b
  unfolding is_subject
  subject_user h = rw (← sort, ← subject, h, or-false (eqb j u))

  -- a process's
  pub subject_process : s ≡ 2 → eqb j process ≡ is_subject U process u b
  unfolding is_subject
  subject_process h = rw (← sort, ← subject, h, or-false (eqb j process), or-false (eqb j process))

  -- an attribute's
  pub subject_attribute : s ≡ 3 → {x : Bool} → x ≡ U j → x ≡ is_subject U process u b
  unfolding is_subject
  subject_attribute h ex = rw (← sort, ← subject, h) ex

  -- nobody's
  pub subject_none : (s ≡ 1 → ⊥) → (s ≡ 2 → ⊥) → (s ≡ 3 → ⊥) → false ≡ is_subject U process u b
  unfolding is_subject
  subject_none one two three = rw (← sort, ne_eqb s 1 one, ne_eqb s 2 two, ne_eqb s 3 three)

-- one prohibition
module _ (U E : ℕ → Bool) (p : Policy) (process u r e : ℕ) (b : Prohibition) {s : ℕ} (set : s ≡ b.rights) {x : Bool} (has : x ≡ has_right s r)
    {v : Bool} (both : v ≡ (x && is_subject U process u b)) where
  -- the right is not in its set, or its subject is another
  pub restricts_not : v ≡ false → v ≡ restricts U E p process u r e b
  unfolding restricts
  restricts_not h =
      let q : has_right b.rights r ≡ x = rw (← set) (sym has) in
      h ∙ (rw q (go x (in_range E p e b) (is_subject U process u b) (sym both ∙ h)))
    where
      go : (x i t : Bool) → (x && t) ≡ false → false ≡ (x && i && t)
      go true true t h = sym h
      go true false t h = refl
      go false i t h = refl

  -- the element is in its range or not
  pub restricts_range : v ≡ true → {z : Bool} → z ≡ in_range E p e b → z ≡ restricts U E p process u r e b
  unfolding restricts
  restricts_range h ez =
      let both_so = and_cut x (is_subject U process u b) (sym both ∙ h) in
      let q : has_right b.rights r ≡ x = rw (← set) (sym has) in
      rw (q, both_so.0, both_so.1, and-true (in_range E p e b)) ez
