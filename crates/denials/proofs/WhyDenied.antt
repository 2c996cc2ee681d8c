-- Why a right is not permitted: the cause and its number are those of the explanation.
-- Assumes nothing.
use mathlib.Core.Path.{◌≡◌, refl, ap, ◌∙◌}
use mathlib.Core.Bool.{Bool, true, false, not, cond}
use mathlib.Core.List.{List, [], ◌∷◌}
use Prim.Native.Nat.{ℕ, ◌<◌}
use native.Mathlib.Omega.{arith}
use borrow.Author.Tests.{ne_eqb, lt-ltb}
use lib.Dec.{eqb}
use Rattle.model.specs.Lists.{In, first, empty, least_of, two}
use Rattle.model.specs.Policy.{Prohibition, Policy, by_user, by_process, by_attribute, user_of}
use Rattle.model.specs.Contain.{contained}
use Rattle.model.specs.Rule.{classes_of, held_by, through}
use Rattle.model.specs.Request.{Request as Asks, Asked}
use Rattle.model.specs.Explain.{least_or0, lacking, through_sort, cause_of}
use Rattle.model.proofs.Truth.{clash, those_in, map_in}
use Rattle.model.proofs.Decisions.Lowest.{least_in}
use Rattle.table.specs.Layout.{prohibition_count}
use Rattle.table.specs.View.{policy_of, prohibitions_of, prohibition_at}
use Rattle.table.proofs.Tabled.{tabulate_in}
use Rattle.rule.specs.declared.Asking.{Asking}
use Rattle.held.specs.Lacking.{lack_of}
use Rattle.held.proofs.Classes.{class_high}
use Rattle.denials.specs.Causes.{lowest_through, cause_for}

-- The least of numbers below 512, with 512 for none: where there is none
least_none : (l : List ℕ) → empty l ≡ true → least_of 512 l ≡ 512
unfolding empty least_of
least_none [] e = refl
least_none (x ∷ l) e = absurd (clash e refl)

-- where there is one
least_some : (l : List ℕ) → ((m : ℕ) → In m l → m < 512) → empty l ≡ false → least_of 512 l ≡ least_or0 l
unfolding empty least_of
least_some [] h e = absurd (clash refl e)
least_some (x ∷ l) h e = rw (lt-ltb x 512 (h x first))

-- the least is below 512
least_low : (l : List ℕ) → ((m : ℕ) → In m l → m < 512) → least_or0 l < 512
least_low [] h = omega arith
least_low (x ∷ l) h = h (least_of x l) (least_in x l)

-- so it is not 512
least_other : (l : List ℕ) → ((m : ℕ) → In m l → m < 512) → eqb (least_or0 l) 512 ≡ false
least_other l h = ne_eqb (least_or0 l) 512 (λ e. omega (arith, e, least_low l h))

-- with 0 for none
least_or_none : (l : List ℕ) → ((m : ℕ) → In m l → m < 512) → cond (eqb (least_of 512 l) 512) 0 (least_of 512 l) ≡ least_or0 l
unfolding empty least_of
least_or_none [] h = refl
least_or_none (x ∷ l) h = rw (lt-ltb x 512 (h x first), least_other (x ∷ l) h)

-- One right asked over one element, in the code's words and in the model's.
module _ (mem : List ℕ) (r : Asks) (a : Asked) where
  -- the policy
  abbrev p : Policy
  p = policy_of mem

  -- the user
  abbrev u : ℕ
  u = user_of p r.process

  -- the classes that lack the right
  abbrev lacks : List ℕ
  lacks = lacking (contained p) p r a

  -- the subjects of one sort through which it is restricted
  abbrev subjects : (sort : ℕ) → List ℕ
  subjects s = through_sort (contained p) p r a s

  -- the right is held
  abbrev is_held : Bool
  is_held = held_by (contained p u) (contained p a.element) (contained p) p a.right

  -- each of the classes is below 512
  lacks_small : (m : ℕ) → In m lacks → m < 512
  unfolding lacking
  lacks_small m i = class_high (contained p a.element) mem (those_in _ (classes_of (contained p a.element) p) i)

  -- so is each of the subjects
  subjects_small : (s m : ℕ) → In m (subjects s) → m < 512
  unfolding through_sort through policy_of prohibitions_of
  subjects_small s m i =
      let f = map_in (λ (b : Prohibition). b.subject) _ i in
      let w = tabulate_in (prohibition_count mem) (prohibition_at mem) (those_in _ _ f.there) in
      let e = ap (λ (b : Prohibition). b.subject) w.is ∙ f.is in
      omega (arith, e)

  -- what lacks is 512 where the right is held
  lack_held : is_held ≡ true → lack_of (contained p u) (contained p a.element) (contained p) p a.right ≡ 512
  unfolding lack_of
  lack_held h = rw h

  -- and the lowest of the classes that lack it where it is not
  lack_lowest : is_held ≡ false → lack_of (contained p u) (contained p a.element) (contained p) p a.right ≡ least_or0 lacks
  unfolding lack_of lacking
  lack_lowest h = rw h

  module _ (q : Asking) (process : q.process ≡ r.process) (user : q.user ≡ u) (element : q.element ≡ a.element) (right : q.right ≡ a.right) where
    -- the lowest subject
    lowest_is : (s : ℕ) → lowest_through p q s ≡ least_of 512 (subjects s)
    unfolding lowest_through through_sort
    lowest_is s = rw (process, user, element, right)

    -- the cause and its number are those of the explanation
    pub cause_as : cause_for p q ≡ two (cause_of (contained p) p r a).cause (cause_of (contained p) p r a).number
    unfolding cause_for cause_of
    cause_as =
        rw (lowest_is by_user, lowest_is by_process, lowest_is by_attribute, user, element, right)
        (go is_held refl (empty (subjects by_user)) refl (empty (subjects by_process)) refl)
      where
        go : (h : Bool) → is_held ≡ h → (x : Bool) → empty (subjects by_user) ≡ x → (y : Bool) → empty (subjects by_process) ≡ y
            → cond (not (eqb (lack_of (contained p u) (contained p a.element) (contained p) p a.right) 512))
            (two 1 (lack_of (contained p u) (contained p a.element) (contained p) p a.right))
            (cond (not (eqb (least_of 512 (subjects by_user)) 512)) (two 2 (least_of 512 (subjects by_user)))
            (cond (not (eqb (least_of 512 (subjects by_process)) 512)) (two 3 (least_of 512 (subjects by_process)))
            (two 4 (cond (eqb (least_of 512 (subjects by_attribute)) 512) 0 (least_of 512 (subjects by_attribute))))))
            ≡ two (cause_of (contained p) p r a).cause (cause_of (contained p) p r a).number
        go false h x e y f = rw (h, lack_lowest h, least_other lacks lacks_small)
        go true h false e y f =
            rw (h, lack_held h, e, least_some (subjects by_user) (subjects_small by_user) e, least_other (subjects by_user) (subjects_small by_user))
        go true h true e false f =
            rw (h, lack_held h, e, least_none (subjects by_user) e, f, least_some (subjects by_process) (subjects_small by_process) f, least_other (subjects by_process) (subjects_small by_process))
        go true h true e true f =
            rw (h, lack_held h, e, least_none (subjects by_user) e, f, least_none (subjects by_process) f, least_or_none (subjects by_attribute) (subjects_small by_attribute))
