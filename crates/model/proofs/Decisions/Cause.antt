-- Why a right is not permitted: the cause that an explanation's row names, and its number, are those that 01 says, and no others.
-- Assumes nothing.
use mathlib.Core.Path.{◌≡◌, refl, ap, ◌∙◌}
use mathlib.Core.Bool.{Bool, true, false, not, ◌&&◌}
use mathlib.Core.List.{List, [], ◌∷◌}
use Prim.Native.Nat.{ℕ}
use native.Mathlib.Omega.{arith}
use borrow.Author.Tests.{eqb-true, eq-eqb, not-true, not-false}
use lib.Dec.{eqb}
use Rattle.model.specs.Lists.{In, first, all_of, those, empty}
use Rattle.model.specs.Policy.{Policy, Prohibition, by_user, by_process, by_attribute, user_of}
use Rattle.model.specs.Rule.{classes_of, given_in, held_by, restricts, through}
use Rattle.model.specs.Request.{Request, Asked, permitted}
use Rattle.model.specs.Explain.{least_or0, lacking, through_sort, cause_of, Cause, not_held, through_user, through_process, through_attribute}
use Rattle.model.proofs.Truth.{fails_when, not_so, clash, and_cut, and_join, all_of_lem, those_in, those_pass, in_those, in_map, map_in, not_empty, passes, fails, tested}
use Rattle.model.specs.Decided.{Told, HeldOver, Subject, the_process, the_user, an_attribute, RestrictedOver}
use Rattle.model.specs.RowRule.{Least, Lacks, Through, Why, no_class, lacking_class, through_the_user, through_the_process, through_an_attribute}
use Rattle.model.proofs.Decisions.Agree.{class_says, class_when, given_says, given_when, held_says, held_when, restricts_says, restricts_when, restricted_says}
use Rattle.model.proofs.Decisions.Lowest.{least_in, least_least}
use Rattle.model.proofs.Decisions.Decision.{no_class_not_held}

empty_is : {A : Type 0} (l : List A) → empty l ≡ true → l ≡ []
unfolding empty
empty_is [] e = refl
empty_is (a ∷ l) e = absurd (clash e refl)

empty_when : {A : Type 0} (l : List A) → ((a : A) → In a l → ⊥) → empty l ≡ true
unfolding empty
empty_when [] h = refl
empty_when (a ∷ l) h = absurd (h a first)

-- the least of a list that is not empty
least_of_lem : (l : List ℕ) → empty l ≡ false → Least (λ n. In n l) (least_or0 l)
unfolding empty
least_of_lem [] e = absurd (clash refl e)
least_of_lem (x ∷ l) e = record { is = least_in x l; least = λ m i. least_least x l i }

-- there is one least, and of what is the same it is the same
least_one : (P : ℕ → Type 0) {m n : ℕ} → Least P m → Least P n → m ≡ n
least_one P {m} {n} h k = omega (arith, h.least n k.is, k.least m h.is)

least_same : (P Q : ℕ → Type 0) → ((n : ℕ) → P n → Q n) → ((n : ℕ) → Q n → P n) → {n : ℕ} → Least P n → Least Q n
least_same P Q f g {n} h = record { is = f n h.is; least = λ m k. h.least m (g m k) }

abbrev says : (cause number : ℕ) → Cause
says k n = record { cause = k; number = n }

module _ (W : ℕ → ℕ → Bool) (p : Policy) (q : Request) (a : Asked) where
  abbrev u : ℕ
  u = user_of p q.process

  abbrev is_held : Bool
  is_held = held_by (W u) (W a.element) W p a.right

  abbrev is_given : (c : ℕ) → Bool
  is_given = given_in (W u) (W a.element) W p a.right

  abbrev bars : Prohibition → Bool
  bars = restricts (W u) (W a.element) p q.process u a.right a.element

  -- the subjects of one sort through which it is restricted
  abbrev subjects : (sort : ℕ) → List ℕ
  subjects = through_sort W p q a

  abbrev by_sort : (sort : ℕ) → Prohibition → Bool
  by_sort s b = eqb b.sort s && bars b

  -- the classes that lack the right
  lacks_says : (c : ℕ) → In c (lacking W p q a) → Lacks W p q a c
  unfolding lacking
  lacks_says c i =
      let classes_here = classes_of (W a.element) p in
      record {
        its = class_says W p a.element c (those_in (λ d. not (is_given d)) classes_here i);
        not_given = λ g. clash (given_when W p u a.right a.element g) (not-true (is_given c) (those_pass (λ d. not (is_given d)) classes_here i));
      }

  lacks_when : (c : ℕ) → Lacks W p q a c → In c (lacking W p q a)
  unfolding lacking
  lacks_when c h =
      in_those (λ d. not (is_given d)) (class_when W p h.its)
      (not_so (is_given c) (fails_when (is_given c) (λ g. h.not_given (given_says W p u a.right a.element c g))))

  -- the subjects through which it is restricted
  through_says : (s x : ℕ) → In x (subjects s) → Through W p q a s x
  unfolding through_sort through
  through_says s x i =
      let m = map_in (λ b. b.subject) (those (by_sort s) p.prohibitions) i in
      let k = and_cut (eqb m.from.sort s) (bars m.from) (those_pass (by_sort s) p.prohibitions m.there) in
      record {
        by = m.from;
        there = those_in (by_sort s) p.prohibitions m.there;
        restricts = restricts_says W p q.process u a.right a.element m.from k.1;
        sorted = eqb-true _ s k.0;
        named = m.is;
      }

  through_when : (s x : ℕ) → Through W p q a s x → In x (subjects s)
  unfolding through_sort through
  through_when s x h =
      rw (← h.named)
      (in_map (λ b. b.subject) (in_those (by_sort s) h.there
      (and_join (eqb h.by.sort s) (bars h.by) (eq-eqb h.by.sort s h.sorted) (restricts_when W p q.process u a.right a.element h.restricts))))

  through_none : (s : ℕ) → ((x : ℕ) → Through W p q a s x → ⊥) → empty (subjects s) ≡ true
  through_none s h = empty_when (subjects s) (λ x i. h x (through_says s x i))

  none_through : (s : ℕ) → empty (subjects s) ≡ true → (x : ℕ) → Through W p q a s x → ⊥
  none_through s e x h = clash e (not_empty (through_when s x h))

  least_through : (s : ℕ) → empty (subjects s) ≡ false → Least (Through W p q a s) (least_or0 (subjects s))
  least_through s e = least_same (λ n. In n (subjects s)) (Through W p q a s) (through_says s) (through_when s) (least_of_lem (subjects s) e)

  through_is : (s : ℕ) {x : ℕ} → Least (Through W p q a s) x → (empty (subjects s) ≡ false) × (least_or0 (subjects s) ≡ x)
  through_is s h =
      let e : empty (subjects s) ≡ false = not_empty (through_when s _ h.is) in
      (e, least_one (Through W p q a s) (least_through s e) h)

  least_lacking : empty (lacking W p q a) ≡ false → Least (Lacks W p q a) (least_or0 (lacking W p q a))
  least_lacking e = least_same (λ n. In n (lacking W p q a)) (Lacks W p q a) lacks_says lacks_when (least_of_lem (lacking W p q a) e)

  -- where no class lacks the right and it is not held, there is no class
  lacking_none : is_held ≡ false → empty (lacking W p q a) ≡ true → classes_of (W a.element) p ≡ []
  unfolding held_by lacking
  lacking_none h e = elim (tested (empty classes_here)) [
    | passes t ↦ empty_is classes_here t
    | fails t ↦ absurd (clash (and_join (not (empty classes_here)) (all_of is_given classes_here) (not_so _ t) (all_of_lem is_given classes_here given_all)) h)
  ]
    where
      classes_here : List ℕ
      classes_here = classes_of (W a.element) p

      given_all : (c : ℕ) → In c classes_here → is_given c ≡ true
      given_all c i = not-false (is_given c) (fails_when _ (λ g. clash e (not_empty (in_those (λ d. not (is_given d)) i g))))

  -- a right held and not permitted, through no user and no process, is restricted through an attribute
  through_rest : is_held ≡ true → permitted W p q a ≡ false → empty (subjects by_user) ≡ true → empty (subjects by_process) ≡ true
      → empty (subjects by_attribute) ≡ false
  unfolding permitted
  through_rest h n e f = go (restricted_says W p q.process u a.right a.element (not-false _ (rw h at n)))
    where
      one : (b : RestrictedOver (Told W) p q.process u a.right a.element) (s : ℕ) → b.by.sort ≡ s → Through W p q a s b.by.subject
      one b s k = record { by = b.by; there = b.there; restricts = b.restricts; sorted = k; named = refl }

      by_sort_lem : (b : RestrictedOver (Told W) p q.process u a.right a.element) → Subject (Told W) q.process u b.by → empty (subjects by_attribute) ≡ false
      by_sort_lem b (the_process s t) = absurd (none_through by_process f _ (one b by_process s))
      by_sort_lem b (the_user s t) = absurd (none_through by_user e _ (one b by_user s))
      by_sort_lem b (an_attribute s t) = not_empty (through_when by_attribute _ (one b by_attribute s))

      go : RestrictedOver (Told W) p q.process u a.right a.element → empty (subjects by_attribute) ≡ false
      go b = by_sort_lem b b.restricts.subject

  is_held_lem : HeldOver (Told W) p u a.right a.element → is_held ≡ true
  is_held_lem h = held_when W p u a.right a.element h

  -- the causes as they are tried
  cause_1 : is_held ≡ false → cause_of W p q a ≡ says not_held (least_or0 (lacking W p q a))
  unfolding cause_of
  cause_1 h = rw h

  cause_2 : is_held ≡ true → empty (subjects by_user) ≡ false
      → cause_of W p q a ≡ says through_user (least_or0 (subjects by_user))
  unfolding cause_of
  cause_2 h e = rw (h, e)

  cause_3 : is_held ≡ true → empty (subjects by_user) ≡ true → empty (subjects by_process) ≡ false
      → cause_of W p q a ≡ says through_process (least_or0 (subjects by_process))
  unfolding cause_of
  cause_3 h e f = rw (h, e, f)

  cause_4 : is_held ≡ true → empty (subjects by_user) ≡ true → empty (subjects by_process) ≡ true
      → cause_of W p q a ≡ says through_attribute (least_or0 (subjects by_attribute))
  unfolding cause_of
  cause_4 h e f = rw (h, e, f)

  -- cause 1 when the right is not held
  pub cause_not_held : (HeldOver (Told W) p u a.right a.element → ⊥) → (cause_of W p q a).cause ≡ not_held
  cause_not_held h = ap (λ c. c.cause) (cause_1 (fails_when is_held (λ k. h (held_says W p u a.right a.element k))))

  -- else cause 2 when a prohibition of a user restricts
  pub cause_user : HeldOver (Told W) p u a.right a.element → {x : ℕ} → Through W p q a by_user x → (cause_of W p q a).cause ≡ through_user
  cause_user h {x} t = ap (λ c. c.cause) (cause_2 (is_held_lem h) (not_empty (through_when by_user x t)))

  -- else cause 3 when a prohibition of a process restricts
  pub cause_process : HeldOver (Told W) p u a.right a.element → ((x : ℕ) → Through W p q a by_user x → ⊥)
      → {x : ℕ} → Through W p q a by_process x → (cause_of W p q a).cause ≡ through_process
  cause_process h e {x} t = ap (λ c. c.cause) (cause_3 (is_held_lem h) (through_none by_user e) (not_empty (through_when by_process x t)))

  -- else cause 4
  pub cause_attribute : HeldOver (Told W) p u a.right a.element → ((x : ℕ) → Through W p q a by_user x → ⊥)
      → ((x : ℕ) → Through W p q a by_process x → ⊥) → (cause_of W p q a).cause ≡ through_attribute
  cause_attribute h e f = ap (λ c. c.cause) (cause_4 (is_held_lem h) (through_none by_user e) (through_none by_process f))

  why_is : {k n : ℕ} → cause_of W p q a ≡ says k n → Why W p q a k n → Why W p q a (cause_of W p q a).cause (cause_of W p q a).number
  why_is e w = rw e w

  -- the cause of a right that is not permitted, and its number, are those that 01 says
  pub cause_says : permitted W p q a ≡ false → Why W p q a (cause_of W p q a).cause (cause_of W p q a).number
  cause_says n = go is_held refl (empty (lacking W p q a)) refl (empty (subjects by_user)) refl (empty (subjects by_process)) refl
    where
      holds : is_held ≡ true → HeldOver (Told W) p u a.right a.element
      holds h = held_says W p u a.right a.element h

      go : (b : Bool) → is_held ≡ b → (c : Bool) → empty (lacking W p q a) ≡ c → (d : Bool) → empty (subjects by_user) ≡ d
          → (f : Bool) → empty (subjects by_process) ≡ f → Why W p q a (cause_of W p q a).cause (cause_of W p q a).number
      go false h true l d e f g = why_is (cause_1 h ∙ ap (λ r. says not_held (least_or0 r)) (empty_is (lacking W p q a) l)) (no_class (lacking_none h l))
      go false h false l d e f g = why_is (cause_1 h) (lacking_class (least_lacking l))
      go true h c l false e f g = why_is (cause_2 h e) (through_the_user (holds h) (least_through by_user e))
      go true h c l true e false g = why_is (cause_3 h e g) (through_the_process (holds h) (none_through by_user e) (least_through by_process g))
      go true h c l true e true g =
          why_is (cause_4 h e g)
          (through_an_attribute (holds h) (none_through by_user e) (none_through by_process g) (least_through by_attribute (through_rest h n e g)))

  -- and no others: a cause and a number that 01 says are those of the row
  pub cause_when : {k n : ℕ} → Why W p q a k n → cause_of W p q a ≡ record { cause = k; number = n }
  unfolding lacking those
  cause_when (no_class e) = cause_1 (no_class_not_held W p u a.right a.element e) ∙ rw e
  cause_when (lacking_class {c = c} l) =
      cause_1 (fails_when is_held (λ h. l.is.not_given ((held_says W p u a.right a.element h).given c l.is.its)))
      ∙ ap (says not_held) (least_one (Lacks W p q a) (least_lacking (not_empty (lacks_when c l.is))) l)
  cause_when (through_the_user h l) =
      let t = through_is by_user l in
      cause_2 (is_held_lem h) t.0 ∙ ap (says through_user) t.1
  cause_when (through_the_process h e l) =
      let t = through_is by_process l in
      cause_3 (is_held_lem h) (through_none by_user e) t.0 ∙ ap (says through_process) t.1
  cause_when (through_an_attribute h e f l) =
      let t = through_is by_attribute l in
      cause_4 (is_held_lem h) (through_none by_user e) (through_none by_process f) ∙ ap (says through_attribute) t.1
