-- 01, "Containment and the decision", the explanation's rows as relations: which rows there are, and what each says.
-- Assumes nothing.
use Rattle.std.specs.Prelude.{◌≡◌, Bool, true, false, List, [], ◌∷◌, ◌++◌, ℕ, ◌≤◌}
use Rattle.model.specs.Lists.{In, all_of, before}
use Rattle.model.specs.Policy.{Association, Prohibition, Policy, by_user, by_process, by_attribute, association_fields, user_of}
use Rattle.model.specs.Rule.{classes_of, gives}
use Rattle.model.specs.Request.{Request, Alternative, Asked, asked_of, permitted}
use Rattle.model.specs.Explain.{Row, grant_row, deny_row, not_held, through_user, through_process, through_attribute}
use Rattle.model.specs.Decided.{Told, ClassOf, Given, HeldOver, Restricts}

-- "each argument, right and containing class, all rising"
abbrev pub row_place : Row → List ℕ
row_place r = r.argument ∷ r.right ∷ r.number ∷ []

-- the first of a list that fails a test: what stands before it passes
pub record FirstFailing {A : Type 0} (test : A → Bool) (l : List A) : Type 0 where
  pub front : List A
  pub it : A
  pub behind : List A
  pub parts : l ≡ front ++ it ∷ behind
  pub passed : all_of test front ≡ true
  pub fails : test it ≡ false

-- the least of the numbers that are so
pub record Least (Is : ℕ → Type 0) (n : ℕ) : Type 0 where
  pub is : Is n
  pub least : (m : ℕ) → Is m → n ≤ m

module _ (W : ℕ → ℕ → Bool) (p : Policy) (q : Request) where
  -- the row is that of a right that the alternative asks and a class of its element
  pub record GrantRowOf (k : ℕ) (alternative : Alternative) (row : Row) : Type 0 where
    pub it : Asked
    pub asks : In it (asked_of alternative q)
    pub its_class : ℕ
    pub its : In its_class (classes_of (W it.element) p)
    pub is : row ≡ grant_row W p q k it its_class

  -- "the lowest authorizing association by user attribute, target, then rights as a number" is the one that the row names
  pub record LowestNamed (a : Asked) (c : ℕ) (row : Row) : Type 0 where
    pub best : Association
    pub there : In best p.associations
    pub authorizes : gives (W (user_of p q.process)) (W a.element) W a.right c best ≡ true
    pub lowest : (b : Association) → In b p.associations → gives (W (user_of p q.process)) (W a.element) W a.right c b ≡ true
        → before (association_fields b) (association_fields best) ≡ false
    pub attribute : row.attribute ≡ best.attribute
    pub target : row.target ≡ best.target
    pub rights : row.rights ≡ best.rights

  -- the row of the alternative with number k, "with its first failing argument and right"
  pub record DenyRowOf (k : ℕ) (alternative : Alternative) (row : Row) : Type 0 where
    pub first : FirstFailing (permitted W p q) (asked_of alternative q)
    pub is : row ≡ deny_row W p q k first.it

  -- a class of the element in which no association gives the right
  pub record Lacks (a : Asked) (c : ℕ) : Type 0 where
    pub its : ClassOf (Told W) p a.element c
    pub not_given : Given (Told W) p (user_of p q.process) a.right a.element c → ⊥

  -- a subject of the given sort through which the right is restricted
  pub record Through (a : Asked) (sort subject : ℕ) : Type 0 where
    pub by : Prohibition
    pub there : In by p.prohibitions
    pub restricts : Restricts (Told W) p q.process (user_of p q.process) a.right a.element by
    pub sorted : by.sort ≡ sort
    pub named : by.subject ≡ subject

  -- "cause 1, right not held, the lowest class that lacks it (0 if there is no class); causes 2, 3, 4, restricted through user, process or
  -- attribute, with the lowest subject id; the causes are tried from 1 up": the cause and its number
  pub data Why (a : Asked) : (cause number : ℕ) → Type 0 where
    no_class : classes_of (W a.element) p ≡ [] → Why a not_held 0
    lacking_class : {c : ℕ} → Least (Lacks a) c → Why a not_held c
    through_the_user : {s : ℕ} → HeldOver (Told W) p (user_of p q.process) a.right a.element
        → Least (Through a by_user) s → Why a through_user s
    through_the_process : {s : ℕ} → HeldOver (Told W) p (user_of p q.process) a.right a.element
        → ((x : ℕ) → Through a by_user x → ⊥)
        → Least (Through a by_process) s → Why a through_process s
    through_an_attribute : {s : ℕ} → HeldOver (Told W) p (user_of p q.process) a.right a.element
        → ((x : ℕ) → Through a by_user x → ⊥) → ((x : ℕ) → Through a by_process x → ⊥)
        → Least (Through a by_attribute) s → Why a through_attribute s
