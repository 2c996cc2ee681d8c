-- What a policy is whose records can be laid into the words of a table; a policy whose records cannot breaks a rule.
-- Assumes nothing.
use mathlib.Core.Path.{◌≡◌}
use mathlib.Core.Bool.{true, false, not, ◌&&◌, ◌||◌}
use mathlib.Core.List.{[], ◌∷◌}
use Prim.Native.Nat.{◌≤◌}
use borrow.Author.Tests.{leb-true, not-false}
use lib.Dec.{leb}
use lib.ListN.{length}
use Rattle.model.specs.Lists.{all_of, empty, rising, rising_ids}
use Rattle.model.specs.Policy.{Prohibition, Policy, is_element_id, is_sort, is_form, is_right_set, element_key, process_key}
use Rattle.model.specs.Sound.{within_limits, fields_fit, groups_rise, element_fits, prohibition_fits, process_fits, lists_fit, listed, subject_in_range}
use Rattle.model.specs.Image.{breaks_rule}
use Rattle.model.proofs.Truth.{clash, and_cut, and_right, or_fails, all_in, all_of_lem, passes, fails, tested}
use Rattle.model.proofs.Image.Truths.{truths}
use Rattle.model.proofs.Image.Counts.{each_right, each_rises}
use Rattle.screen.specs.Stowable.{elements_right, processes_right, lists_short, all_short, stowable}

-- What such a policy is, part by part.
pub record Parts (p : Policy) : Type 0 where
  pub limits : within_limits p ≡ true
  pub elements_fit : all_of element_fits p.elements ≡ true
  pub elements_rise : rising element_key p.elements ≡ true
  pub lists_short_lem : all_of lists_short p.prohibitions ≡ true
  pub processes_fit : all_of process_fits p.processes ≡ true
  pub processes_rise : rising process_key p.processes ≡ true

-- the test is true of each part
pub parts : (p : Policy) → stowable p ≡ true → Parts p
unfolding stowable elements_right all_short processes_right
parts p h =
    let c = truths (within_limits p) (elements_right p.elements ∷ all_short p.prohibitions ∷ processes_right p.processes ∷ []) h in
    let e = and_cut (all_of element_fits p.elements) (rising element_key p.elements) c.1.0 in
    let q = and_cut (all_of process_fits p.processes) (rising process_key p.processes) c.1.1.1.0 in
    record { limits = c.0; elements_fit = e.0; elements_rise = e.1; lists_short_lem = c.1.1.0; processes_fit = q.0; processes_rise = q.1 }

-- the parts are all that it asks
pub whole : (p : Policy) → Parts p → stowable p ≡ true
unfolding stowable elements_right all_short processes_right
whole p k = rw (k.limits, k.elements_fit, k.elements_rise, k.lists_short_lem, k.processes_fit, k.processes_rise)

-- "at most four attributes each"
pub short_lists : (b : Prohibition) → lists_short b ≡ true → (length b.inclusion ≤ 4) × (length b.exclusion ≤ 4)
unfolding lists_short
short_lists b h =
    let c = and_cut (leb (length b.inclusion) 4) (leb (length b.exclusion) 4) h in
    (leb-true (length b.inclusion) 4 c.0, leb-true (length b.exclusion) 4 c.1)

-- a prohibition whose fields are in range has short lists
pub right_short : (b : Prohibition) → prohibition_fits b ≡ true → lists_short b ≡ true
unfolding prohibition_fits lists_fit lists_short
right_short b h =
    let f = and_right (is_sort b.sort && subject_in_range b && is_form b.form && is_right_set b.rights && all_of is_element_id (listed b)) (lists_fit b) h in
    (truths (leb (length b.inclusion) 4 && leb (length b.exclusion) 4)
    (rising_ids b.inclusion ∷ rising_ids b.exclusion ∷ not (empty (listed b)) ∷ []) f).0

-- a policy that keeps the rules can be laid into the words
pub keeps_stowable : (p : Policy) → within_limits p ≡ true → fields_fit p ≡ true → groups_rise p ≡ true → stowable p ≡ true
keeps_stowable p l f g =
    let r = each_right p f in
    let c = each_rises p g in
    whole p (record {
      limits = l;
      elements_fit = r.elements;
      elements_rise = c.elements;
      lists_short_lem = all_of_lem lists_short p.prohibitions (λ b i. right_short b (all_in prohibition_fits r.prohibitions i));
      processes_fit = r.processes;
      processes_rise = c.processes;
    })

-- one that cannot breaks a rule
pub not_stowable : (p : Policy) → stowable p ≡ false → breaks_rule p ≡ true
unfolding breaks_rule
not_stowable p h = elim (tested (breaks_rule p)) [
  | passes t ↦ t
  | fails t ↦
      let c = or_fails (not (within_limits p) || not (fields_fit p)) (not (groups_rise p)) t in
      let d = or_fails (not (within_limits p)) (not (fields_fit p)) c.0 in
      absurd (clash (keeps_stowable p (not-false (within_limits p) d.0) (not-false (fields_fit p) d.1) (not-false (groups_rise p) c.1)) h)
]
